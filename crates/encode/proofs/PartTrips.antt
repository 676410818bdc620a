-- A link, a joint's entry, a base state, a pose and a load, read where their bytes stand.
use Prim.Native.Nat.{ℕ, ◌+◌, ◌*◌, ◌≤◌, ◌<◌}
use mathlib.Core.Path.{◌≡◌, refl, ap, subst, ◌∙◌}
use mathlib.Core.Bool.{true}
use mathlib.Core.List.{List, [], ◌∷◌, ◌++◌}
use native.Mathlib.Omega.{arith}
use lib.ListN.{length, get_or, take, drop}
use lib.Seq.{get_or-take, get_or-drop}
use lib.Ieee.{Float, nan, binary64, to_bits}
use borrow.Author.Tests.{eq-eqb}
use Rattle.spatial.specs.Constants.{plus_zero}
use Rattle.spatial.specs.Tables.{wrench_at}
use Rattle.model.specs.Bases.{base_numbers}
use Rattle.model.specs.Joints.{joint_numbers}
use Rattle.model.specs.Links.{link_numbers}
use Rattle.model.specs.Tables.{joint_of}
use Rattle.model.specs.declared.BaseState.{BaseState}
use Rattle.model.specs.declared.JointEntry.{JointEntry}
use Rattle.model.specs.declared.Link.{Link}
use Rattle.model.specs.declared.Pose.{Pose}
use Rattle.model.specs.declared.Pose.TheVariants.{Half, Slide}
use Rattle.wire.specs.Big.{be16, be64, f64_at, bytes16, bytes64, float_bytes}
use Rattle.wire.proofs.StandsLaws.{Stands, Doubles, stands_left, stands_right, stands_head, be16_stands, be64_stands, floats_stand, float_stands}
use Rattle.records.specs.Layout.{pose_laid}
use Rattle.records.specs.Parts.{vector_in, twist_in, frame_in}
use Rattle.records.specs.Models.{link_in, entry_in}
use Rattle.records.specs.Calls.{base_in, pose_in, load_in}
use Rattle.encode.specs.Models.{entry_bytes}
use Rattle.encode.specs.Calls.{pose_tag, pose_floats, load_bytes}
use Rattle.encode.proofs.PartLaws.{length_part, part_doubles}

pub link_stands : {s : List ℕ} (at : ℕ) (l : Link) → Doubles (link_numbers l) → Stands s at (float_bytes (link_numbers l)) → link_in s at ≡ l
unfolding link_in vector_in
link_stands {s} at l d h =
    let f : (p i : ℕ) → i < 13 → at + 8 * i ≡ p → f64_at s p ≡ get_or (link_numbers l) i nan = λ p i k e. float_stands p (link_numbers l) i d k h e in
    rw (
      f at 0 (omega arith) (omega arith),
      f (at + 8) 1 (omega arith) (omega arith),
      f (at + 8 + 8) 2 (omega arith) (omega arith),
      f (at + 8 + 16) 3 (omega arith) (omega arith),
      f (at + 32) 4 (omega arith) (omega arith),
      f (at + 32 + 8) 5 (omega arith) (omega arith),
      f (at + 32 + 16) 6 (omega arith) (omega arith),
      f (at + 56) 7 (omega arith) (omega arith),
      f (at + 56 + 8) 8 (omega arith) (omega arith),
      f (at + 56 + 16) 9 (omega arith) (omega arith),
      f (at + 80) 10 (omega arith) (omega arith),
      f (at + 80 + 8) 11 (omega arith) (omega arith),
      f (at + 80 + 16) 12 (omega arith) (omega arith),
    )

module _ {s : List ℕ} (at : ℕ) (e : JointEntry) (h : Stands s at (entry_bytes e)) where
  three : Stands s at ((e.kind ∷ bytes16 e.parent) ++ bytes16 e.number)
  unfolding entry_bytes
  three = stands_left ((e.kind ∷ bytes16 e.parent) ++ bytes16 e.number) _ h

  two : Stands s at (e.kind ∷ bytes16 e.parent)
  two = stands_left (e.kind ∷ bytes16 e.parent) (bytes16 e.number) three

  pub kind_stands : get_or s at 0 ≡ e.kind
  kind_stands = stands_head two

  parent_stands : e.parent < 65536 → be16 s (at + 1) ≡ e.parent
  parent_stands l = omega (arith, be16_stands e.parent (stands_right (at + 1) (e.kind ∷ []) (bytes16 e.parent) two refl))

  pub number_stands : e.number < 65536 → be16 s (at + 3) ≡ e.number
  unfolding bytes16
  number_stands l = omega (arith, be16_stands e.number (stands_right (at + 3) (e.kind ∷ bytes16 e.parent) (bytes16 e.number) three refl))

  floats : Stands s (at + 5) (float_bytes (joint_numbers (joint_of e)))
  unfolding entry_bytes bytes16
  floats = stands_right (at + 5) ((e.kind ∷ bytes16 e.parent) ++ bytes16 e.number) _ h refl

  pub entry_stands : Doubles (joint_numbers (joint_of e)) → e.parent < 65536 → e.number < 65536 → entry_in s at ≡ e
  unfolding entry_in frame_in vector_in
  entry_stands d p n =
      let f : (q i : ℕ) → i < 10 → at + 5 + 8 * i ≡ q → f64_at s q ≡ get_or (joint_numbers (joint_of e)) i nan = λ q i k z. float_stands q (joint_numbers (joint_of e)) i d k floats z in
      rw (
        kind_stands,
        parent_stands p,
        number_stands n,
        f (at + 5) 0 (omega arith) (omega arith),
        f (at + 5 + 8) 1 (omega arith) (omega arith),
        f (at + 5 + 16) 2 (omega arith) (omega arith),
        f (at + 5 + 24) 3 (omega arith) (omega arith),
        f (at + 5 + 32) 4 (omega arith) (omega arith),
        f (at + 5 + 32 + 8) 5 (omega arith) (omega arith),
        f (at + 5 + 32 + 16) 6 (omega arith) (omega arith),
        f (at + 61) 7 (omega arith) (omega arith),
        f (at + 61 + 8) 8 (omega arith) (omega arith),
        f (at + 61 + 16) 9 (omega arith) (omega arith),
      )

pub base_stands : {s : List ℕ} (at : ℕ) (b : BaseState) → Doubles (base_numbers b) → Stands s at (float_bytes (base_numbers b)) → base_in s at ≡ b
unfolding base_in frame_in twist_in vector_in
base_stands {s} at b d h =
    let f : (p i : ℕ) → i < 19 → at + 8 * i ≡ p → f64_at s p ≡ get_or (base_numbers b) i nan = λ p i l e. float_stands p (base_numbers b) i d l h e in
    rw (
      f at 0 (omega arith) (omega arith),
      f (at + 8) 1 (omega arith) (omega arith),
      f (at + 16) 2 (omega arith) (omega arith),
      f (at + 24) 3 (omega arith) (omega arith),
      f (at + 32) 4 (omega arith) (omega arith),
      f (at + 32 + 8) 5 (omega arith) (omega arith),
      f (at + 32 + 16) 6 (omega arith) (omega arith),
      f (at + 56) 7 (omega arith) (omega arith),
      f (at + 56 + 8) 8 (omega arith) (omega arith),
      f (at + 56 + 16) 9 (omega arith) (omega arith),
      f (at + 56 + 24) 10 (omega arith) (omega arith),
      f (at + 56 + 24 + 8) 11 (omega arith) (omega arith),
      f (at + 56 + 24 + 16) 12 (omega arith) (omega arith),
      f (at + 104) 13 (omega arith) (omega arith),
      f (at + 104 + 8) 14 (omega arith) (omega arith),
      f (at + 104 + 16) 15 (omega arith) (omega arith),
      f (at + 104 + 24) 16 (omega arith) (omega arith),
      f (at + 104 + 24 + 8) 17 (omega arith) (omega arith),
      f (at + 104 + 24 + 16) 18 (omega arith) (omega arith),
    )

-- "+0 bits"
zero_bits : {s : List ℕ} (at : ℕ) → Stands s at (bytes64 (to_bits binary64 plus_zero)) → be64 s at ≡ 0
unfolding to_bits
zero_bits at h = be64_stands 0 h

module _ {s : List ℕ} (at : ℕ) where
  -- the two floats after the tag
  after : (t : ℕ) (xs : List Float) → Stands s at (t ∷ float_bytes xs) → Stands s (at + 1) (float_bytes xs)
  after t xs h = stands_right (at + 1) (t ∷ []) (float_bytes xs) h refl

  pub pose_stands : (p : Pose) → Doubles (pose_floats p) → Stands s at (pose_tag p ∷ float_bytes (pose_floats p)) → pose_in s at ≡ p
  unfolding pose_in
  pose_stands (Half x y) d h =
      rw (
        stands_head h,
        float_stands (at + 1) (x ∷ y ∷ []) 0 d (omega arith) (after 1 (x ∷ y ∷ []) h) (omega arith),
        float_stands (at + 9) (x ∷ y ∷ []) 1 d (omega arith) (after 1 (x ∷ y ∷ []) h) (omega arith),
      )
  pose_stands (Slide x) d h =
      rw (stands_head h, float_stands (at + 1) (x ∷ plus_zero ∷ []) 0 d (omega arith) (after 2 (x ∷ plus_zero ∷ []) h) (omega arith))

  pub pose_is_laid : (p : Pose) → Stands s at (pose_tag p ∷ float_bytes (pose_floats p)) → pose_laid s at ≡ true
  unfolding pose_laid
  pose_is_laid (Half x y) h = rw (stands_head h)
  pose_is_laid (Slide x) h =
      let e : be64 s (at + 9) ≡ 0 = zero_bits (at + 9) (subst (λ (k : ℕ). Stands s k (bytes64 (to_bits binary64 plus_zero))) (let q : at + 1 + 8 * 1 ≡ at + 9 = omega arith in q) (floats_stand (at + 1) (x ∷ plus_zero ∷ []) 1 (omega arith) (after 2 (x ∷ plus_zero ∷ []) h))) in
      rw (stands_head h, eq-eqb (be64 s (at + 9)) 0 e)

-- load i of the tables, six numbers each
pub load_stands : {s : List ℕ} (at : ℕ) (links : List ℕ) (numbers : List Float) (i : ℕ) → Doubles numbers → get_or links i 0 < 65536 → 6 * i + 6 ≤ length numbers
    → Stands s at (load_bytes links numbers i) → load_in s at ≡ record { id = 0; link = get_or links i 0; wrench = wrench_at numbers i }
unfolding load_in vector_in wrench_at load_bytes bytes16
load_stands {s} at links numbers i d l h st =
    let xs = take 6 (drop (6 * i) numbers) in
    let floats = stands_right (at + 2) (bytes16 (get_or links i 0)) (float_bytes xs) st refl in
    let f : (p o : ℕ) → o < 6 → at + 2 + 8 * o ≡ p → f64_at s p ≡ get_or numbers (6 * i + o) nan = λ p o k e.
    float_stands p xs o (part_doubles 6 (6 * i) numbers h d) (rw (length_part 6 (6 * i) numbers h) k) floats e
    ∙ get_or-take 6 (drop (6 * i) numbers) o nan k ∙ get_or-drop (6 * i) numbers o nan in
    let e : be16 s at ≡ get_or links i 0 = omega (arith, be16_stands (get_or links i 0) (stands_left (bytes16 (get_or links i 0)) (float_bytes xs) st)) in
    rw (
      e,
      f (at + 2) 0 (omega arith) (omega arith) ∙ ap (λ (k : ℕ). get_or numbers k nan) (let z : 6 * i + 0 ≡ 6 * i = omega arith in z),
      f (at + 2 + 8) 1 (omega arith) (omega arith),
      f (at + 2 + 16) 2 (omega arith) (omega arith),
      f (at + 26) 3 (omega arith) (omega arith),
      f (at + 26 + 8) 4 (omega arith) (omega arith),
      f (at + 26 + 16) 5 (omega arith) (omega arith),
    )
