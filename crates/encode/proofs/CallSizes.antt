-- How long the parts of a call's record are.
use Prim.Native.Nat.{ℕ, ◌+◌, ◌*◌, ◌≤◌}
use mathlib.Core.Path.{◌≡◌, refl}
use mathlib.Core.Bool.{true, ◌&&◌}
use mathlib.Core.List.{List, ◌∷◌}
use native.Mathlib.Omega.{arith}
use lib.Dec.{eqb, leb}
use lib.ListN.{length, get_or, take, drop, length-append}
use lib.Ieee.{Float}
use borrow.Author.Tests.{eqb-true, leb-true}
use Rattle.spatial.proofs.BoolLaws.{and_left, and_right}
use Rattle.model.specs.Bases.{base_numbers}
use Rattle.model.specs.Poses.{no_pose}
use Rattle.model.specs.declared.BaseState.{BaseState}
use Rattle.model.specs.declared.Pose.{Pose}
use Rattle.model.specs.declared.Pose.TheVariants.{Half, Slide}
use Rattle.model.specs.declared.RootMode.{RootMode}
use Rattle.outcome.specs.declared.Function.{Function}
use Rattle.wire.specs.Big.{bytes16, bytes32, bytes64, float_bytes}
use Rattle.wire.proofs.BytesLaws.{length_float_bytes}
use Rattle.encode.specs.Joined.{joined}
use Rattle.encode.specs.Calls.{pose_tag, pose_floats, pose_bytes, load_bytes, call_start, call_head, call_lists, Asked, call_bytes, counts_fit, CallFit, Counted, call_counts_fit}
use Rattle.encode.proofs.JoinedLaws.{length_joined}
use Rattle.encode.proofs.PartLaws.{length_part}

pub call_fit : (m s a k x : ℕ) → counts_fit m s a k x ≡ true → CallFit m s a k x
unfolding counts_fit
call_fit m s a k x h =
    let r = and_right (leb k 256) (leb m 63 && (eqb s m && (eqb a m && eqb x (6 * k)))) h in
    let q = and_right (leb m 63) (eqb s m && (eqb a m && eqb x (6 * k))) r in
    let p = and_right (eqb s m) (eqb a m && eqb x (6 * k)) q in
    record {
      few = leb-true k 256 (and_left (leb k 256) (leb m 63 && (eqb s m && (eqb a m && eqb x (6 * k)))) h);
      moving = leb-true m 63 (and_left (leb m 63) (eqb s m && (eqb a m && eqb x (6 * k))) r);
      speeds = eqb-true s m (and_left (eqb s m) (eqb a m && eqb x (6 * k)) q);
      accelerations = eqb-true a m (and_left (eqb a m) (eqb x (6 * k)) p);
      sixes = eqb-true x (6 * k) (and_right (eqb a m) (eqb x (6 * k)) p);
    }

length_one : (p : Pose) → length (pose_tag p ∷ float_bytes (pose_floats p)) ≡ 17
unfolding float_bytes bytes64 bytes32 bytes16
length_one (Half s c) = refl
length_one (Slide x) = refl

pub length_pose : (ps : List Pose) (i : ℕ) → length (pose_bytes ps i) ≡ 17
unfolding pose_bytes
length_pose ps i = length_one (get_or ps i no_pose)

pub length_poses : (ps : List Pose) → length (joined (length ps) (pose_bytes ps)) ≡ 17 * length ps
length_poses ps = length_joined (length ps) 17 (pose_bytes ps) (λ i h. length_pose ps i)

pub length_load : (links : List ℕ) (numbers : List Float) (i : ℕ) → 6 * i + 6 ≤ length numbers → length (load_bytes links numbers i) ≡ 50
unfolding load_bytes bytes16
length_load links numbers i h = omega (arith, length_float_bytes (take 6 (drop (6 * i) numbers)), length_part 6 (6 * i) numbers h)

pub length_loads : (links : List ℕ) (numbers : List Float) → length numbers ≡ 6 * length links
    → length (joined (length links) (load_bytes links numbers)) ≡ 50 * length links
length_loads links numbers h = length_joined (length links) 50 (load_bytes links numbers) (λ i l. length_load links numbers i (omega arith))

pub length_call_head : (f : Function) (mode : RootMode) (base : BaseState) (m k : ℕ) → length (call_head f mode base m k) ≡ 164
unfolding call_head call_start bytes32 bytes16
length_call_head f mode base m k = simp length-append (omega (arith, length_float_bytes (base_numbers base)))

module _ (c : Asked) where
  abbrev pub head_of : List ℕ
  head_of = call_head c.function c.mode c.base (length c.positions) (length c.links)

  abbrev pub lists_of : List ℕ
  lists_of = call_lists c.positions c.speeds c.accelerations c.links c.numbers

  pub counted : call_counts_fit c ≡ true → Counted c
  counted h = call_fit _ _ _ _ _ h

  pub length_head_of : length head_of ≡ 164
  length_head_of = length_call_head c.function c.mode c.base (length c.positions) (length c.links)

  pub length_lists : Counted c → length lists_of ≡ 33 * length c.positions + 50 * length c.links
  unfolding call_lists
  length_lists h =
      simp length-append
      (omega (arith, length_poses c.positions, length_float_bytes c.speeds, length_float_bytes c.accelerations, length_loads c.links c.numbers h.sixes))

  pub length_call : Counted c → length (call_bytes c) ≡ 164 + 33 * length c.positions + 50 * length c.links
  unfolding call_bytes
  length_call h = simp length-append (omega (arith, length_head_of, length_lists h))
