-- Where a writable model's record stands at the front of a list, it is laid out as asked, and the model is read from it.
use Prim.Native.Nat.{ℕ, ◌+◌, ◌-◌, ◌*◌, ◌<◌}
use mathlib.Core.Path.{◌≡◌, refl}
use mathlib.Core.Bool.{true}
use mathlib.Core.List.{List, [], ◌∷◌, ◌++◌}
use native.Mathlib.Omega.{arith}
use lib.ListN.{length-append}
use Rattle.spatial.proofs.AllLaws.{all_if}
use Rattle.spatial.proofs.BoolLaws.{and_both}
use Rattle.model.specs.Joints.{joint_numbers}
use Rattle.model.specs.Links.{link_numbers}
use Rattle.model.specs.Tables.{link_at, entry_at, joint_at}
use Rattle.model.specs.declared.Model.{Model}
use Rattle.wire.specs.Big.{bytes16, bytes32}
use Rattle.wire.proofs.StandsLaws.{Stands, Doubles, stands_left, stands_right, stands_head, be16_stands}
use Rattle.records.specs.Places.{model_length, link_count, moving, link_place, joint_place}
use Rattle.records.specs.Layout.{headed, joint_laid, model_laid}
use Rattle.records.specs.Models.{model_in}
use Rattle.encode.specs.Joined.{joined}
use Rattle.encode.specs.Models.{model_head, link_bytes, joint_bytes, model_bytes, writable}
use Rattle.encode.specs.Kept.{kept_model}
use Rattle.encode.proofs.SizeLaws.{length_head, length_link, length_links, length_entry}
use Rattle.encode.proofs.WritableLaws.{Fit, writable_fit, writable_joint}
use Rattle.encode.proofs.ReadLaws.{joined_stands, fill_same, headed_stands}
use Rattle.encode.proofs.PartTrips.{link_stands, kind_stands, number_stands, entry_stands}

-- every number of a model's links and joints is a double
pub record ModelDoubles (m : Model) : Type 0 where
  pub link : (l : ℕ) → l < m.count → Doubles (link_numbers (link_at m l))
  pub joint : (j : ℕ) → j < m.count - 1 → Doubles (joint_numbers (joint_at m j))

module _ (s : List ℕ) (m : Model) (w : writable m ≡ true) (st : Stands s 0 (model_bytes m)) where
  fit : Fit m.count m.moving
  fit = writable_fit m w

  front : Stands s 0 (model_head m.count m.moving ++ joined m.count (link_bytes m))
  unfolding model_bytes
  front = stands_left _ (joined (m.count - 1) (joint_bytes m)) st

  head : Stands s 0 (model_head m.count m.moving)
  head = stands_left _ (joined m.count (link_bytes m)) front

  start : Stands s 0 (bytes32 (model_length m.count) ++ (1 ∷ 1 ∷ bytes16 m.count))
  unfolding model_head
  start = stands_left _ (bytes16 m.moving) head

  middle : Stands s 4 (1 ∷ 1 ∷ bytes16 m.count)
  unfolding bytes32 bytes16
  middle = stands_right 4 (bytes32 (model_length m.count)) (1 ∷ 1 ∷ bytes16 m.count) start refl

  pub count_read : link_count s ≡ m.count
  count_read = let f = fit in omega (arith, be16_stands m.count (stands_right 6 (1 ∷ 1 ∷ []) (bytes16 m.count) middle refl))

  pub moving_read : moving s ≡ m.moving
  unfolding model_head bytes32 bytes16
  moving_read =
      let f = fit in
      omega (arith, be16_stands m.moving (stands_right 8 (bytes32 (model_length m.count) ++ (1 ∷ 1 ∷ bytes16 m.count)) (bytes16 m.moving) head refl))

  link : (l : ℕ) → l < m.count → Stands s (link_place l) (link_bytes m l)
  link l h =
      joined_stands 10 m.count 104 l (link_bytes m) (λ i k. length_link m i) h
      (stands_right 10 (model_head m.count m.moving) (joined m.count (link_bytes m)) front (omega (arith, length_head m.count m.moving)))

  joints : Stands s (10 + 104 * m.count) (joined (m.count - 1) (joint_bytes m))
  unfolding model_bytes
  joints =
      stands_right (10 + 104 * m.count) (model_head m.count m.moving ++ joined m.count (link_bytes m)) _ st
      (simp length-append (omega (arith, length_head m.count m.moving, length_links m)))

  joint : (j : ℕ) → j < m.count - 1 → Stands s (joint_place m.count j) (joint_bytes m j)
  joint j h = joined_stands (10 + 104 * m.count) (m.count - 1) 85 j (joint_bytes m) (λ i k. length_entry (entry_at m i)) h joints

  joint_is_laid : (j : ℕ) → j < m.count - 1 → joint_laid s (joint_place m.count j) ≡ true
  unfolding joint_laid
  joint_is_laid j h =
      let f = writable_joint m j w h in
      rw (kind_stands (joint_place m.count j) (entry_at m j) (joint j h), number_stands (joint_place m.count j) (entry_at m j) (joint j h) f.number_small) f.laid

  pub model_is_laid : model_laid s m.count ≡ true
  unfolding model_laid
  model_is_laid =
      let f = fit in
      and_both (headed s 0 (model_length m.count) 1) _
      (headed_stands 0 (model_length m.count) 1 (omega arith) (stands_left (bytes32 (model_length m.count)) (1 ∷ 1 ∷ bytes16 m.count) start) (stands_head middle) (middle.each 1 (omega arith)))
      (all_if (m.count - 1) _ joint_is_laid)

  pub model_read : ModelDoubles m → model_in s ≡ kept_model m
  unfolding model_in kept_model link_bytes
  model_read d =
      rw (
        count_read,
        moving_read,
        fill_same m.count _ (link_at m) _ (λ l h. link_stands (link_place l) (link_at m l) (d.link l h) (link l h)),
        fill_same (m.count - 1) _ (entry_at m) _ (λ j h. let f = writable_joint m j w h in entry_stands (joint_place m.count j) (entry_at m j) (joint j h) (d.joint j h) f.parent_small f.number_small),
      )
