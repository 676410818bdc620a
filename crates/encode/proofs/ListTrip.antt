-- Where the lists of a call's record stand, they are laid out as asked, and read back.
use Prim.Native.Nat.{ℕ, ◌+◌, ◌*◌, ◌<◌}
use mathlib.Core.Path.{◌≡◌}
use mathlib.Core.Bool.{true}
use mathlib.Core.List.{List, ◌++◌}
use native.Mathlib.Omega.{arith}
use lib.ListN.{length, get_or, length-append}
use Rattle.spatial.specs.All.{all}
use Rattle.spatial.proofs.AllLaws.{all_if}
use Rattle.model.specs.Poses.{no_pose}
use Rattle.wire.specs.Big.{float_bytes}
use Rattle.wire.proofs.BytesLaws.{length_float_bytes}
use Rattle.wire.proofs.StandsLaws.{Stands, Doubles, stands_left, stands_right}
use Rattle.records.specs.Places.{pose_place, speeds_place, accelerations_place, load_place}
use Rattle.records.specs.Layout.{pose_laid}
use Rattle.records.specs.Calls.{entries_in, floats_in, loads_in}
use Rattle.encode.specs.Joined.{joined}
use Rattle.encode.specs.Calls.{pose_floats, pose_bytes, load_bytes, call_lists, Asked, Counted}
use Rattle.encode.specs.Kept.{kept_loads}
use Rattle.encode.proofs.CallSizes.{lists_of, length_pose, length_poses, length_load}
use Rattle.encode.proofs.ReadLaws.{joined_stands, list_of_same, list_read, floats_read}
use Rattle.encode.proofs.PartTrips.{pose_stands, pose_is_laid, load_stands}

module _ (s : List ℕ) (at : ℕ) (c : Asked) (fit : Counted c) (st : Stands s (at + 164) (lists_of c)) where
  abbrev m : ℕ
  m = length c.positions

  three : Stands s (at + 164) (joined m (pose_bytes c.positions) ++ float_bytes c.speeds ++ float_bytes c.accelerations)
  unfolding call_lists
  three = stands_left _ (joined (length c.links) (load_bytes c.links c.numbers)) st

  two : Stands s (at + 164) (joined m (pose_bytes c.positions) ++ float_bytes c.speeds)
  two = stands_left _ (float_bytes c.accelerations) three

  pose : (i : ℕ) → i < m → Stands s (pose_place at i) (pose_bytes c.positions i)
  pose i l =
      joined_stands (at + 164) m 17 i (pose_bytes c.positions) (λ j h. length_pose c.positions j) l (stands_left _ (float_bytes c.speeds) two)

  pub poses_laid : all m (λ i. pose_laid s (pose_place at i)) ≡ true
  unfolding pose_bytes
  poses_laid = all_if m _ (λ i l. pose_is_laid (pose_place at i) (get_or c.positions i no_pose) (pose i l))

  pub positions_read : ((i : ℕ) → i < m → Doubles (pose_floats (get_or c.positions i no_pose))) → entries_in s at m ≡ c.positions
  unfolding pose_bytes
  positions_read d = list_read c.positions no_pose (λ i l. pose_stands (pose_place at i) (get_or c.positions i no_pose) (d i l) (pose i l))

  pub speeds_read : Doubles c.speeds → floats_in s (speeds_place at m) m ≡ c.speeds
  speeds_read d =
      floats_read (speeds_place at m) m c.speeds d (omega (arith, fit.speeds))
      (stands_right (at + 164 + 17 * m) (joined m (pose_bytes c.positions)) (float_bytes c.speeds) two (omega (arith, length_poses c.positions)))

  pub accelerations_read : Doubles c.accelerations → floats_in s (accelerations_place at m) m ≡ c.accelerations
  accelerations_read d =
      floats_read (accelerations_place at m) m c.accelerations d (omega (arith, fit.accelerations))
      (stands_right (at + 164 + 25 * m) (joined m (pose_bytes c.positions) ++ float_bytes c.speeds) (float_bytes c.accelerations) three
      (simp length-append (omega (arith, fit.speeds, length_poses c.positions, length_float_bytes c.speeds))))

  loads : Stands s (at + 164 + 33 * m) (joined (length c.links) (load_bytes c.links c.numbers))
  unfolding call_lists
  loads =
      stands_right (at + 164 + 33 * m) (joined m (pose_bytes c.positions) ++ float_bytes c.speeds ++ float_bytes c.accelerations) _ st
      (simp length-append
      (omega (arith, fit.speeds, fit.accelerations, length_poses c.positions, length_float_bytes c.speeds, length_float_bytes c.accelerations)))

  load : (i : ℕ) → i < length c.links → Stands s (load_place at m i) (load_bytes c.links c.numbers i)
  load i l =
      joined_stands (at + 164 + 33 * m) (length c.links) 50 i (load_bytes c.links c.numbers)
      (λ j h. length_load c.links c.numbers j (omega (arith, fit.sixes))) l loads

  pub loads_read : ((i : ℕ) → i < length c.links → get_or c.links i 0 < 65536) → Doubles c.numbers → loads_in s at m (length c.links) ≡ kept_loads c.links c.numbers
  unfolding kept_loads
  loads_read small d =
      list_of_same (length c.links) _ _
      (λ i l. load_stands (load_place at m i) c.links c.numbers i d (small i l) (omega (arith, fit.sixes)) (load i l))
