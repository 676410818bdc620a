-- The lists of a call's record, written one after another.
use Prim.Native.Nat.{ℕ, ◌+◌, ◌*◌}
use mathlib.Core.Path.{◌≡◌}
use mathlib.Core.List.{List, ◌++◌}
use native.Mathlib.Omega.{arith}
use lib.ListN.{length, length-append}
use Rattle.wire.specs.Big.{float_bytes}
use Rattle.wire.specs.Placed.{placed}
use Rattle.wire.proofs.BytesLaws.{length_float_bytes}
use Rattle.wire.proofs.PlacedLaws.{placed_then}
use Rattle.encode.specs.Joined.{joined}
use Rattle.encode.specs.Calls.{pose_bytes, load_bytes, call_lists, Asked, Counted}
use Rattle.encode.proofs.CallSizes.{lists_of, length_poses}

pub lists_placed : (c : Asked) (s t u v w : List ℕ)
    → let m = length c.positions in
    Counted c
    → t ≡ placed s 164 (joined m (pose_bytes c.positions))
    → u ≡ placed t (164 + 17 * m) (float_bytes c.speeds)
    → v ≡ placed u (164 + 25 * m) (float_bytes c.accelerations)
    → w ≡ placed v (164 + 33 * m) (joined (length c.links) (load_bytes c.links c.numbers))
    → w ≡ placed s 164 (lists_of c)
unfolding call_lists
lists_placed c s t u v w f p q r z =
    let m = length c.positions in
    let a = joined m (pose_bytes c.positions) in
    let l = length_poses c.positions in
    let k = length_float_bytes c.speeds in
    let j = length_float_bytes c.accelerations in
    placed_then s v w 164 (164 + 33 * m) (a ++ float_bytes c.speeds ++ float_bytes c.accelerations) _
    (placed_then s u v 164 (164 + 25 * m) (a ++ float_bytes c.speeds) _ (placed_then s t u 164 (164 + 17 * m) a _ p q (omega arith)) r (simp length-append (omega (arith, f.speeds))))
    z (simp length-append (omega (arith, f.speeds, f.accelerations)))
