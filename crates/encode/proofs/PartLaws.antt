-- A part of a lent table, as a range of it says it.
use Prim.Native.Nat.{ℕ, ◌+◌, ◌-◌, ◌≤◌, ◌<◌}
use mathlib.Core.Path.{◌≡◌, ap}
use mathlib.Core.List.{List}
use native.Mathlib.Omega.{arith}
use lib.ListN.{length, take, drop, length-drop}
use lib.Seq.{get_or-take, get_or-drop, length-take-le}
use lib.Ieee.{Float, nan}
use Rattle.wire.specs.Big.{float_bytes}
use Rattle.wire.specs.Placed.{placed}
use Rattle.wire.proofs.StandsLaws.{Doubles}

pub length_part : (w a : ℕ) (xs : List Float) → a + w ≤ length xs → length (take w (drop a xs)) ≡ w
length_part w a xs h = length-take-le w (drop a xs) (simp length-drop (omega arith))

pub part_placed : (s : List ℕ) (at a w : ℕ) (xs : List Float) → placed s at (float_bytes (take (a + w - a) (drop a xs))) ≡ placed s at (float_bytes (take w (drop a xs)))
part_placed s at a w xs = ap (λ (k : ℕ). placed s at (float_bytes (take k (drop a xs)))) (let e : a + w - a ≡ w = omega arith in e)

-- each of a part of a list of doubles is one
pub part_doubles : (w a : ℕ) (xs : List Float) → a + w ≤ length xs → Doubles xs → Doubles (take w (drop a xs))
part_doubles w a xs h d =
    record { each = λ i l. let k : i < w = omega (arith, length_part w a xs h) in rw (get_or-take w (drop a xs) i nan k, get_or-drop a xs i nan) (d.each (a + i) (omega arith)) }
