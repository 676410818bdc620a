-- 01's limits of the unit test, computed: "s=1, c=2^-20 passes; s=1, c=2^-19 is refused".
use mathlib.Core.Path.{◌≡◌, refl}
use mathlib.Core.Bool.{true, false}
use lib.IntN.{pos, negsuc}
use lib.Ieee.{Float, fin, add, mul, le}
use Rattle.fit.specs.Unit.{unit_pair, is_unit}

abbrev one : Float
one = fin false 1 (pos 0)

pub at_2_to_minus_20_passes : unit_pair one (fin false 1 (negsuc 19)) ≡ true
unfolding unit_pair is_unit le add mul
at_2_to_minus_20_passes = refl

pub at_2_to_minus_19_fails : unit_pair one (fin false 1 (negsuc 18)) ≡ false
unfolding unit_pair is_unit le add mul
at_2_to_minus_19_fails = refl
