-- The numbers that 01 names, exact: `fin` has the sign, an odd whole number or 0, and the power of two that it is multiplied by.
use Rattle.std.specs.Prelude.{false, pos, negsuc, Float}
use Rattle.std.specs.Float.{fin}
use Rattle.spatial.specs.declared.Vector3.{Vector3}
use Rattle.spatial.specs.declared.Twist.{Twist}
use Rattle.spatial.specs.declared.Wrench.{Wrench}

-- "+0"
abbrev pub plus_zero : Float
plus_zero = fin false 0 (pos 0)

abbrev pub two : Float
two = fin false 1 (pos 1)

-- "[1-2^-40, 1+2^-40]": 2^40 - 1 and 2^40 + 1, times 2^-40
abbrev pub unit_low : Float
unit_low = fin false 1099511627775 (negsuc 39)

abbrev pub unit_high : Float
unit_high = fin false 1099511627777 (negsuc 39)

-- 9.80665 as a double: 5520653160719109 times 2^-49
abbrev pub gravity : Float
gravity = fin false 5520653160719109 (negsuc 48)

-- "Gravity is (0, 0, +9.80665)"
unfoldable pub standard_gravity : Vector3
standard_gravity = record { x = plus_zero; y = plus_zero; z = gravity }

-- "+0 for both motions", "Load sums start at +0"
unfoldable pub zero_vector : Vector3
zero_vector = record { x = plus_zero; y = plus_zero; z = plus_zero }

unfoldable pub zero_twist : Twist
zero_twist = record { angular = zero_vector; linear = zero_vector }

unfoldable pub zero_wrench : Wrench
zero_wrench = record { torque = zero_vector; force = zero_vector }
