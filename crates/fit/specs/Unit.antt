-- 01, Tables and their limits: "the unit test: the sum of squares, added left to right, lies in [1-2^-40, 1+2^-40]".
use Rattle.std.specs.Prelude.{Bool, ◌&&◌, Float}
use Rattle.std.specs.Float.Ieee.{le}
use Rattle.spatial.specs.declared.Vector3.{Vector3}
use Rattle.spatial.specs.declared.Quaternion.{Quaternion}
use Rattle.spatial.specs.Float.{◌⊕◌, ◌⊗◌}
use Rattle.spatial.specs.Constants.{unit_low, unit_high}
use Rattle.spatial.specs.Vectors.{dotted}

-- of a sum of squares
unfoldable pub is_unit : Float → Bool
is_unit sum = le unit_low sum && le sum unit_high

unfoldable pub unit_pair : Float → Float → Bool
unit_pair s c = is_unit (s ⊗ s ⊕ c ⊗ c)

unfoldable pub unit_vector : Vector3 → Bool
unit_vector v = is_unit (dotted v v)

unfoldable pub unit_quaternion : Quaternion → Bool
unit_quaternion q = is_unit (q.w ⊗ q.w ⊕ q.i ⊗ q.i ⊕ q.j ⊗ q.j ⊕ q.k ⊗ q.k)
