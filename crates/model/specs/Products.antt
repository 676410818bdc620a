-- Products in which a check keeps whether all numbers so far were finite.
use Rattle.spatial.specs.declared.Vector3.{Vector3}
use Rattle.spatial.specs.Float.{◌⊗◌}

-- number by number
unfoldable pub times_each : Vector3 → Vector3 → Vector3
times_each a b = record { x = a.x ⊗ b.x; y = a.y ⊗ b.y; z = a.z ⊗ b.z }
