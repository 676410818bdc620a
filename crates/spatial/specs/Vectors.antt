-- 01, The float steps: vectors, component by component.
use Rattle.std.specs.Prelude.{Float}
use Rattle.spatial.specs.declared.Vector3.{Vector3}
use Rattle.spatial.specs.Float.{◌⊕◌, ◌⊖◌, ◌⊗◌}

unfoldable pub vector_sum : Vector3 → Vector3 → Vector3
vector_sum a b = record { x = a.x ⊕ b.x; y = a.y ⊕ b.y; z = a.z ⊕ b.z }

-- a number times a vector
unfoldable pub scaled : Vector3 → Float → Vector3
scaled a s = record { x = a.x ⊗ s; y = a.y ⊗ s; z = a.z ⊗ s }

-- "a×b = (ay bz - az by, az bx - ax bz, ax by - ay bx)"
unfoldable pub crossed : Vector3 → Vector3 → Vector3
crossed a b =
    record { x = a.y ⊗ b.z ⊖ a.z ⊗ b.y; y = a.z ⊗ b.x ⊖ a.x ⊗ b.z; z = a.x ⊗ b.y ⊖ a.y ⊗ b.x }

-- "Matrix rows and dots: x, y, z in order"
unfoldable pub dotted : Vector3 → Vector3 → Float
dotted a b = a.x ⊗ b.x ⊕ a.y ⊗ b.y ⊕ a.z ⊗ b.z
