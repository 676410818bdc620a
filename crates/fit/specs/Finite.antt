-- What "finite" means of a double and of each record of doubles: one test over the record's numbers in order.
use Rattle.std.specs.Prelude.{Bool, true, false, ◌&&◌, List, [], ◌∷◌, ◌++◌, eqb, Float}
use Rattle.std.specs.Float.{nan, inf, fin}
use Rattle.spatial.specs.declared.Vector3.{Vector3}
use Rattle.spatial.specs.declared.Quaternion.{Quaternion}
use Rattle.spatial.specs.declared.Matrix3.{Matrix3}
use Rattle.spatial.specs.declared.Twist.{Twist}
use Rattle.spatial.specs.declared.Wrench.{Wrench}
use Rattle.spatial.specs.declared.Frame.{Frame}

-- neither a NaN nor an infinity
unfoldable pub is_finite : Float → Bool
is_finite nan = false
is_finite (inf s) = false
is_finite (fin s m e) = true

unfoldable pub all_finite : List Float → Bool
all_finite [] = true
all_finite (x ∷ xs) = is_finite x && all_finite xs

-- the numbers of each record, in order
abbrev pub vector_numbers : Vector3 → List Float
vector_numbers v = v.x ∷ v.y ∷ v.z ∷ []

abbrev pub quaternion_numbers : Quaternion → List Float
quaternion_numbers q = q.w ∷ q.i ∷ q.j ∷ q.k ∷ []

abbrev pub matrix_numbers : Matrix3 → List Float
matrix_numbers m = vector_numbers m.x ++ (vector_numbers m.y ++ vector_numbers m.z)

abbrev pub twist_numbers : Twist → List Float
twist_numbers t = vector_numbers t.angular ++ vector_numbers t.linear

-- torque before force
abbrev pub wrench_numbers : Wrench → List Float
wrench_numbers w = vector_numbers w.torque ++ vector_numbers w.force

abbrev pub frame_numbers : Frame → List Float
frame_numbers f = quaternion_numbers f.rotation ++ vector_numbers f.translation

-- "+0", and not -0
unfoldable pub is_plus_zero : Float → Bool
is_plus_zero nan = false
is_plus_zero (inf s) = false
is_plus_zero (fin true m e) = false
is_plus_zero (fin false m e) = eqb m 0
