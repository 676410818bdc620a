-- 01, The float steps: "Joint transform: revolute rotation = origin times (c, s x, s y, s z), origin translation; prismatic
-- translation = origin + origin rotation on (distance times axis); fixed: origin."
use Rattle.std.specs.Prelude.{Float}
use Rattle.spatial.specs.Float.{◌⊗◌}
use Rattle.spatial.specs.Vectors.{vector_sum, scaled}
use Rattle.spatial.specs.Rotations.{multiplied, rotated}
use Rattle.spatial.specs.declared.Vector3.{Vector3}
use Rattle.spatial.specs.declared.Quaternion.{Quaternion}
use Rattle.spatial.specs.declared.Frame.{Frame}
use Rattle.model.specs.declared.JointType.{JointType}
use Rattle.model.specs.declared.JointType.TheVariants.{Fixed, Revolute, Prismatic}
use Rattle.model.specs.declared.Pose.{Pose}
use Rattle.model.specs.declared.Pose.TheVariants.{Half, Slide}

-- (c, s x, s y, s z)
unfoldable pub half_turn : Float → Float → Vector3 → Quaternion
half_turn s c axis = record { w = c; i = s ⊗ axis.x; j = s ⊗ axis.y; k = s ⊗ axis.z }

-- a pose of another kind than the joint's, which the checks refuse, leaves the origin
unfoldable pub joint_frame : JointType → Frame → Vector3 → Pose → Frame
joint_frame Fixed origin axis pose = origin
joint_frame Revolute origin axis (Half s c) =
    record { rotation = multiplied origin.rotation (half_turn s c axis); translation = origin.translation }
joint_frame Revolute origin axis (Slide x) = origin
joint_frame Prismatic origin axis (Half s c) = origin
joint_frame Prismatic origin axis (Slide x) =
    record { rotation = origin.rotation; translation = vector_sum origin.translation (rotated origin.rotation (scaled axis x)) }
