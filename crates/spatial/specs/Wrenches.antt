-- 01, The float steps: wrenches.
use Rattle.spatial.specs.declared.Quaternion.{Quaternion}
use Rattle.spatial.specs.declared.Wrench.{Wrench}
use Rattle.spatial.specs.declared.Frame.{Frame}
use Rattle.spatial.specs.Vectors.{vector_sum, crossed}
use Rattle.spatial.specs.Rotations.{rotated}

unfoldable pub wrench_sum : Wrench → Wrench → Wrench
wrench_sum a b = record { torque = vector_sum a.torque b.torque; force = vector_sum a.force b.force }

-- "To the parent: F = rotation on f; torque = (rotation on torque) + p×F"
unfoldable pub wrench_to_parent : Frame → Wrench → Wrench
wrench_to_parent f w =
    let F = rotated f.rotation w.force in
    record { torque = vector_sum (rotated f.rotation w.torque) (crossed f.translation F); force = F }

-- the root's wrench: "both halves are turned by the base rotation"
unfoldable pub world_wrench : Quaternion → Wrench → Wrench
world_wrench base w = record { torque = rotated base w.torque; force = rotated base w.force }
