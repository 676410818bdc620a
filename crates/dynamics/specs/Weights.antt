-- 01, The float steps: "Gravity's own kernel turns gravity link by link with the quaternion, f = mass·gravity, torque c×f."
use Rattle.spatial.specs.Vectors.{scaled, crossed}
use Rattle.spatial.specs.Rotations.{inverted, rotated}
use Rattle.spatial.specs.declared.Vector3.{Vector3}
use Rattle.spatial.specs.declared.Quaternion.{Quaternion}
use Rattle.spatial.specs.declared.Wrench.{Wrench}
use Rattle.model.specs.declared.Link.{Link}

-- gravity in the axes that a rotation leads to
unfoldable pub turned : Quaternion → Vector3 → Vector3
turned rotation g = rotated (inverted rotation) g

unfoldable pub gravity_wrench : Link → Vector3 → Wrench
gravity_wrench l g =
    let f = scaled g l.mass in
    record { torque = crossed l.center f; force = f }
