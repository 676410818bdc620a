-- 01, The float steps: outward, and a link's own wrench.
use Rattle.std.specs.Prelude.{Float}
use Rattle.spatial.specs.Float.{◌⊗◌}
use Rattle.spatial.specs.Constants.{two}
use Rattle.spatial.specs.Vectors.{vector_sum, scaled, crossed}
use Rattle.spatial.specs.Rotations.{inverted, rotated, matrix_of, transformed}
use Rattle.spatial.specs.declared.Vector3.{Vector3}
use Rattle.spatial.specs.declared.Quaternion.{Quaternion}
use Rattle.spatial.specs.declared.Frame.{Frame}
use Rattle.spatial.specs.declared.Twist.{Twist}
use Rattle.spatial.specs.declared.Wrench.{Wrench}
use Rattle.model.specs.declared.JointType.{JointType}
use Rattle.model.specs.declared.JointType.TheVariants.{Fixed, Revolute, Prismatic}
use Rattle.model.specs.declared.Link.{Link}
use Rattle.dynamics.specs.declared.Motion.{Motion}

-- "Root: base angular velocity, angular acceleration, and (world gravity + linear acceleration), each turned by the inverse
-- base rotation"
unfoldable pub root_motion : Quaternion → Twist → Twist → Vector3 → Motion
root_motion base velocity acceleration gravity =
    let turn = inverted base in
    record {
      omega = rotated turn velocity.angular;
      alpha = rotated turn acceleration.angular;
      acceleration = rotated turn (vector_sum gravity acceleration.linear);
    }

-- "(a + e×p) + w×(w×p)": the acceleration of a point
unfoldable pub acceleration_at : Motion → Vector3 → Vector3
acceleration_at m p =
    vector_sum (vector_sum m.acceleration (crossed m.alpha p)) (crossed m.omega (crossed m.omega p))

-- "R is the matrix of the inverse rotation, p the translation": w' = Rw, e' = Re, a' = R((a + e×p) + w×(w×p))
unfoldable pub carried : Frame → Motion → Motion
carried frame m =
    let R = matrix_of (inverted frame.rotation) in
    record {
      omega = transformed R m.omega;
      alpha = transformed R m.alpha;
      acceleration = transformed R (acceleration_at m frame.translation);
    }

-- "Revolute: w' + v·axis; (e' + d·axis) + w'×(v·axis)"
unfoldable pub turning : Vector3 → Float → Float → Motion → Motion
turning axis v d m =
    record {
      omega = vector_sum m.omega (scaled axis v);
      alpha = vector_sum (vector_sum m.alpha (scaled axis d)) (crossed m.omega (scaled axis v));
      acceleration = m.acceleration;
    }

-- "Prismatic: (a' + d·axis) + (2v)·(w'×axis)"
unfoldable pub sliding : Vector3 → Float → Float → Motion → Motion
sliding axis v d m =
    record {
      omega = m.omega;
      alpha = m.alpha;
      acceleration = vector_sum (vector_sum m.acceleration (scaled axis d)) (scaled (crossed m.omega axis) (two ⊗ v));
    }

unfoldable pub driven : JointType → Vector3 → Float → Float → Motion → Motion
driven Fixed axis v d m = m
driven Revolute axis v d m = turning axis v d m
driven Prismatic axis v d m = sliding axis v d m

-- a joint's step from its parent's motion, at speed v and acceleration d
unfoldable pub moved : Frame → JointType → Vector3 → Float → Float → Motion → Motion
moved frame kind axis v d m = driven kind axis v d (carried frame m)

-- "f = mass·link acceleration; torque (c×f + I e) + w×(I w)"
unfoldable pub inertial_wrench : Link → Motion → Wrench
inertial_wrench l m =
    let f = scaled (acceleration_at m l.center) l.mass in
    record {
      torque = vector_sum (vector_sum (crossed l.center f) (transformed l.inertia m.alpha)) (crossed m.omega (transformed l.inertia m.omega));
      force = f;
    }
