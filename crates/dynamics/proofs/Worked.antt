-- W1, W3 and W4 of 01, and a tree on which gravity and inverse dynamics at rest differ in the last bit, computed from the definition.
use Prim.Native.Nat.{ℕ, zero, suc}
use mathlib.Core.Bool.{false}
use mathlib.Core.Path.{◌≡◌, refl}
use lib.IntN.{pos}
use lib.Ieee.{Float, fin, binary64, of_bits, add, sub, mul, neg}
use Rattle.spatial.specs.Constants.{plus_zero, two, gravity, standard_gravity, zero_vector, zero_twist, zero_wrench}
use Rattle.spatial.specs.Float.{◌⊗◌}
use Rattle.spatial.specs.Vectors.{vector_sum, scaled, crossed, dotted}
use Rattle.spatial.specs.Rotations.{inverted, multiplied, rotated, matrix_of, transformed}
use Rattle.spatial.specs.Wrenches.{wrench_sum}
use Rattle.spatial.specs.declared.Vector3.{Vector3}
use Rattle.spatial.specs.declared.Quaternion.{Quaternion}
use Rattle.tree.specs.Tree.{climb, value_at, total, total_of}
use Rattle.model.specs.declared.Link.{Link}
use Rattle.model.specs.declared.JointType.{JointType}
use Rattle.model.specs.declared.JointType.TheVariants.{Revolute, Prismatic}
use Rattle.model.specs.declared.Pose.{Pose}
use Rattle.model.specs.declared.Pose.TheVariants.{Half, Slide}
use Rattle.dynamics.specs.declared.Motion.{Motion}
use Rattle.dynamics.specs.Frames.{half_turn, joint_frame}
use Rattle.dynamics.specs.Motions.{root_motion, acceleration_at, carried, turning, driven, moved, inertial_wrench}
use Rattle.dynamics.specs.Weights.{turned, gravity_wrench}
use Rattle.dynamics.specs.Run.{Run, frame_of}
use Rattle.dynamics.specs.Figures.{inverse_of, gravity_of, figure, figure_of}

abbrev one : Float
one = fin false 1 (pos 0)

abbrev five : Float
five = fin false 5 (pos 0)

abbrev vector : Float → Float → Float → Vector3
vector x y z = record { x = x; y = y; z = z }

abbrev identity : Quaternion
identity = record { w = one; i = plus_zero; j = plus_zero; k = plus_zero }

-- no inertia
abbrev link : Float → Vector3 → Link
link mass center = record { mass = mass; center = center; inertia = record { x = zero_vector; y = zero_vector; z = zero_vector } }

abbrev either : Link → Link → ℕ → Link
either root arm zero = root
either root arm (suc l) = arm

-- two links and the joint between them, its origin a rotation; no acceleration and no loads
abbrev pair : Link → Link → JointType → Quaternion → Vector3 → Pose → Float → Run
pair root arm kind origin axis pose speed =
    record {
      count = 2;
      joint = λ j. record { kind = kind; parent = 0; number = 0; origin = record { rotation = origin; translation = zero_vector }; axis = axis };
      link = either root arm;
      pose = λ j. pose;
      speed = λ j. speed;
      acceleration = λ j. plus_zero;
      load = λ l. zero_wrench;
    }

-- the base is the identity
abbrev weight : Vector3
weight = turned identity standard_gravity

abbrev rest : Vector3 → Motion
rest g = root_motion identity zero_twist zero_twist g

-- m1, with any root link: mass 2, centre (1, 0, 0)
abbrev arm : Link
arm = link two (vector one plus_zero plus_zero)

module _ (root : Link) where
  abbrev m1 : Float → Run
  m1 speed = pair root arm Revolute identity (vector plus_zero one plus_zero) (Half plus_zero one) speed

  abbrev lift : Run
  lift = pair root arm Prismatic identity (vector plus_zero plus_zero one) (Slide plus_zero) plus_zero

  -- W1, gravity: -G
  pub w1 : figure_of (m1 plus_zero) (gravity_of (m1 plus_zero) weight) 0 ≡ neg (two ⊗ gravity)
  unfolding figure_of figure frame_of joint_frame half_turn root_motion acceleration_at carried turning driven moved inertial_wrench turned gravity_wrench standard_gravity zero_vector zero_twist zero_wrench total total_of climb value_at vector_sum scaled crossed dotted inverted multiplied rotated matrix_of transformed wrench_sum add sub mul neg of_bits
  w1 = refl

  -- W3, velocity product at speed 5: +0
  pub w3 : figure_of (m1 five) (inverse_of (m1 five) (rest zero_vector)) 0 ≡ plus_zero
  unfolding figure_of figure frame_of joint_frame half_turn root_motion acceleration_at carried turning driven moved inertial_wrench turned gravity_wrench standard_gravity zero_vector zero_twist zero_wrench total total_of climb value_at vector_sum scaled crossed dotted inverted multiplied rotated matrix_of transformed wrench_sum add sub mul neg of_bits
  w3 = refl

  -- W4, gravity, prismatic, axis z: G
  pub w4 : figure_of lift (gravity_of lift weight) 0 ≡ two ⊗ gravity
  unfolding figure_of figure frame_of joint_frame half_turn root_motion acceleration_at carried turning driven moved inertial_wrench turned gravity_wrench standard_gravity zero_vector zero_twist zero_wrench total total_of climb value_at vector_sum scaled crossed dotted inverted multiplied rotated matrix_of transformed wrench_sum add sub mul neg of_bits
  w4 = refl

-- ---- mass 1, centre (0, 0, 1), about x from an origin rotation of (0.8, 0.6, 0, 0)

abbrev tilted : Run
tilted =
    pair (link plus_zero zero_vector) (link one (vector plus_zero plus_zero one)) Revolute
    (record { w = of_bits binary64 0x3fe999999999999a; i = of_bits binary64 0x3fe3333333333333; j = plus_zero; k = plus_zero })
    (vector one plus_zero plus_zero)
    (Half plus_zero one)
    plus_zero

-- "that kernel turns by matrix, this one by quaternion, and bits differ"
pub tilted_gravity : figure_of tilted (gravity_of tilted weight) 0 ≡ of_bits binary64 0xc022d42a23bff8a9
unfolding figure_of figure frame_of joint_frame half_turn root_motion acceleration_at carried turning driven moved inertial_wrench turned gravity_wrench standard_gravity zero_vector zero_twist zero_wrench total total_of climb value_at vector_sum scaled crossed dotted inverted multiplied rotated matrix_of transformed wrench_sum add sub mul neg of_bits
tilted_gravity = refl

pub tilted_inverse : figure_of tilted (inverse_of tilted (rest standard_gravity)) 0 ≡ of_bits binary64 0xc022d42a23bff8a8
unfolding figure_of figure frame_of joint_frame half_turn root_motion acceleration_at carried turning driven moved inertial_wrench turned gravity_wrench standard_gravity zero_vector zero_twist zero_wrench total total_of climb value_at vector_sum scaled crossed dotted inverted multiplied rotated matrix_of transformed wrench_sum add sub mul neg of_bits
tilted_inverse = refl
