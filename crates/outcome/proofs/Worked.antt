-- 01's worked table, W1 to W8, computed from the definition of a call's outcome.
use Prim.Native.Nat.{ℕ}
use mathlib.Core.Bool.{true, false}
use mathlib.Core.List.{List, [], ◌∷◌}
use mathlib.Core.Path.{◌≡◌, refl}
use lib.IntN.{pos, negsuc}
use lib.ListN.{replicate}
use lib.Ieee.{Float, nan, fin, add, sub, mul, neg, le}
use Rattle.spatial.specs.All.{all}
use Rattle.spatial.specs.Constants.{plus_zero, standard_gravity, zero_vector, zero_twist, zero_wrench}
use Rattle.fit.specs.Finite.{is_finite, all_finite}
use Rattle.fit.specs.Unit.{is_unit, unit_pair, unit_vector, unit_quaternion}
use Rattle.spatial.specs.Vectors.{vector_sum, scaled, crossed, dotted}
use Rattle.spatial.specs.Rotations.{inverted, multiplied, rotated, matrix_of, transformed}
use Rattle.spatial.specs.Wrenches.{wrench_sum, wrench_to_parent}
use Rattle.spatial.specs.declared.Twist.{Twist}
use Rattle.spatial.specs.declared.Vector3.{Vector3}
use Rattle.tree.specs.Tree.{climb, value_at, total, total_of, root_sum}
use Rattle.model.specs.Bases.{good_base}
use Rattle.build.specs.Build.{blank_model, with_link, with_joint}
use Rattle.model.specs.Tables.{kind_of}
use Rattle.model.specs.Good.{counts_fit, good_model}
use Rattle.model.specs.Joints.{axis_fits, fits, good_joint}
use Rattle.model.specs.Links.{weighs, good_link}
use Rattle.model.specs.Lists.{list_checked}
use Rattle.model.specs.Numbers.{taken, numbered_at, numbered, holder_of}
use Rattle.model.specs.Poses.{pose_checked, first, kind_of_number, positions_checked}
use Rattle.model.specs.declared.BaseState.{BaseState}
use Rattle.model.specs.declared.JointType.TheVariants.{Revolute, Prismatic}
use Rattle.model.specs.declared.Model.{Model}
use Rattle.model.specs.declared.Pose.{Pose}
use Rattle.model.specs.declared.Pose.TheVariants.{Half, Slide}
use Rattle.model.specs.declared.RootMode.TheVariants.{Fixed}
use Rattle.build.proofs.Worked.{one, vector, zero₃, turned, joint, y, z, alone, arm, branches, largest}
use Rattle.loads.specs.Checks.{link_checked, wrench_checked, sum_checked, amount_checked}
use Rattle.loads.specs.Sums.{start_sums, sum_step, sum_from, load_sums, prepared_sums}
use Rattle.loads.specs.declared.Load.{Load}
use Rattle.dynamics.specs.Runs.{value_in}
use Rattle.dynamics.specs.Frames.{half_turn, joint_frame}
use Rattle.dynamics.specs.Motions.{root_motion, acceleration_at, carried, turning, sliding, driven, moved, inertial_wrench}
use Rattle.dynamics.specs.Weights as Weights
use Rattle.dynamics.specs.Weights.{gravity_wrench}
use Rattle.dynamics.specs.Run.{frame_of}
use Rattle.dynamics.specs.Figures.{figure, figure_of, root_of}
use Rattle.outcome.specs.declared.Function.{Function}
use Rattle.outcome.specs.declared.Function.TheVariants.{Gravity, VelocityProduct}
use Rattle.outcome.specs.Call.{call_of}
use Rattle.outcome.specs.Refusal.{start_checked, refusal}
use Rattle.spatial.specs.Listed.{list_of}
use Rattle.outcome.specs.Figures.{figures}
use Rattle.outcome.specs.Outcome.{Outcome, told, outcome}

abbrev pub base : BaseState
base =
    let still : Twist = record { angular = zero₃; linear = zero₃ } in
    record { frame = record { rotation = turned one; translation = zero₃ }; velocity = still; acceleration = still }

abbrev pub load : ℕ → Vector3 → Vector3 → Load
load link torque force = record { id = 0; link = link; wrench = record { torque = torque; force = force } }

-- fixed mode, identity base, these positions and loads, and an output that held only NaN
abbrev call : Function → Model → List Pose → List Float → List Load → Outcome
call function model positions speeds loads =
    outcome (call_of function Fixed model base positions model.moving speeds [] (prepared_sums 0 model.count loads)) (replicate model.moving nan)

abbrev pub half : Pose
half = Half plus_zero one

-- 2 times 9.80665, its negative, and 10 less it, rounded once
abbrev G : Float
G = fin false 5520653160719109 (negsuc 47)

abbrev minus_g : Float
minus_g = fin true 5520653160719109 (negsuc 47)

abbrev ten_less_g : Float
ten_less_g = fin true 2705903393612549 (negsuc 47)

abbrev ten : Vector3
ten = vector plus_zero (fin false 5 (pos 1)) plus_zero

abbrev m1 : Model
m1 = arm 1 (joint Revolute 0 0 y)

pub record Table : Type 0 where
  pub w1 : call Gravity m1 (half ∷ []) [] [] ≡ told 0 (minus_g ∷ [])
  pub w2 : call Gravity m1 (half ∷ []) [] (load 1 ten zero₃ ∷ []) ≡ told 0 (ten_less_g ∷ [])
  pub w3 : call VelocityProduct m1 (half ∷ []) (fin false 5 (pos 0) ∷ []) [] ≡ told 0 (plus_zero ∷ [])
  pub w4 : call Gravity (arm 1 (joint Prismatic 0 0 z)) (Slide plus_zero ∷ []) [] [] ≡ told 0 (G ∷ [])
  pub w5 : call Gravity (branches (joint Revolute 0 1 y)) (half ∷ half ∷ []) [] (load 2 ten zero₃ ∷ []) ≡ told 0 (minus_g ∷ ten_less_g ∷ [])
  pub w6 : call Gravity m1 (half ∷ []) [] (load 1 zero₃ (vector largest plus_zero plus_zero) ∷ load 1 zero₃ (vector largest plus_zero plus_zero) ∷ []) ≡ told 7 (nan ∷ [])
  pub w7 : call Gravity m1 (half ∷ []) [] (load 2 ten zero₃ ∷ []) ≡ told 6 (nan ∷ [])
  pub w8 : call Gravity alone [] [] [] ≡ told 0 []

pub worked_table : Table
unfolding outcome refusal start_checked figures list_of good_base good_model counts_fit numbered numbered_at taken holder_of good_joint fits axis_fits good_link weighs positions_checked pose_checked first kind_of_number list_checked all all_finite is_finite unit_pair unit_quaternion unit_vector is_unit vector_sum scaled crossed dotted inverted multiplied rotated matrix_of transformed wrench_sum wrench_to_parent standard_gravity zero_vector zero_twist zero_wrench le add sub mul neg climb value_at total total_of root_sum kind_of blank_model with_link with_joint link_checked wrench_checked sum_checked amount_checked start_sums sum_step sum_from load_sums prepared_sums value_in half_turn joint_frame root_motion acceleration_at carried turning sliding driven moved inertial_wrench Weights.turned gravity_wrench frame_of figure figure_of root_of
worked_table = record { w1 = refl; w2 = refl; w3 = refl; w4 = refl; w5 = refl; w6 = refl; w7 = refl; w8 = refl }
