-- Can a hose that is hung on the other branch reach this elbow? A shoulder with an elbow, and another branch at the root; then a hose on
-- that branch. Whatever the hose weighs and bears, and however the other branch moves, the elbow's figure stays, bit for bit.
use Prim.Native.Nat.{ℕ, zero, suc, ◌<◌, ◌≤◌}
use mathlib.Core.Bool.{false, false≢true}
use mathlib.Core.List.{List, [], ◌∷◌, flat_map}
use mathlib.Core.Logic.{inl, inr}
use mathlib.Core.Path.{◌≡◌, refl}
use native.Mathlib.Omega.{arith}
use lib.Dec.{eqb}
use lib.Ieee.{Float, nan, add, sub, mul, neg, le, binary64, to_bits, size, fits}
use lib.ListN.{replicate, get_or}
use Rattle.spatial.specs.Constants.{plus_zero, standard_gravity, zero_vector, zero_twist, zero_wrench}
use Rattle.spatial.specs.declared.Wrench.{Wrench}
use Rattle.spatial.specs.All.{all}
use Rattle.fit.specs.Finite.{is_finite, all_finite}
use Rattle.fit.specs.Unit.{is_unit, unit_pair, unit_vector, unit_quaternion}
use Rattle.spatial.specs.Vectors.{vector_sum, scaled, crossed, dotted}
use Rattle.spatial.specs.Rotations.{inverted, multiplied, rotated, matrix_of, transformed}
use Rattle.spatial.specs.Wrenches.{wrench_sum, wrench_to_parent, world_wrench}
use Rattle.tree.proofs.WayLaws.{low, above_passes}
use Rattle.tree.specs.Tree.{climb, value_at, total, total_of, root_sum}
use Rattle.build.specs.Build.{blank_model, with_link, with_joint}
use Rattle.model.specs.Tables.{kind_of}
use Rattle.model.specs.declared.BaseState.{BaseState}
use Rattle.model.specs.declared.JointType.TheVariants.{Revolute}
use Rattle.model.specs.declared.Link.{Link}
use Rattle.model.specs.declared.Model.{Model}
use Rattle.model.specs.declared.Pose.{Pose}
use Rattle.model.specs.declared.RootMode.{RootMode}
use Rattle.model.proofs.GoodLaws.{parent_first}
use Rattle.build.proofs.Worked.{one, two, vector, link, joint, y}
use Rattle.model.specs.Bases.{good_base}
use Rattle.model.specs.Good.{counts_fit, good_model}
use Rattle.model.specs.Joints.{axis_fits, good_joint, fits as fits_joint}
use Rattle.model.specs.Links.{weighs, good_link}
use Rattle.model.specs.Lists.{list_checked}
use Rattle.model.specs.Numbers.{taken, numbered_at, numbered, holder_of}
use Rattle.model.specs.Poses.{pose_checked, first, kind_of_number, positions_checked}
use Rattle.model.specs.declared.RootMode.TheVariants.{Floating}
use Rattle.loads.specs.Sums.{prepared_sums, start_sums, sum_step, sum_from, load_sums}
use Rattle.loads.specs.declared.Load.{Load}
use Rattle.loads.specs.Checks.{link_checked, wrench_checked, sum_checked, amount_checked}
use Rattle.dynamics.specs.Runs.{value_in}
use Rattle.dynamics.specs.Frames.{half_turn, joint_frame}
use Rattle.dynamics.specs.Motions.{root_motion, acceleration_at, carried, turning, sliding, driven, moved, inertial_wrench}
use Rattle.dynamics.specs.Weights as Weights
use Rattle.dynamics.specs.Weights.{gravity_wrench}
use Rattle.dynamics.specs.Run.{frame_of}
use Rattle.dynamics.specs.Figures.{figure, figure_of, root_of}
use Rattle.outcome.specs.declared.Function.{Function}
use Rattle.outcome.specs.Call.{Call, call_of}
use Rattle.outcome.specs.Outcome.{outcome}
use Rattle.outcome.specs.Same.{HangsOn, SameJoint, SamePart, SameFor, Stays}
use Rattle.outcome.specs.declared.Function.TheVariants.{InverseDynamics}
use Rattle.outcome.specs.Refusal.{start_checked, refusal}
use Rattle.spatial.specs.Listed.{list_of}
use Rattle.outcome.specs.Figures.{figures}
use Rattle.outcome.proofs.AcceptedLaws.{model_is}
use Rattle.outcome.proofs.Demand3.{figure_stays}
use Rattle.outcome.proofs.Worked.{base, half, load}

abbrev limb : Link
limb = link two (vector one plus_zero plus_zero)

-- joint 0 is the shoulder, joint 1 the elbow, joint 2 the other branch
abbrev rig : ℕ → ℕ → Model
rig count moving =
    with_joint (with_link (with_joint (with_link (with_joint (with_link (blank_model 0 count moving) 1 limb) 0 (joint Revolute 0 0 y)) 2 limb) 1 (joint Revolute 1 1 y)) 3 limb) 2 (joint Revolute 0 2 y)

abbrev bare : Model
bare = rig 4 3

-- joint 3 carries the hose
abbrev hung : Link → Model
hung hose = with_joint (with_link (rig 5 4) 4 hose) 3 (joint Revolute 3 3 y)

abbrev on_hose : Wrench → Load
on_hose w = record { id = 0; link = 4; wrench = w }

-- a day's call, with loads of the model's id
abbrev day : Function → RootMode → BaseState → Model → List Pose → List Float → List Float → List Load → Call
day f mode base model positions speeds accelerations ls = call_of f mode model base positions model.moving speeds accelerations (prepared_sums 0 model.count ls)

module _ (f : Function) (mode : RootMode) (base : BaseState) (ls : List Load) (p q : Pose) (ps ps' : List Pose) (u v : Float) (vs vs' : List Float) (a b : Float) (ds ds' : List Float) (hose : Link) (pull : Wrench) where
  abbrev first_day : Call
  first_day = day f mode base bare (p ∷ q ∷ ps) (u ∷ v ∷ vs) (a ∷ b ∷ ds) ls

  abbrev second_day : Call
  second_day = day f mode base (hung hose) (p ∷ q ∷ ps') (u ∷ v ∷ vs') (a ∷ b ∷ ds') (on_hose pull ∷ ls)

  joint_same : (i : ℕ) → i < 2 → SameJoint first_day second_day i
  unfolding blank_model with_link with_joint kind_of
  joint_same zero h = record { joint = refl; pose = λ m. refl; speed = λ m t. refl; acceleration = λ m t. refl }
  joint_same (suc zero) h = record { joint = refl; pose = λ m. refl; speed = λ m t. refl; acceleration = λ m t. refl }
  joint_same (suc (suc i)) h = absurd (omega arith)

  elbow : SamePart first_day ls second_day (on_hose pull ∷ ls) 1
  unfolding blank_model with_link with_joint flat_map
  elbow = record { first = omega arith; second = omega arith; joint = joint_same 1 (omega arith); link = refl; loads = λ t. refl }

  module _ (found found' : List Float) (ok : (outcome first_day found).number ≡ 0) (ok' : (outcome second_day found').number ≡ 0) where
    tree : (j : ℕ) → j < 3 → (first_day.model.joint j).parent ≤ j
    unfolding blank_model with_link with_joint
    tree = parent_first first_day.model (model_is first_day found ok)

    tree' : (j : ℕ) → j < 4 → (second_day.model.joint j).parent ≤ j
    unfolding blank_model with_link with_joint
    tree' = parent_first second_day.model (model_is second_day found' ok')

    -- nothing hangs on the elbow
    alone : (i : ℕ) → HangsOn first_day.model second_day.model 1 i → i ≡ 1
    unfolding blank_model with_link with_joint
    alone (suc zero) h = refl
    alone zero (inl h) = absurd (false≢true (above_passes _ 3 tree 1 (omega arith) (omega arith) h.1))
    alone (suc (suc zero)) (inl h) = absurd (false≢true (above_passes _ 3 tree 3 (omega arith) (omega arith) h.1))
    alone (suc (suc (suc i))) (inl h) = absurd (omega (arith, h.0))
    alone zero (inr h) = absurd (false≢true (above_passes _ 4 tree' 1 (omega arith) (omega arith) h.1))
    alone (suc (suc zero)) (inr h) = absurd (false≢true (above_passes _ 4 tree' 3 (omega arith) (omega arith) h.1))
    alone (suc (suc (suc zero))) (inr h) = absurd (false≢true (above_passes _ 4 tree' 4 (omega arith) (omega arith) h.1))
    alone (suc (suc (suc (suc i)))) (inr h) = absurd (omega (arith, h.0))

    same : SameFor 1 first_day ls second_day (on_hose pull ∷ ls)
    same =
        record {
          function = refl;
          mode = refl;
          base = refl;
          way_to_the_root = λ i o. joint_same i (low _ 3 tree (omega arith) o);
          what_hangs_on_it = λ i h. rw (alone i h) elbow;
        }

    pub elbow_stays : Stays 1 1 first_day second_day found found'
    unfolding blank_model with_link with_joint kind_of
    elbow_stays =
        figure_stays first_day second_day ls (on_hose pull ∷ ls) (λ t. (0, refl)) (λ t. (0, refl)) found found' ok ok' 1 1
        (record { inside = omega arith; moving = refl; number = refl }) same

-- ---- one hose

abbrev monday : Call
monday = day InverseDynamics Floating base bare (half ∷ half ∷ half ∷ []) (one ∷ two ∷ one ∷ []) (one ∷ one ∷ two ∷ []) (load 2 y y ∷ [])

abbrev tuesday : Call
tuesday = day InverseDynamics Floating base (hung limb) (half ∷ half ∷ half ∷ half ∷ []) (one ∷ two ∷ two ∷ one ∷ []) (one ∷ one ∷ one ∷ two ∷ []) (on_hose (record { torque = y; force = y }) ∷ load 2 y y ∷ [])

abbrev nine : List Float
nine = replicate 9 nan

abbrev ten : List Float
ten = replicate 10 nan

-- both are accepted, and the figure at number 2, the other branch's, differs in its bits
pub days : ((outcome monday nine).number ≡ 0) × ((outcome tuesday ten).number ≡ 0) × (eqb (to_bits binary64 (get_or (outcome monday nine).output 8 nan)) (to_bits binary64 (get_or (outcome tuesday ten).output 8 nan)) ≡ false)
unfolding to_bits size fits outcome refusal start_checked figures list_of good_base good_model counts_fit numbered numbered_at taken holder_of good_joint fits_joint axis_fits good_link weighs positions_checked pose_checked first kind_of_number list_checked all all_finite is_finite unit_pair unit_quaternion unit_vector is_unit vector_sum scaled crossed dotted inverted multiplied rotated matrix_of transformed wrench_sum wrench_to_parent world_wrench standard_gravity zero_vector zero_twist zero_wrench le add sub mul neg climb value_at total total_of root_sum kind_of blank_model with_link with_joint link_checked wrench_checked sum_checked amount_checked start_sums sum_step sum_from load_sums prepared_sums value_in half_turn joint_frame root_motion acceleration_at carried turning sliding driven moved inertial_wrench Weights.turned gravity_wrench frame_of figure figure_of root_of
days = (refl, refl, refl)

-- the figure at number 1, which stands at place 7
pub hose_stays_away : get_or (outcome monday nine).output 7 nan ≡ get_or (outcome tuesday ten).output 7 nan
unfolding blank_model with_joint with_link
hose_stays_away = (elbow_stays InverseDynamics Floating base _ _ _ _ _ _ _ _ _ _ _ _ _ limb _ nine ten days.0 days.1).figure
