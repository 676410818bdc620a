-- Demand 3 asks for nothing idle: for each thing that it asks to be the same, two accepted calls that differ in it alone, and whose figures
-- at one number differ.
use Prim.Native.Nat.{ℕ, suc}
use mathlib.Core.Bool.{Bool, true, false, not, ◌&&◌, false≢true}
use mathlib.Core.List.{List, [], ◌∷◌}
use mathlib.Core.Path.{◌≡◌, refl, sym, ap, ◌∙◌}
use lib.Dec.{eqb}
use lib.IntN.{pos}
use lib.ListN.{length, get_or, replicate}
use lib.Ieee.{Float, nan, fin, add, sub, mul, neg, le, binary64, to_bits, size, fits}
use borrow.Author.Tests.{eqb-true, eq-eqb}
use Rattle.spatial.specs.All.{all}
use Rattle.spatial.specs.Constants.{plus_zero, standard_gravity, zero_vector, zero_twist, zero_wrench}
use Rattle.fit.specs.Finite.{is_finite, all_finite}
use Rattle.fit.specs.Unit.{is_unit, unit_pair, unit_vector, unit_quaternion}
use Rattle.spatial.specs.Vectors.{vector_sum, scaled, crossed, dotted}
use Rattle.spatial.specs.Rotations.{inverted, multiplied, rotated, matrix_of, transformed}
use Rattle.spatial.specs.Wrenches.{wrench_sum, wrench_to_parent, world_wrench}
use Rattle.spatial.specs.declared.Quaternion.{Quaternion}
use Rattle.spatial.specs.declared.Vector3.{Vector3}
use Rattle.spatial.proofs.BoolLaws.{and_left, and_right}
use Rattle.tree.specs.Tree.{climb, value_at, total, total_of, root_sum}
use Rattle.model.specs.Bases.{good_base}
use Rattle.model.specs.Good.{counts_fit, good_model}
use Rattle.model.specs.Joints.{axis_fits, fits as fits_joint, good_joint}
use Rattle.model.specs.Links.{weighs, good_link}
use Rattle.model.specs.Lists.{list_checked}
use Rattle.model.specs.Numbers.{taken, numbered_at, numbered, holder_of}
use Rattle.model.specs.Poses.{pose_checked, first, kind_of_number, positions_checked}
use Rattle.model.specs.View.{View}
use Rattle.model.specs.declared.BaseState.{BaseState}
use Rattle.model.specs.declared.Joint.{Joint}
use Rattle.model.specs.declared.JointType.TheVariants.{Revolute}
use Rattle.model.specs.declared.Link.{Link}
use Rattle.model.specs.declared.Pose.{Pose}
use Rattle.model.specs.declared.Pose.TheVariants.{Half}
use Rattle.model.specs.declared.RootMode.{RootMode}
use Rattle.model.specs.declared.RootMode.TheVariants.{Fixed, Floating}
use Rattle.build.proofs.Worked.{one, two, vector, zero₃, link, turned, y, z}
use Rattle.loads.specs.Checks.{link_checked, wrench_checked, sum_checked, amount_checked}
use Rattle.loads.specs.Sums.{start_sums, sum_step, sum_from, load_sums, prepared_sums}
use Rattle.loads.specs.declared.Load.{Load}
use Rattle.dynamics.specs.Runs.{value_in}
use Rattle.dynamics.specs.Frames.{half_turn, joint_frame}
use Rattle.dynamics.specs.Motions.{root_motion, acceleration_at, carried, turning, sliding, driven, moved, inertial_wrench}
use Rattle.dynamics.specs.Weights as Weights
use Rattle.dynamics.specs.Weights.{gravity_wrench}
use Rattle.dynamics.specs.Run.{frame_of}
use Rattle.dynamics.specs.Figures.{figure, figure_of, root_of}
use Rattle.outcome.specs.declared.Function.{Function}
use Rattle.outcome.specs.declared.Function.TheVariants.{InverseDynamics, Gravity}
use Rattle.outcome.specs.Call.{Call}
use Rattle.outcome.specs.Refusal.{output_length, start_checked, refusal}
use Rattle.spatial.specs.Listed.{list_of}
use Rattle.outcome.specs.Figures.{figures}
use Rattle.outcome.specs.Outcome.{Outcome, outcome}
use Rattle.outcome.specs.Same.{figure_at}
use Rattle.outcome.proofs.Worked.{base, half, load}

-- what a call gets
abbrev got : Call → Outcome
got c = outcome c (replicate (output_length c.mode c.model.moving) nan)

-- both are accepted, and the figures at number n differ in their bits
abbrev differ : ℕ → Call → Outcome → Call → Outcome → Bool
differ n c o d p = (eqb o.number 0 && eqb p.number 0) && not (eqb (to_bits binary64 (figure_at c n o.output)) (to_bits binary64 (figure_at d n p.output)))

pub differ_says : (n : ℕ) (c d : Call) → differ n c (got c) d (got d) ≡ true → ((got c).number ≡ 0) × ((got d).number ≡ 0) × (figure_at c n (got c).output ≡ figure_at d n (got d).output → ⊥)
differ_says n c d h =
    let both : Bool = eqb (got c).number 0 && eqb (got d).number 0 in
    let same : Bool = eqb (to_bits binary64 (figure_at c n (got c).output)) (to_bits binary64 (figure_at d n (got d).output)) in
    let accepted : both ≡ true = and_left both (not same) h in (
      eqb-true _ _ (and_left (eqb (got c).number 0) (eqb (got d).number 0) accepted),
      eqb-true _ _ (and_right (eqb (got c).number 0) (eqb (got d).number 0) accepted),
      λ e. false≢true (ap not (sym (eq-eqb _ _ (ap (to_bits binary64) e))) ∙ and_right both (not same) h),
    )

-- each of these differs from the first
abbrev all_differ : ℕ → Call → Outcome → List Call → Bool
all_differ n c o [] = true
all_differ n c o (d ∷ ds) = differ n c o d (got d) && all_differ n c o ds

abbrev differ_from : ℕ → Call → List Call → Bool
differ_from n c ds = all_differ n c (got c) ds

-- ---- the calls: an arm of a shoulder and an elbow

abbrev x : Vector3
x = vector one plus_zero plus_zero

-- half a turn about x
abbrev about_x : Quaternion
about_x = record { w = plus_zero; i = one; j = plus_zero; k = plus_zero }

abbrev corner : Vector3
corner = vector one plus_zero one

abbrev limb : Link
limb = link two corner

abbrev hinge : ℕ → ℕ → Quaternion → Vector3 → Vector3 → Joint
hinge parent number rotation translation axis =
    record { kind = Revolute; parent = parent; number = number; origin = record { rotation = rotation; translation = translation }; axis = axis }

abbrev shoulder : Joint
shoulder = hinge 0 0 (turned one) zero₃ y

abbrev elbow : Joint
elbow = hinge 1 1 (turned one) x y

-- these joints, and these links from link 1 on, past whose end each is a limb
abbrev arm : List Joint → List Link → View
arm joints links =
    record { count = suc (length joints); moving = length joints; code = λ j. 1; joint = λ j. get_or joints j shoulder; link = λ l. get_or (limb ∷ links) l limb }

abbrev asked : Function → RootMode → BaseState → View → List Pose → List Float → List Float → List Load → Call
asked f mode b model positions speeds accelerations loads =
    record {
      function = f;
      mode = mode;
      model = model;
      base = b;
      positions = positions;
      entries = model.moving;
      speeds = speeds;
      accelerations = accelerations;
      loads = prepared_sums 0 model.count loads;
    }

abbrev pair : {A : Type 0} → A → A → List A
pair a b = a ∷ b ∷ []

-- both poses are alike, and gravity takes nothing else of a joint's lists
abbrev numbered_as : ℕ → ℕ → Call
numbered_as n m = asked Gravity Fixed base (arm (pair (hinge 0 n (turned one) zero₃ y) (hinge 1 m (turned one) x y)) []) (pair half half) [] [] []

-- what is given changed, the rest as it stands
abbrev based : Function → RootMode → BaseState → Call
based f mode b = asked f mode b (arm (pair shoulder elbow) []) (pair half half) (pair one two) (pair one plus_zero) []

abbrev jointed : Joint → Joint → Call
jointed s e = asked InverseDynamics Fixed base (arm (pair s e) []) (pair half half) (pair one two) (pair one plus_zero) []

abbrev posed : Pose → Pose → Call
posed p q = asked InverseDynamics Fixed base (arm (pair shoulder elbow) []) (pair p q) (pair one two) (pair one plus_zero) []

abbrev run_at : List Float → List Float → Call
run_at speeds accelerations = asked InverseDynamics Fixed base (arm (pair shoulder elbow) []) (pair half half) speeds accelerations []

abbrev linked : Link → Link → Call
linked l m = asked InverseDynamics Fixed base (arm (pair shoulder elbow) (pair l m)) (pair half half) (pair one two) (pair one plus_zero) []

abbrev bearing : List Load → Call
bearing loads = asked InverseDynamics Fixed base (arm (pair shoulder elbow) []) (pair half half) (pair one two) (pair one plus_zero) loads

abbrev as_it_stands : Call
as_it_stands = bearing []

-- with a hand on the elbow
abbrev longer : Call
longer =
    asked InverseDynamics Fixed base (arm (shoulder ∷ elbow ∷ hinge 2 2 (turned one) x y ∷ []) []) (half ∷ half ∷ half ∷ []) (one ∷ two ∷ plus_zero ∷ []) (one ∷ plus_zero ∷ plus_zero ∷ []) []

abbrev tipped : BaseState
tipped = record { frame = record { rotation = about_x; translation = zero₃ }; velocity = base.velocity; acceleration = base.acceleration }

abbrev spinning : BaseState
spinning = record { frame = base.frame; velocity = record { angular = y; linear = zero₃ }; acceleration = base.acceleration }

abbrev massive : Link
massive = record { mass = two; center = corner; inertia = record { x = zero₃; y = y; z = zero₃ } }

-- a torque about y on a link
abbrev about_y : ℕ → Float → Load
about_y l t = load l (vector plus_zero t plus_zero) zero₃

abbrev great : Float
great = fin false 1 (pos 53)

-- ---- the tables

-- The elbow's figure: function, base; of the shoulder, which is on the way: origin, axis, pose, speed, acceleration; the elbow's
-- parent; mode; its number, which the shoulder takes in its stead.
pub way_needed :
    differ_from 1 as_it_stands
    (based Gravity Fixed base
    ∷ based InverseDynamics Fixed tipped
    ∷ jointed (hinge 0 0 about_x zero₃ y) elbow
    ∷ jointed (hinge 0 0 (turned one) zero₃ x) elbow
    ∷ posed (Half one plus_zero) half
    ∷ run_at (pair two two) (pair one plus_zero)
    ∷ run_at (pair one two) (pair two plus_zero)
    ∷ jointed shoulder (hinge 0 1 (turned one) x y)
    ∷ [])
    && differ_from 1 (based InverseDynamics Fixed spinning) (based InverseDynamics Floating spinning ∷ [])
    && differ_from 1 (numbered_as 0 1) (numbered_as 1 0 ∷ [])
    ≡ true
unfolding to_bits size fits outcome refusal start_checked figures list_of good_base good_model counts_fit numbered numbered_at taken holder_of good_joint fits_joint axis_fits good_link weighs positions_checked pose_checked first kind_of_number list_checked all all_finite is_finite unit_pair unit_quaternion unit_vector is_unit vector_sum scaled crossed dotted inverted multiplied rotated matrix_of transformed wrench_sum wrench_to_parent world_wrench standard_gravity zero_vector zero_twist zero_wrench le add sub mul neg climb value_at total total_of root_sum link_checked wrench_checked sum_checked amount_checked start_sums sum_step sum_from load_sums prepared_sums value_in half_turn joint_frame root_motion acceleration_at carried turning sliding driven moved inertial_wrench Weights.turned gravity_wrench frame_of figure figure_of root_of
way_needed = refl

-- The shoulder's figure: of the elbow, which hangs on it: origin, axis, pose, speed, acceleration, parent; that no other hangs on it in the
-- second; the mass of its own link; the forearm's mass, centre and inertia; a load on the forearm; the order of loads there.
pub hanging_needed :
    differ_from 0 as_it_stands
    (jointed shoulder (hinge 1 1 about_x x y)
    ∷ jointed shoulder (hinge 1 1 (turned one) x z)
    ∷ posed half (Half one plus_zero)
    ∷ run_at (pair one one) (pair one plus_zero)
    ∷ run_at (pair one two) (pair one one)
    ∷ jointed shoulder (hinge 0 1 (turned one) x y)
    ∷ longer
    ∷ linked (link one corner) limb
    ∷ linked limb (link one corner)
    ∷ linked limb (link two zero₃)
    ∷ linked limb massive
    ∷ bearing (about_y 2 one ∷ [])
    ∷ [])
    && differ_from 0 (bearing (about_y 2 one ∷ about_y 2 one ∷ about_y 2 great ∷ [])) (bearing (about_y 2 great ∷ about_y 2 one ∷ about_y 2 one ∷ []) ∷ [])
    ≡ true
unfolding to_bits size fits outcome refusal start_checked figures list_of good_base good_model counts_fit numbered numbered_at taken holder_of good_joint fits_joint axis_fits good_link weighs positions_checked pose_checked first kind_of_number list_checked all all_finite is_finite unit_pair unit_quaternion unit_vector is_unit vector_sum scaled crossed dotted inverted multiplied rotated matrix_of transformed wrench_sum wrench_to_parent world_wrench standard_gravity zero_vector zero_twist zero_wrench le add sub mul neg climb value_at total total_of root_sum link_checked wrench_checked sum_checked amount_checked start_sums sum_step sum_from load_sums prepared_sums value_in half_turn joint_frame root_motion acceleration_at carried turning sliding driven moved inertial_wrench Weights.turned gravity_wrench frame_of figure figure_of root_of
hanging_needed = refl
