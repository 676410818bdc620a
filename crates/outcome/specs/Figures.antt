-- The figures of a call: "Output holds m joint figures by joint number; floating output has six root figures first (torque, force, in
-- world axes at the root origin)".
use Rattle.std.specs.Prelude.{ℕ, List, [], ◌++◌, get_or, Float}
use Rattle.spatial.specs.Constants.{plus_zero, standard_gravity, zero_vector, zero_twist, zero_wrench}
use Rattle.fit.specs.Finite.{wrench_numbers}
use Rattle.spatial.specs.Listed.{list_of}
use Rattle.spatial.specs.Past.{no_wrench}
use Rattle.spatial.specs.Wrenches.{world_wrench}
use Rattle.spatial.specs.declared.Quaternion.{Quaternion}
use Rattle.spatial.specs.declared.Twist.{Twist}
use Rattle.spatial.specs.declared.Wrench.{Wrench}
use Rattle.tree.specs.Tree.{Kernel}
use Rattle.model.specs.Poses.{no_pose}
use Rattle.model.specs.Numbers.{holder_of}
use Rattle.model.specs.View.{numbering_of}
use Rattle.model.specs.declared.RootMode.{RootMode}
use Rattle.model.specs.declared.RootMode.TheVariants.{Fixed, Floating}
use Rattle.dynamics.specs.Motions.{root_motion}
use Rattle.dynamics.specs.Weights.{turned}
use Rattle.dynamics.specs.Run.{Run}
use Rattle.dynamics.specs.Runs.{value_in}
use Rattle.dynamics.specs.Figures.{inverse_of, gravity_of, figure_of, root_of}
use Rattle.outcome.specs.declared.Function.{Function}
use Rattle.outcome.specs.declared.Function.TheVariants.{InverseDynamics, Gravity, VelocityProduct}
use Rattle.outcome.specs.Call.{Call}

-- a call as a kernel reads it, with these joint accelerations and load sums
abbrev pub run_of : Call → (ℕ → Float) → (ℕ → Wrench) → Run
run_of c acceleration load =
    let joint = c.model.joint in
    record {
      count = c.model.count;
      joint = joint;
      link = c.model.link;
      pose = λ j. get_or c.positions (joint j).number no_pose;
      speed = λ j. value_in (joint j).kind (joint j).number c.speeds;
      acceleration = acceleration;
      load = load;
    }

abbrev pub loaded : Call → Run
loaded c =
    let joint = c.model.joint in
    run_of c (λ j. value_in (joint j).kind (joint j).number c.accelerations) (λ l. get_or c.loads.sums l no_wrench)

-- +0 for "all joint accelerations and loads"
abbrev pub still : Call → Run
still c = run_of c (λ j. plus_zero) (λ l. zero_wrench)

-- "fixed mode then uses +0 for both motions"
abbrev pub in_mode : RootMode → Twist → Twist
in_mode Fixed t = zero_twist
in_mode Floating t = t

-- each joint's figure, and the wrench at the root
pub record Solved : Type 0 where
  pub joint : ℕ → Float
  pub root : Wrench

abbrev pub solved_by : {S : Type 0} → Run → Kernel S Wrench → Solved
solved_by t k = record { joint = figure_of t k; root = root_of k }

-- "Velocity product uses +0 for gravity, both base accelerations, all joint accelerations and loads"; "Gravity's own kernel"
abbrev pub solved : Call → Function → Solved
solved c InverseDynamics =
    let root = root_motion c.base.frame.rotation (in_mode c.mode c.base.velocity) (in_mode c.mode c.base.acceleration) standard_gravity in
    solved_by (loaded c) (inverse_of (loaded c) root)
solved c Gravity = solved_by (loaded c) (gravity_of (loaded c) (turned c.base.frame.rotation standard_gravity))
solved c VelocityProduct =
    let root = root_motion c.base.frame.rotation (in_mode c.mode c.base.velocity) zero_twist zero_vector in
    solved_by (still c) (inverse_of (still c) root)

-- "both halves are turned by the base rotation"
abbrev pub root_figures : RootMode → Quaternion → Wrench → List Float
root_figures Fixed base w = []
root_figures Floating base w = wrench_numbers (world_wrench base w)

unfoldable pub figures : Call → List Float
figures c =
    let s = solved c c.function in
    let t = numbering_of c.model in
    root_figures c.mode c.base.frame.rotation s.root ++ list_of c.model.moving (λ n. s.joint (holder_of t t.count n))
