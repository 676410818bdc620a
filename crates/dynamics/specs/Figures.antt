-- 01, The float steps: the figure of each joint and the wrench at the root, by the tree and not by the order of work.
use Rattle.std.specs.Prelude.{ℕ, zero, suc, ◌<◌, List, ◌≡◌, get_or, Float}
use Rattle.std.specs.Float.{nan}
use Rattle.spatial.specs.Constants.{plus_zero}
use Rattle.spatial.specs.Vectors.{dotted}
use Rattle.spatial.specs.Wrenches.{wrench_sum, wrench_to_parent}
use Rattle.spatial.specs.declared.Vector3.{Vector3}
use Rattle.spatial.specs.declared.Wrench.{Wrench}
use Rattle.tree.specs.Tree.{Kernel, in_of, total_of, root_sum}
use Rattle.model.specs.declared.JointType.{JointType}
use Rattle.model.specs.declared.JointType.TheVariants.{Fixed, Revolute, Prismatic}
use Rattle.dynamics.specs.declared.Motion.{Motion}
use Rattle.dynamics.specs.Motions.{moved, inertial_wrench}
use Rattle.dynamics.specs.Weights.{turned, gravity_wrench}
use Rattle.dynamics.specs.Run.{Run, joint_count, Moves, frame_of}

-- "A link's total is its load sum, plus each child's total .., plus its own. .. The root adds its load, its own wrench, then
-- children": the sum at a link starts from its load, at the root from its load and its own wrench
abbrev pub start_of : Run → Wrench → ℕ → Wrench
start_of t own zero = wrench_sum (t.load 0) own
start_of t own (suc j) = t.load (suc j)

-- a run's tree, for any value at a link: the root's, a joint's step, and the own wrench of a link that has the value
abbrev pub kernel_of : {S : Type 0} → Run → S → (ℕ → S → S) → (ℕ → S → Wrench) → Kernel S Wrench
kernel_of t root step own =
    record {
      count = joint_count t;
      parent = λ j. (t.joint j).parent;
      root = root;
      step = step;
      start = start_of t (own 0 root);
      own = λ j s. own (suc j) s;
      carry = λ j w. wrench_to_parent (frame_of t j) w;
      plus = wrench_sum;
    }

-- inverse dynamics, from the root's motion
abbrev pub inverse_step : Run → ℕ → Motion → Motion
inverse_step t j m = moved (frame_of t j) (t.joint j).kind (t.joint j).axis (t.speed j) (t.acceleration j) m

abbrev pub inverse_own : Run → ℕ → Motion → Wrench
inverse_own t l m = inertial_wrench (t.link l) m

abbrev pub inverse_of : Run → Motion → Kernel Motion Wrench
inverse_of t root = kernel_of t root (inverse_step t) (inverse_own t)

-- gravity, from gravity in the root's axes
abbrev pub gravity_step : Run → ℕ → Vector3 → Vector3
gravity_step t j g = turned (frame_of t j).rotation g

abbrev pub gravity_own : Run → ℕ → Vector3 → Wrench
gravity_own t l g = gravity_wrench (t.link l) g

abbrev pub gravity_of : Run → Vector3 → Kernel Vector3 Wrench
gravity_of t root = kernel_of t root (gravity_step t) (gravity_own t)

-- "The figure is dot(torque, axis) or dot(force, axis)"; a fixed joint has none
unfoldable pub figure : JointType → Wrench → Vector3 → Float
figure Fixed w axis = plus_zero
figure Revolute w axis = dotted w.torque axis
figure Prismatic w axis = dotted w.force axis

-- the figure of joint j
unfoldable pub figure_of : {S : Type 0} → Run → Kernel S Wrench → ℕ → Float
figure_of t k j = figure (t.joint j).kind (total_of (in_of k) j) (t.joint j).axis

-- what the root bears
unfoldable pub root_of : {S : Type 0} → Kernel S Wrench → Wrench
root_of k = root_sum (in_of k)

-- each moving joint's figure stands at its number
abbrev pub Written : {S : Type 0} → Run → Kernel S Wrench → List Float → Type 0
Written t k out = (j : ℕ) → j < joint_count t → Moves t j → get_or out (t.joint j).number nan ≡ figure_of t k j
