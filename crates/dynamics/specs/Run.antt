-- What the kernels read of a call, however it is laid out.
use Rattle.std.specs.Prelude.{ℕ, ◌-◌, ◌<◌, ◌≤◌, true, ◌≡◌, Float}
use Rattle.spatial.specs.declared.Frame.{Frame}
use Rattle.spatial.specs.declared.Wrench.{Wrench}
use Rattle.model.specs.View.{moves}
use Rattle.model.specs.declared.Link.{Link}
use Rattle.model.specs.declared.Joint.{Joint}
use Rattle.model.specs.declared.Pose.{Pose}
use Rattle.dynamics.specs.Frames.{joint_frame}

pub record Run : Type 0 where
  -- links
  pub count : ℕ
  pub joint : ℕ → Joint
  pub link : ℕ → Link
  -- a joint's pose, speed and acceleration
  pub pose : ℕ → Pose
  pub speed : ℕ → Float
  pub acceleration : ℕ → Float
  -- a link's load sum
  pub load : ℕ → Wrench

abbrev pub joint_count : Run → ℕ
joint_count t = t.count - 1

abbrev pub Moves : Run → ℕ → Type 0
Moves t j = moves (t.joint j).kind ≡ true

unfoldable pub frame_of : Run → ℕ → Frame
frame_of t j = joint_frame (t.joint j).kind (t.joint j).origin (t.joint j).axis (t.pose j)

-- what a kernel needs of a run: a tree, and a place of its own below m for each moving joint
pub record Fit (t : Run) (m : ℕ) : Type 0 where
  pub some : 0 < t.count
  pub few : t.count ≤ 64
  pub tree : (j : ℕ) → j < joint_count t → (t.joint j).parent ≤ j
  pub inside : (j : ℕ) → j < joint_count t → Moves t j → (t.joint j).number < m
  pub apart : (i j : ℕ) → i < joint_count t → j < joint_count t → Moves t i → Moves t j → (t.joint i).number ≡ (t.joint j).number → i ≡ j
