-- What the outward sweep leaves in the tables that it works in, and what the inward sweep makes of it.
use Rattle.std.specs.Prelude.{ℕ, ◌-◌, ◌<◌, ◌≤◌, List, [], ◌≡◌, get_or}
use Rattle.spatial.specs.Past.{no_frame}
use Rattle.spatial.specs.declared.Frame.{Frame}
use Rattle.spatial.specs.declared.Wrench.{Wrench}
use Rattle.tree.specs.Tree.{Kernel, value_at}
use Rattle.model.specs.declared.Joint.{Joint}
use Rattle.model.specs.declared.Link.{Link}
use Rattle.model.specs.declared.Model.{Model}
use Rattle.model.specs.declared.Pose.{Pose}
use Rattle.dynamics.specs.Figures.{kernel_of}
use Rattle.dynamics.specs.Run.{Run, frame_of}
use Rattle.dynamics.specs.Runs.{run_of}

-- the frames of the joints before j, and the values at the links up to j, from the root's by each joint's step
pub record Swept {S : Type 0} (t : Run) (root : S) (step : ℕ → S → S) (z : S) (frames : List Frame) (values : List S) (j : ℕ) : Type 0 where
  pub framed : (i : ℕ) → i < j → get_or frames i no_frame ≡ frame_of t i
  pub valued : (l : ℕ) → l ≤ j → get_or values l z ≡ value_at (record { parent = λ i. (t.joint i).parent; root = root; step = step }) l

-- a run's steps and own wrenches, by each joint, its frame and each link
abbrev pub steps_of : {S : Type 0} → (Joint → Frame → S → S) → Run → ℕ → S → S
steps_of step t j v = step (t.joint j) (frame_of t j) v

abbrev pub owns_of : {S : Type 0} → (Link → S → Wrench) → Run → ℕ → S → Wrench
owns_of own t l v = own (t.link l) v

-- all joints of a model at these positions
abbrev pub SweptBy : {S : Type 0} → S → (Joint → Frame → S → S) → Model → List Pose → S → List Frame → List S → Type 0
SweptBy none step m positions root frames values =
    let t = run_of m positions [] [] [] in
    Swept t root (steps_of step t) none frames values (m.count - 1)

-- a run's tree, for a kernel
abbrev pub kernel_by : {S : Type 0} → (Joint → Frame → S → S) → (Link → S → Wrench) → Run → S → Kernel S Wrench
kernel_by step own t root = kernel_of t root (steps_of step t) (owns_of own t)
