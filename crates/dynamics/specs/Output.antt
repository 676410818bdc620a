-- What is written to the output.
use Rattle.std.specs.Prelude.{ℕ, Bool, true, false, List, ◌≡◌, set, take, drop, Float}
use Rattle.fit.specs.Finite.{wrench_numbers}
use Rattle.spatial.specs.Wrenches.{world_wrench}
use Rattle.spatial.specs.declared.Quaternion.{Quaternion}
use Rattle.spatial.specs.declared.Wrench.{Wrench}
use Rattle.tree.specs.Tree.{Kernel}
use Rattle.model.specs.View.{moves}
use Rattle.model.specs.declared.Joint.{Joint}
use Rattle.dynamics.specs.Run.{Run}
use Rattle.dynamics.specs.Figures.{figure, root_of, Written}

-- a number at its place, where there is one
abbrev pub placed : Bool → ℕ → Float → List Float → List Float
placed true n x out = set out n x
placed false n x out = out

-- what one joint writes
abbrev pub put_of : Joint → Wrench → List Float → List Float
put_of j w out = placed (moves j.kind) j.number (figure j.kind w j.axis) out

-- the root's wrench is known and each figure stands at its number
abbrev pub Done : {S : Type 0} → Run → Kernel S Wrench → Wrench → List Float → Type 0
Done t k r out = (r ≡ root_of k) × Written t k out

-- "floating output has six root figures first (torque, force, in world axes at the root origin), and the joint kernel gets the
-- part after them"
abbrev pub Floating : {S : Type 0} → Run → Kernel S Wrench → Quaternion → List Float → Type 0
Floating t k base out = (take 6 out ≡ wrench_numbers (world_wrench base (root_of k))) × Written t k (drop 6 out)
