-- Demand 3: all that the figure of a joint depends on. Two runs that are the same in this may have unlike numbers of links.
use Rattle.std.specs.Prelude.{ℕ, suc, ◌<◌, List, ◌⊎◌, ◌≡◌, get_or, Float}
use Rattle.std.specs.Float.{nan}
use Rattle.spatial.specs.declared.Wrench.{Wrench}
use Rattle.tree.specs.Tree.{Kernel}
use Rattle.tree.specs.Ways.{Above, Beyond}
use Rattle.dynamics.specs.Run.{Run, joint_count, Moves}
use Rattle.dynamics.specs.Figures.{figure_of, Written}

abbrev pub parent_of : Run → ℕ → ℕ
parent_of t c = (t.joint c).parent

-- joint c lies from the root to joint j; j does
abbrev pub To : Run → ℕ → ℕ → Type 0
To t j c = Above (parent_of t) (suc j) c

-- joint c is j or hangs on it, in one of the two
abbrev pub BeyondIn : Run → Run → ℕ → ℕ → Type 0
BeyondIn t u j c = Beyond (joint_count t) (parent_of t) j c ⊎ Beyond (joint_count u) (parent_of u) j c

-- what gravity takes of a joint; a fixed one has no pose
pub record SamePosed (t u : Run) (c : ℕ) : Type 0 where
  pub joint : t.joint c ≡ u.joint c
  pub pose : Moves t c → t.pose c ≡ u.pose c

-- what inverse dynamics takes of it
pub record SameDriven (t u : Run) (c : ℕ) : Type 0 where
  pub posed : SamePosed t u c
  pub speed : Moves t c → t.speed c ≡ u.speed c
  pub acceleration : Moves t c → t.acceleration c ≡ u.acceleration c

-- Same for joint j, where `SameJoint` is one of the two above. Joint c leads to link suc c. Links on the way, and all that hangs
-- elsewhere, may differ.
pub record Same (SameJoint : Run → Run → ℕ → Type 0) {S : Type 0} (t : Run) (root : S) (u : Run) (root' : S) (j : ℕ) : Type 0 where
  pub base : root ≡ root'
  pub joints_from_the_root_to_it : (c : ℕ) → To t j c → SameJoint t u c
  pub those_beyond_it : (c : ℕ) → BeyondIn t u j c → SameJoint t u c
  pub are_in_both : (c : ℕ) → BeyondIn t u j c → (c < joint_count t) × (c < joint_count u)
  pub links_beyond_it : (c : ℕ) → BeyondIn t u j c → t.link (suc c) ≡ u.link (suc c)
  pub with_the_same_loads : (c : ℕ) → BeyondIn t u j c → t.load (suc c) ≡ u.load (suc c)

-- what follows: joint j has the same number and the same figure, and so has any output that holds the figures, bit for bit
pub record Stays {S : Type 0} (t : Run) (k : Kernel S Wrench) (u : Run) (k' : Kernel S Wrench) (j : ℕ) : Type 0 where
  pub number : (t.joint j).number ≡ (u.joint j).number
  pub figure : figure_of t k j ≡ figure_of u k' j
  pub output : Moves t j → (out out' : List Float) → Written t k out → Written u k' out' → get_or out (t.joint j).number nan ≡ get_or out' (u.joint j).number nan
