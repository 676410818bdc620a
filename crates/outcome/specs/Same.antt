-- Demand 3: a joint's figure depends on nothing but its way to the root and what hangs on it. Two calls that are the same in this may be
-- of models with unlike numbers of links. 01: "The same" means "the same bits, parents included".
use Rattle.std.specs.Prelude.{ℕ, suc, ◌<◌, true, cond, ◌⊎◌, ◌≡◌, eqb, get_or, Float}
use mathlib.Core.List.{List, [], ◌∷◌, flat_map}
use Rattle.std.specs.Float.{nan}
use Rattle.spatial.specs.declared.Wrench.{Wrench}
use Rattle.tree.specs.Ways.{Above, Beyond}
use Rattle.model.specs.Numbers.{Holds}
use Rattle.model.specs.View.{View, joint_count, moves, numbering_of}
use Rattle.loads.specs.Sums.{prepared_sums}
use Rattle.loads.specs.declared.Load.{Load}
use Rattle.outcome.specs.Call.{Call}
use Rattle.outcome.specs.Refusal.{output_length}
use Rattle.outcome.specs.Outcome.{outcome}
use Rattle.outcome.specs.When.{takes_speeds, takes_accelerations, takes_loads, entry}

abbrev parent_in : View → ℕ → ℕ
parent_in t i = (t.joint i).parent

-- joint i is on the way from the root to joint j; j is ("Joint j (from 0) leads to link j+1")
abbrev pub OnTheWay : View → ℕ → ℕ → Type 0
OnTheWay t j i = Above (parent_in t) (suc j) i

-- joint i hangs on joint j, in one of the two; j does
abbrev pub HangsOn : View → View → ℕ → ℕ → Type 0
HangsOn t u j i = Beyond (joint_count t) (parent_in t) j i ⊎ Beyond (joint_count u) (parent_in u) j i

-- the wrenches of the loads on a link, "in list order"
abbrev pub loads_on : ℕ → List Load → List Wrench
loads_on l = flat_map (λ (k : Load). cond (eqb k.link l) (k.wrench ∷ []) [])

-- these are the call's loads, where it takes any ("velocity product takes .. no loads")
abbrev pub Carries : Call → List Load → Type 0
Carries c ls = takes_loads c.function ≡ true → (id : ℕ) × (c.loads ≡ prepared_sums id c.model.count ls)

abbrev Moving : Call → ℕ → Type 0
Moving c i = moves (c.model.joint i).kind ≡ true

-- the number by which joint i's pose entry, speed and acceleration stand in their lists
abbrev number_in : Call → ℕ → ℕ
number_in c i = (c.model.joint i).number

-- kind, parent, number, origin and axis; and where it moves its pose entry, and its speed and acceleration where the function takes them
pub record SameJoint (c d : Call) (i : ℕ) : Type 0 where
  pub joint : c.model.joint i ≡ d.model.joint i
  pub pose : Moving c i → entry c (number_in c i) ≡ entry d (number_in c i)
  pub speed : Moving c i → takes_speeds c.function ≡ true → get_or c.speeds (number_in c i) nan ≡ get_or d.speeds (number_in c i) nan
  pub acceleration : Moving c i → takes_accelerations c.function ≡ true → get_or c.accelerations (number_in c i) nan ≡ get_or d.accelerations (number_in c i) nan

-- a joint that both models have, and the link that it leads to: mass, centre, inertia, and its loads where the function takes them
pub record SamePart (c : Call) (ls : List Load) (d : Call) (ms : List Load) (i : ℕ) : Type 0 where
  pub first : i < joint_count c.model
  pub second : i < joint_count d.model
  pub joint : SameJoint c d i
  pub link : c.model.link (suc i) ≡ d.model.link (suc i)
  pub loads : takes_loads c.function ≡ true → loads_on (suc i) ls ≡ loads_on (suc i) ms

-- one function, one mode, equal base states, and the same for joint j; masses and loads on the way, and all that hangs elsewhere, may differ
pub record SameFor (j : ℕ) (c : Call) (ls : List Load) (d : Call) (ms : List Load) : Type 0 where
  pub function : c.function ≡ d.function
  pub mode : c.mode ≡ d.mode
  pub base : c.base ≡ d.base
  pub way_to_the_root : (i : ℕ) → OnTheWay c.model j i → SameJoint c d i
  pub what_hangs_on_it : (i : ℕ) → HangsOn c.model d.model j i → SamePart c ls d ms i

-- ---- what follows

-- "Output holds m joint figures by joint number; floating output has six root figures first": before the figure at number n stand as many
-- places as an output of n joint figures has
abbrev pub figure_at : Call → ℕ → List Float → Float
figure_at c n out = get_or out (output_length c.mode n) nan

-- where joint j holds number n in the first model it does in the second, and the figure there has the same bits, for outputs as found
pub record Stays (n j : ℕ) (c d : Call) (found found' : List Float) : Type 0 where
  pub held : Holds (numbering_of d.model) n j
  pub figure : figure_at c n (outcome c found).output ≡ figure_at d n (outcome d found').output
