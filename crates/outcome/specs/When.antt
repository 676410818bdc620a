-- 01, Refusal numbers and their order: when a call gets each number, for an output of so many places.
use Rattle.std.specs.Prelude.{ℕ, ◌<◌, Bool, true, false, List, ◌≡◌, length, get_or, Float}
use Rattle.fit.specs.Finite.{all_finite}
use Rattle.model.specs.Bases.{GoodBase}
use Rattle.model.specs.Good.{GoodModel}
use Rattle.model.specs.Numbers.{Holds}
use Rattle.model.specs.Poses.{pose_numbers, pose_fits, GoodPose, no_pose}
use Rattle.model.specs.View.{numbering_of}
use Rattle.model.specs.declared.Pose.{Pose}
use Rattle.outcome.specs.declared.Function.{Function}
use Rattle.outcome.specs.declared.Function.TheVariants.{InverseDynamics, Gravity, VelocityProduct}
use Rattle.outcome.specs.Call.{Call}
use Rattle.outcome.specs.Refusal.{output_length}
use Rattle.outcome.specs.Figures.{figures}

-- ---- "Gravity takes no speeds; velocity product takes no accelerations and no loads"; accelerations are "inverse dynamics only"

abbrev pub takes_speeds : Function → Bool
takes_speeds InverseDynamics = true
takes_speeds Gravity = false
takes_speeds VelocityProduct = true

abbrev pub takes_accelerations : Function → Bool
takes_accelerations InverseDynamics = true
takes_accelerations Gravity = false
takes_accelerations VelocityProduct = false

abbrev pub takes_loads : Function → Bool
takes_loads InverseDynamics = true
takes_loads Gravity = true
takes_loads VelocityProduct = false

-- ---- "Order": what has passed when a check's turn comes

-- "1; 2;"
pub record PositionsTurn (c : Call) : Type 0 where
  pub model : GoodModel c.model
  pub base : GoodBase c.base

-- "positions 3"
pub record EntriesTurn (c : Call) : Type 0 where
  pub before : PositionsTurn c
  pub count : c.entries ≡ c.model.moving

abbrev pub entry : Call → ℕ → Pose
entry c n = get_or c.positions n no_pose

-- entry n is good at the joint that holds n
abbrev pub GoodEntry : Call → ℕ → Type 0
GoodEntry c n = (j : ℕ) → Holds (numbering_of c.model) n j → GoodPose (c.model.joint j).kind (entry c n)

-- "then entry by entry"
pub record EntryTurn (c : Call) (n : ℕ) : Type 0 where
  pub before : EntriesTurn c
  pub inside : n < c.model.moving
  pub good : (k : ℕ) → k < n → GoodEntry c k

pub record SpeedsTurn (c : Call) : Type 0 where
  pub before : EntriesTurn c
  pub entries : (n : ℕ) → n < c.model.moving → GoodEntry c n

-- m numbers, all finite
pub record GoodList (xs : List Float) (m : ℕ) : Type 0 where
  pub count : length xs ≡ m
  pub finite : all_finite xs ≡ true

-- "speeds 3, 5"
pub record AccelerationsTurn (c : Call) : Type 0 where
  pub before : SpeedsTurn c
  pub speeds : takes_speeds c.function ≡ true → GoodList c.speeds c.model.moving

-- "accelerations 3, 5"
pub record OutputTurn (c : Call) : Type 0 where
  pub before : AccelerationsTurn c
  pub accelerations : takes_accelerations c.function ≡ true → GoodList c.accelerations c.model.moving

-- "output length 3"
pub record LoadsTurn (c : Call) (places : ℕ) : Type 0 where
  pub before : OutputTurn c
  pub output : places ≡ output_length c.mode c.model.moving

-- "10; loads in turn, each 6, 5, 7"
pub record FiguresTurn (c : Call) (places : ℕ) : Type 0 where
  pub before : LoadsTurn c places
  pub loads : takes_loads c.function ≡ true → c.loads.number ≡ 0

-- ---- "given exactly when"

-- "the model isn't good"
abbrev pub One : Call → Type 0
One c = GoodModel c.model → ⊥

-- "the base state breaks its rule"
pub record Two (c : Call) : Type 0 where
  pub model : GoodModel c.model
  pub base : GoodBase c.base → ⊥

-- the loads' number, where they are taken
pub record LoadsGive (c : Call) (places n : ℕ) : Type 0 where
  pub turn : LoadsTurn c places
  pub taken : takes_loads c.function ≡ true
  pub number : c.loads.number ≡ n

-- "a list, output or lent table has the wrong length"
pub data Three (c : Call) (places : ℕ) : Type 0 where
  positions : PositionsTurn c → (c.entries ≡ c.model.moving → ⊥) → Three c places
  speeds : SpeedsTurn c → takes_speeds c.function ≡ true → (length c.speeds ≡ c.model.moving → ⊥) → Three c places
  accelerations : AccelerationsTurn c → takes_accelerations c.function ≡ true → (length c.accelerations ≡ c.model.moving → ⊥) → Three c places
  output : OutputTurn c → (places ≡ output_length c.mode c.model.moving → ⊥) → Three c places
  loads : LoadsGive c places 3 → Three c places

-- "a finite pose entry is of the wrong kind or fails the unit test"
pub record Four (c : Call) : Type 0 where
  pub at : ℕ
  pub turn : EntryTurn c at
  pub finite : all_finite (pose_numbers (entry c at)) ≡ true
  pub joint : ℕ
  pub holds : Holds (numbering_of c.model) at joint
  pub broken : pose_fits (c.model.joint joint).kind (entry c at) ≡ false

-- "a position, speed, acceleration or load is not finite"
pub data Five (c : Call) (places : ℕ) : Type 0 where
  position : (n : ℕ) → EntryTurn c n → all_finite (pose_numbers (entry c n)) ≡ false → Five c places
  speed : SpeedsTurn c → takes_speeds c.function ≡ true → length c.speeds ≡ c.model.moving → all_finite c.speeds ≡ false → Five c places
  acceleration : AccelerationsTurn c → takes_accelerations c.function ≡ true → length c.accelerations ≡ c.model.moving → all_finite c.accelerations ≡ false → Five c places
  load : LoadsGive c places 5 → Five c places

-- "a load's id or link is not the model's"
abbrev pub Six : Call → ℕ → Type 0
Six c places = LoadsGive c places 6

-- "a load sum is not finite"
abbrev pub Seven : Call → ℕ → Type 0
Seven c places = LoadsGive c places 7

-- "a result is not finite"
pub record Eight (c : Call) (places : ℕ) : Type 0 where
  pub turn : FiguresTurn c places
  pub broken : all_finite (figures c) ≡ false

-- "more than 256 loads"
abbrev pub Ten : Call → ℕ → Type 0
Ten c places = LoadsGive c places 10

-- 0: nothing is refused
pub record None (c : Call) (places : ℕ) : Type 0 where
  pub turn : FiguresTurn c places
  pub finite : all_finite (figures c) ≡ true
