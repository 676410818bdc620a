-- 01, Refusal numbers and their order: "1; 2; positions 3, then entry by entry 5 before 4; speeds 3, 5; accelerations 3, 5 (inverse
-- dynamics only); output length 3; 10; loads in turn, each 6, 5, 7".
use Rattle.std.specs.Prelude.{ℕ, ◌+◌, eqb, List, Result, Ok}
use Rattle.refusal.specs.Numbers as Answer
use Rattle.refusal.specs.Numbers.{number, unless}
use Rattle.refusal.specs.declared.Refusal.{Refusal}
use Rattle.refusal.specs.declared.Refusal.TheVariants.{WrongLength}
use Rattle.model.specs.declared.BaseState.{BaseState}
use Rattle.model.specs.declared.Pose.{Pose}
use Rattle.model.specs.View.{View, numbering_of}
use Rattle.model.specs.Good.{model_checked}
use Rattle.model.specs.Bases.{base_checked}
use Rattle.model.specs.Poses.{positions_checked}
use Rattle.model.specs.Lists.{list_checked}
use Rattle.model.specs.declared.RootMode.{RootMode}
use Rattle.model.specs.declared.RootMode.TheVariants.{Fixed, Floating}
use Rattle.loads.specs.Checks.{or_else}
use Rattle.outcome.specs.declared.Function.{Function}
use Rattle.outcome.specs.declared.Function.TheVariants.{InverseDynamics, Gravity, VelocityProduct}
use Rattle.outcome.specs.Call.{Call}

-- "1; 2; positions 3, then entry by entry 5 before 4"
unfoldable pub start_checked : View → BaseState → List Pose → ℕ → Result Unit Refusal
start_checked t base positions entries =
    Answer.or_else (model_checked t)
    (Answer.or_else (base_checked base) (positions_checked (numbering_of t) (λ j. (t.joint j).kind) positions entries))

-- "Gravity takes no speeds"
abbrev pub speeds_checked : Call → Function → Result Unit Refusal
speeds_checked c InverseDynamics = list_checked c.speeds c.model.moving
speeds_checked c Gravity = Ok tt
speeds_checked c VelocityProduct = list_checked c.speeds c.model.moving

-- "(inverse dynamics only)"
abbrev pub accelerations_checked : Call → Function → Result Unit Refusal
accelerations_checked c InverseDynamics = list_checked c.accelerations c.model.moving
accelerations_checked c Gravity = Ok tt
accelerations_checked c VelocityProduct = Ok tt

-- "velocity product takes no accelerations and no loads"
abbrev pub loads_number : Call → Function → ℕ
loads_number c InverseDynamics = c.loads.number
loads_number c Gravity = c.loads.number
loads_number c VelocityProduct = 0

-- "Its length is m or 6+m exactly"
abbrev pub output_length : RootMode → ℕ → ℕ
output_length Fixed m = m
output_length Floating m = 6 + m

abbrev pub output_checked : RootMode → ℕ → ℕ → Result Unit Refusal
output_checked mode m length = unless (eqb length (output_length mode m)) WrongLength

-- the first refusal before the figures are worked out, for an output of so many places; 0 is none
unfoldable pub refusal : Call → ℕ → ℕ
refusal c length =
    or_else (number (start_checked c.model c.base c.positions c.entries))
    (or_else (number (speeds_checked c c.function))
    (or_else (number (accelerations_checked c c.function))
    (or_else (number (output_checked c.mode c.model.moving length))
    (loads_number c c.function))))
