-- A call of one of the three functions, however it is laid out.
use Rattle.std.specs.Prelude.{ℕ, List, Float}
use Rattle.model.specs.Tables.{view_of}
use Rattle.model.specs.View.{View}
use Rattle.model.specs.declared.Model.{Model}
use Rattle.model.specs.declared.BaseState.{BaseState}
use Rattle.model.specs.declared.Pose.{Pose}
use Rattle.model.specs.declared.RootMode.{RootMode}
use Rattle.loads.specs.Sums.{LoadSums}
use Rattle.outcome.specs.declared.Function.{Function}

pub record Call : Type 0 where
  pub function : Function
  pub mode : RootMode
  pub model : View
  pub base : BaseState
  -- the positions are the first entries of the list
  pub positions : List Pose
  pub entries : ℕ
  pub speeds : List Float
  pub accelerations : List Float
  -- the loads' first refusal, or their sums
  pub loads : LoadSums

-- over a model
abbrev pub call_of : Function → RootMode → Model → BaseState → List Pose → ℕ → List Float → List Float → LoadSums → Call
call_of function mode model base positions entries speeds accelerations loads =
    record {
      function = function;
      mode = mode;
      model = view_of model;
      base = base;
      positions = positions;
      entries = entries;
      speeds = speeds;
      accelerations = accelerations;
      loads = loads;
    }
