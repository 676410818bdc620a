-- What records keep of a model and of a call: what is read back from them.
use Rattle.std.specs.Prelude.{ℕ, ◌-◌, List, [], length, get_or, replicate, Float}
use Rattle.spatial.specs.Listed.{list_of}
use Rattle.spatial.specs.Tables.{wrench_at}
use Rattle.model.specs.Tables.{link_at, entry_at}
use Rattle.model.specs.declared.Model.{Model}
use Rattle.build.specs.Build.{blank_link, blank_entry}
use Rattle.loads.specs.Sums.{start_sums, prepared_sums}
use Rattle.loads.specs.declared.Load.{Load}
use Rattle.outcome.specs.Call.{Call, call_of}
use Rattle.outcome.specs.declared.Function.{Function}
use Rattle.outcome.specs.declared.Function.TheVariants.{InverseDynamics, Gravity, VelocityProduct}
use Rattle.wire.specs.Fill.{fill}
use Rattle.encode.specs.Calls.{Asked}

-- "The id is 0"; zeros past the last link and joint
unfoldable pub kept_model : Model → Model
kept_model m =
    record {
      id = 0;
      count = m.count;
      moving = m.moving;
      links = fill (link_at m) (replicate 64 blank_link) m.count;
      joints = fill (entry_at m) (replicate 63 blank_entry) (m.count - 1);
    }

-- six numbers a load, torque before force
unfoldable pub kept_loads : List ℕ → List Float → List Load
kept_loads links numbers = list_of (length links) (λ i. record { id = 0; link = get_or links i 0; wrench = wrench_at numbers i })

-- "unused speeds, accelerations and loads are skipped unread"
unfoldable pub kept_for : Function → Model → Asked → Call
kept_for InverseDynamics m c =
    call_of InverseDynamics c.mode (kept_model m) c.base c.positions (length c.positions) c.speeds c.accelerations
    (prepared_sums 0 m.count (kept_loads c.links c.numbers))
kept_for Gravity m c =
    call_of Gravity c.mode (kept_model m) c.base c.positions (length c.positions) [] []
    (prepared_sums 0 m.count (kept_loads c.links c.numbers))
kept_for VelocityProduct m c =
    call_of VelocityProduct c.mode (kept_model m) c.base c.positions (length c.positions) c.speeds [] start_sums

abbrev pub kept_call : Model → Asked → Call
kept_call m c = kept_for c.function m c
