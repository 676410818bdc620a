-- Tables of numbers: records of a fixed size one after the other.
use Rattle.std.specs.Prelude.{ℕ, ◌+◌, ◌*◌, List, Float, get_or}
use Rattle.std.specs.Float.{nan}
use Rattle.spatial.specs.declared.Wrench.{Wrench}

-- the wrench at place i of a table of six numbers each: torque, then force
unfoldable pub wrench_at : List Float → ℕ → Wrench
wrench_at ws i =
    record {
      torque = record { x = get_or ws (6 * i) nan; y = get_or ws (6 * i + 1) nan; z = get_or ws (6 * i + 2) nan };
      force = record { x = get_or ws (6 * i + 3) nan; y = get_or ws (6 * i + 4) nan; z = get_or ws (6 * i + 5) nan };
    }
