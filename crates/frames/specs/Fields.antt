-- The records of doubles that a frame has at a place.
use Rattle.std.specs.Prelude.{ℕ, ◌+◌, List}
use Rattle.spatial.specs.declared.Vector3.{Vector3}
use Rattle.spatial.specs.declared.Wrench.{Wrench}
use Rattle.wire.specs.Big.{f64_at}

abbrev pub vector_at : List ℕ → ℕ → Vector3
vector_at s at = record { x = f64_at s at; y = f64_at s (at + 8); z = f64_at s (at + 16) }

-- torque before force
abbrev pub wrench_at : List ℕ → ℕ → Wrench
wrench_at s at = record { torque = vector_at s at; force = vector_at s (at + 24) }
