-- 01, Byte records: the parts that models and calls are made of, eight bytes a number.
use Rattle.std.specs.Prelude.{ℕ, ◌+◌, List}
use Rattle.spatial.specs.declared.Vector3.{Vector3}
use Rattle.spatial.specs.declared.Frame.{Frame}
use Rattle.spatial.specs.declared.Twist.{Twist}
use Rattle.wire.specs.Big.{f64_at}

unfoldable pub vector_in : List ℕ → ℕ → Vector3
vector_in s at = record { x = f64_at s at; y = f64_at s (at + 8); z = f64_at s (at + 16) }

-- angular, then linear
unfoldable pub twist_in : List ℕ → ℕ → Twist
twist_in s at = record { angular = vector_in s at; linear = vector_in s (at + 24) }

-- rotation (w, i, j, k), then translation
unfoldable pub frame_in : List ℕ → ℕ → Frame
frame_in s at =
    record {
      rotation = record { w = f64_at s at; i = f64_at s (at + 8); j = f64_at s (at + 16); k = f64_at s (at + 24) };
      translation = vector_in s (at + 32);
    }
