use Rattle.std.proofs.Common.{◌≡◌, ◌+◌, ◌*◌, replicate}
use Rattle.wire.specs.Fill.{fill}
use Rattle.wire.specs.Big.{f64_at}
use Rattle.spatial.specs.Constants.{plus_zero}
use Rattle.records.proofs.calls.floats_in.Given as goal

abbrev pub invariant-loop-i : goal.invariant-loop-i
invariant-loop-i l = l.floats ≡ fill (λ k. f64_at l.s (l.at + 8 * k)) (replicate 63 plus_zero) l.i
