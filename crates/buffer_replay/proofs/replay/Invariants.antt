use Rattle.std.proofs.Common.{◌≡◌, ◌≤◌, length}
use Rattle.buffer_replay.proofs.replay.Given as goal

abbrev pub invariant-loop-run : goal.invariant-loop-run
invariant-loop-run l = (l.same ≤ l.run) × (length l.operation ≡ 65536) × (length l.answer ≡ 65536)
