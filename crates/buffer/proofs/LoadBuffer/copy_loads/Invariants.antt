use Rattle.std.proofs.Common.{◌≡◌}
use Rattle.buffer.proofs.CallLaws.{copied}
use Rattle.buffer.proofs.LoadBuffer.copy_loads.Given as goal

abbrev pub invariant-loop-place : goal.invariant-loop-place
invariant-loop-place l = l.table ≡ copied l.self.id l.self.loads l.initial.table l.place
