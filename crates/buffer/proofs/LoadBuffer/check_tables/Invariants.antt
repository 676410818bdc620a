use Rattle.std.proofs.Common.{◌≡◌, true}
use Rattle.spatial.specs.All.{all}
use Rattle.buffer.specs.Agree.{place_agrees}
use Rattle.buffer.proofs.LoadBuffer.check_tables.Given as goal

abbrev pub invariant-loop-i : goal.invariant-loop-i
invariant-loop-i l = all l.i (place_agrees l.self) ≡ true
