use Rattle.std.proofs.Common.{◌≡◌, Ok}
use Rattle.loads.specs.Sums.{summed}
use Rattle.loads.proofs.SumLaws.{swept}
use Rattle.loads.proofs.sums.prepare_indexed_loads.Given as goal

abbrev pub invariant-loop-i : goal.invariant-loop-i
invariant-loop-i l = summed (Ok tt) l.sums ≡ swept l.id l.links l.loads.ids.now l.loads.links.now l.loads.numbers.now l.i
