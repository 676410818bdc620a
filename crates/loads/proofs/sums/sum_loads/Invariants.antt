use Rattle.std.proofs.Common.{◌≡◌, take, Ok}
use Rattle.loads.specs.Sums.{summed, start_sums, sum_from}
use Rattle.loads.proofs.sums.sum_loads.Given as goal

abbrev pub invariant-loop-load : goal.invariant-loop-load
invariant-loop-load l = summed (Ok tt) l.sums ≡ sum_from l.id l.links start_sums (take l.load-index l.loads)
