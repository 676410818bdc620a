use Rattle.std.proofs.Common.{◌≡◌, Ok}
use Rattle.loads.specs.Sums.{summed, load_sums}
use Rattle.records.specs.Calls.{loads_in}
use Rattle.records.proofs.calls.sums_in.Given as goal

abbrev pub invariant-loop-i : goal.invariant-loop-i
invariant-loop-i l = summed (Ok tt) l.sums ≡ load_sums 0 l.n (loads_in l.s l.call.place l.call.moving l.i)
