use Rattle.std.proofs.Common.{◌≡◌}
use Rattle.records.specs.Models.{model_to}
use Rattle.records.proofs.models.model_in.Given as goal

abbrev pub invariant-loop-l : goal.invariant-loop-l
invariant-loop-l l = l.model ≡ model_to l.s l.count l.moving l.l 0

abbrev pub invariant-loop-j : goal.invariant-loop-j
invariant-loop-j l = l.model ≡ model_to l.s l.count l.moving l.count l.j
