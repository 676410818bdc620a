use mathlib.Core.Path.{◌≡◌}
use lib.ListN.{take}
use Rattle.fit.specs.Finite.{all_finite}
use Rattle.fit.proofs.finite.finite_numbers.Given as goal

abbrev pub invariant-loop-x : goal.invariant-loop-x
invariant-loop-x l = l.good ≡ all_finite (take l.x-index l.s)
