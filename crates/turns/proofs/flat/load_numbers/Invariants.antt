use mathlib.Core.Path.{◌≡◌}
use lib.ListN.{length}
use Rattle.turns.proofs.flat.load_numbers.Given as goal

abbrev pub invariant-loop-j : goal.invariant-loop-j
invariant-loop-j l = length l.t ≡ 1536

abbrev pub invariant-loop-i : goal.invariant-loop-i
invariant-loop-i l = length l.t ≡ 1536
