use mathlib.Core.Path.{◌≡◌}
use lib.ListN.{length}
use Rattle.turns.proofs.flat.load_links.Given as goal

abbrev pub invariant-loop-i : goal.invariant-loop-i
invariant-loop-i l = length l.t ≡ 256
