use Rattle.std.proofs.Common.{◌≡◌, false, get_or}
use Rattle.spatial.specs.All.{all}
use Rattle.model.proofs.numbers.all_held.Given as goal

abbrev pub invariant-loop-n : goal.invariant-loop-n
invariant-loop-n l = l.good ≡ all l.n (λ k. get_or l.held k false)
