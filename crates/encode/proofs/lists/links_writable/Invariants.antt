use Rattle.std.proofs.Common.{◌≡◌, ltb, get_or}
use Rattle.spatial.specs.All.{all}
use Rattle.encode.proofs.lists.links_writable.Given as goal

abbrev pub invariant-loop-link : goal.invariant-loop-link
invariant-loop-link l = l.good ≡ all l.link-index (λ k. ltb (get_or l.links k 0) 65536)
