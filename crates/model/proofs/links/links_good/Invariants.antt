use Rattle.spatial.specs.All.{all}
use Rattle.model.specs.Tables.{link_at}
use Rattle.model.specs.Links.{good_link}
use Rattle.model.proofs.ProductLaws.{Told}
use Rattle.model.proofs.links.links_good.Given as goal

abbrev pub invariant-loop-l : goal.invariant-loop-l
invariant-loop-l l = Told l.good l.a l.b (all l.l (λ k. good_link (link_at l.model k)))
