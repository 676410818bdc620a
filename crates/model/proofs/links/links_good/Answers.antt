use Rattle.std.proofs.Common.{arith, refl}
use lib.Ieee.{of_bits}
use Rattle.model.specs.Tables.{link_at}
use Rattle.model.proofs.ProductLaws.{told_start, told_link, told_end}
use Rattle.model.proofs.links.links_good.Goals as goal

pub loop-l-init : goal.loop-l-init
loop-l-init c = told_start _ _ _ c.zero_vector-a.ensures c.zero_vector-b.ensures

pub loop-l-preserved : goal.loop-l-preserved
unfolding of_bits
loop-l-preserved c =
    told_link _ _ _ (link_at c.args.model.now) _ _ _ _ _ _ _ c.loop-l.invariant refl c.scale-moment.ensures c.times.ensures c.times-a.ensures
    c.times-in-loop-l.ensures c.times-b.ensures

pub returns : goal.returns
returns c = told_end _ _ _ _ _ _ _ _ c.loop-l.invariant c.times-2.ensures c.finite_vector-finite.ensures (omega arith) (omega arith)
