use Rattle.spatial.specs.Wrenches.{wrench_sum}
use Rattle.spatial.proofs.wrenches.add_wrench.Goals as goal

pub returns : goal.returns
unfolding wrench_sum
returns c = cc
