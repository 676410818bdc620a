use Rattle.spatial.specs.Wrenches.{wrench_to_parent}
use Rattle.spatial.proofs.wrenches.wrench_to_parent.Goals as goal

pub returns : goal.returns
unfolding wrench_to_parent
returns c = cc
