use Rattle.spatial.specs.Wrenches.{world_wrench}
use Rattle.spatial.proofs.wrenches.world_wrench.Goals as goal

pub returns : goal.returns
unfolding world_wrench
returns c = cc
