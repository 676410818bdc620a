use Rattle.spatial.specs.Constants.{zero_wrench}
use Rattle.spatial.proofs.constants.zero_wrench.Goals as goal

pub returns : goal.returns
unfolding zero_wrench
returns c = cc
