use Rattle.spatial.specs.Constants.{zero_twist}
use Rattle.spatial.proofs.constants.zero_twist.Goals as goal

pub returns : goal.returns
unfolding zero_twist
returns c = cc
