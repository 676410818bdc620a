use Rattle.spatial.specs.Rotations.{transformed}
use Rattle.spatial.proofs.rotations.transform.Goals as goal

pub returns : goal.returns
unfolding transformed
returns c = cc
