use mathlib.Core.Path.{refl}
use Rattle.spatial.specs.Vectors.{crossed}
use Rattle.spatial.proofs.vectors.cross.Goals as goal

pub returns : goal.returns
unfolding crossed
returns c = refl
