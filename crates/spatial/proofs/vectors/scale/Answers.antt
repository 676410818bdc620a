use mathlib.Core.Path.{refl}
use Rattle.spatial.specs.Vectors.{scaled}
use Rattle.spatial.proofs.vectors.scale.Goals as goal

pub returns : goal.returns
unfolding scaled
returns c = refl
