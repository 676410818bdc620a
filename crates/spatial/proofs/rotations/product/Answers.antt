use mathlib.Core.Path.{refl}
use Rattle.spatial.specs.Rotations.{multiplied}
use Rattle.spatial.proofs.rotations.product.Goals as goal

pub returns : goal.returns
unfolding multiplied
returns c = refl
