use mathlib.Core.Path.{refl}
use Rattle.spatial.specs.Rotations.{inverted}
use Rattle.spatial.proofs.rotations.inverse.Goals as goal

pub returns : goal.returns
unfolding inverted
returns c = refl
