use mathlib.Core.Path.{refl}
use Rattle.spatial.specs.Vectors.{dotted}
use Rattle.spatial.proofs.vectors.dot.Goals as goal

pub returns : goal.returns
unfolding dotted
returns c = refl
