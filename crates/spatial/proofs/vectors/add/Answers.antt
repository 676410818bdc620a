use mathlib.Core.Path.{refl}
use Rattle.spatial.specs.Vectors.{vector_sum}
use Rattle.spatial.proofs.vectors.add.Goals as goal

pub returns : goal.returns
unfolding vector_sum
returns c = refl
