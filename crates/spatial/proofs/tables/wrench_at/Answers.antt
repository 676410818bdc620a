use mathlib.Core.Path.{refl}
use Rattle.spatial.specs.Tables.{wrench_at}
use Rattle.spatial.proofs.tables.wrench_at.Goals as goal

pub returns : goal.returns
unfolding wrench_at
returns c = refl
