use Rattle.std.proofs.Common.{refl}
use Rattle.spatial.proofs.AllLaws.{all_start, all_turn}
use Rattle.model.proofs.numbers.all_held.Goals as goal

pub loop-n-init : goal.loop-n-init
loop-n-init c = all_start _

pub loop-n-preserved : goal.loop-n-preserved
loop-n-preserved c = all_turn _ _ _ _ c.loop-n.invariant refl
