use Rattle.fit.specs.Finite.{frame_numbers, twist_numbers}
use Rattle.fit.proofs.FiniteLaws.{all_parts}
use Rattle.model.specs.Bases.{good_base}
use Rattle.model.proofs.bases.base_good.Goals as goal

pub returns : goal.returns
unfolding good_base
returns c =
    cc (all_parts (frame_numbers c.args.base.now.frame) (twist_numbers c.args.base.now.velocity) (twist_numbers c.args.base.now.acceleration))
