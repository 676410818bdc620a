use mathlib.Core.Path.{refl, ap, ◌∙◌}
use lib.ListN.{length}
use Rattle.wire.specs.Big.{float_bytes}
use Rattle.wire.specs.Placed.{placed}
use Rattle.wire.proofs.BytesLaws.{floats_step}
use Rattle.wire.proofs.PlacedLaws.{length_placed}
use Rattle.wire.proofs.write.put_floats.Goals as goal

pub loop-i-init : goal.loop-i-init
unfolding placed float_bytes
loop-i-init c = (refl, refl)

pub loop-i-preserved : goal.loop-i-preserved
loop-i-preserved c = let e = floats_step _ _ _ c.args.at c.args.xs.now c.loop-i.i c.loop-i-test.true c.loop-i.invariant.1 c.put_f64.ensures in
    (ap length e ∙ length_placed _ _ _, e)
