use Rattle.std.proofs.Common.{◌≡◌, replicate}
use Rattle.wire.specs.Fill.{fill}
use Rattle.spatial.specs.Constants.{plus_zero}
use Rattle.model.specs.declared.Pose.TheVariants.{Slide}
use Rattle.records.specs.Places.{pose_place}
use Rattle.records.specs.Calls.{pose_in}
use Rattle.records.proofs.calls.positions_in.Given as goal

abbrev pub invariant-loop-i : goal.invariant-loop-i
invariant-loop-i l = l.positions ≡ fill (λ k. pose_in l.s (pose_place l.c k)) (replicate 63 (Slide plus_zero)) l.i
