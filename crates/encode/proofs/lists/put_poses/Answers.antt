use Rattle.encode.specs.Calls.{pose_bytes}
use Rattle.encode.proofs.JoinedLaws.{joined_turn}
use Rattle.encode.proofs.CallSizes.{length_pose}
use Rattle.encode.proofs.lists.put_poses.Goals as goal

pub loop-i-preserved : goal.loop-i-preserved
unfolding pose_bytes
loop-i-preserved c = joined_turn _ _ _ c.args.at c.loop-i.i 17 (pose_bytes c.args.positions.now) (λ i h. length_pose c.args.positions.now i) c.loop-i.invariant c.put_pose.ensures
