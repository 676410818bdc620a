use Rattle.std.proofs.Common.{◌-◌, arith}
use Rattle.std.proofs.lemmas.List.{get_or-take}
use Rattle.model.specs.Tables.{no_entry}
use Rattle.encode.specs.Models.{joint_bytes}
use Rattle.encode.proofs.JoinedLaws.{joined_turn}
use Rattle.encode.proofs.SizeLaws.{length_entry}
use Rattle.encode.proofs.joints.put_joints.Goals as goal

pub loop-j-preserved : goal.loop-j-preserved
loop-j-preserved c =
    joined_turn _ _ _ c.args.at c.loop-j.j 85 (joint_bytes c.args.model.now) (λ i h. length_entry _) c.loop-j.invariant
    (rw (← get_or-take (c.args.model.now.count - 1) c.args.model.now.joints c.loop-j.j no_entry (omega arith)) c.put_joint.ensures)
