use Rattle.std.proofs.Common.{arith}
use Rattle.model.specs.Tables.{entry_at, joint_at}
use Rattle.model.proofs.ProductLaws.{told_start, told_joint, told_end}
use Rattle.model.proofs.joints.joints_good.Goals as goal

pub loop-j-init : goal.loop-j-init
loop-j-init c = told_start _ _ _ c.zero_vector-a.ensures c.zero_vector-b.ensures

pub loop-j-preserved : goal.loop-j-preserved
loop-j-preserved c =
    told_joint _ _ _ _ _ _ (λ k. (entry_at c.args.model.now k).kind) (joint_at c.args.model.now) _ _ c.loop-j.invariant c.joint-joint.ensures c.times-a.ensures
    c.times-b.ensures c.joint_fits-good.ensures

pub returns : goal.returns
returns c = told_end _ _ _ _ _ _ _ _ c.loop-j.invariant c.times.ensures c.finite_vector-finite.ensures (omega arith) (omega arith)
