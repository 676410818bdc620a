use Rattle.spatial.specs.All.{all}
use Rattle.model.specs.Tables.{entry_at, joint_at}
use Rattle.model.specs.Joints.{good_joint}
use Rattle.model.proofs.ProductLaws.{Told}
use Rattle.model.proofs.joints.joints_good.Given as goal

abbrev pub invariant-loop-j : goal.invariant-loop-j
invariant-loop-j l = Told l.good l.a l.b (all l.j (λ k. good_joint k (entry_at l.model k).kind (joint_at l.model k)))
