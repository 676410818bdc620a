use Rattle.std.proofs.Common.{◌≡◌, get_or, Ok}
use Rattle.model.specs.Poses.{first, pose_checked, no_pose}
use Rattle.model.specs.Tables.{kind_of}
use Rattle.model.proofs.poses.check_positions.Given as goal

abbrev pub invariant-loop-n : goal.invariant-loop-n
invariant-loop-n l = first l.n (λ k. pose_checked (kind_of (get_or l.codes k 0)) (get_or l.positions k no_pose)) ≡ Ok tt
