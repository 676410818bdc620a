use Rattle.std.proofs.Common.{◌≡◌}
use Rattle.spatial.specs.All.{all}
use Rattle.model.specs.Tables.{entry_at}
use Rattle.encode.specs.Models.{joint_writable}
use Rattle.encode.proofs.joints.joints_writable.Given as goal

abbrev pub invariant-loop-j : goal.invariant-loop-j
invariant-loop-j l = l.good ≡ all l.j (λ k. joint_writable (entry_at l.model k))
