use Rattle.std.proofs.Common.{◌≡◌, length}
use Rattle.wire.specs.Placed.{placed}
use Rattle.encode.specs.Joined.{joined}
use Rattle.encode.specs.Models.{joint_bytes}
use Rattle.encode.proofs.joints.put_joints.Given as goal

abbrev pub invariant-loop-j : goal.invariant-loop-j
invariant-loop-j l = (length l.out ≡ length l.initial.out) × (l.out ≡ placed l.initial.out l.at (joined l.j (joint_bytes l.model)))
