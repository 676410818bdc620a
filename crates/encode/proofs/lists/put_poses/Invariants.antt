use Rattle.std.proofs.Common.{◌≡◌, length}
use Rattle.wire.specs.Placed.{placed}
use Rattle.encode.specs.Joined.{joined}
use Rattle.encode.specs.Calls.{pose_bytes}
use Rattle.encode.proofs.lists.put_poses.Given as goal

abbrev pub invariant-loop-i : goal.invariant-loop-i
invariant-loop-i l = (length l.out ≡ length l.initial.out) × (l.out ≡ placed l.initial.out l.at (joined l.i (pose_bytes l.positions)))
