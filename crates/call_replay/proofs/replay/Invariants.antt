use Prim.Native.Nat.{◌≤◌}
use Rattle.call_replay.proofs.replay.Given as goal

abbrev pub invariant-loop-run : goal.invariant-loop-run
invariant-loop-run l = l.same ≤ l.run
