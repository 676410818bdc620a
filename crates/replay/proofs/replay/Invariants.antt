use Prim.Native.Nat.{◌≤◌}
use Rattle.replay.proofs.replay.Given as goal

abbrev pub invariant-loop-run : goal.invariant-loop-run
invariant-loop-run l = l.same ≤ l.run
