use mathlib.Core.Path.{◌≡◌}
use lib.ListN.{length, take}
use Rattle.wire.specs.Big.{float_bytes}
use Rattle.wire.specs.Placed.{placed}
use Rattle.wire.proofs.write.put_floats.Given as goal

abbrev pub invariant-loop-i : goal.invariant-loop-i
invariant-loop-i l = (length l.out ≡ length l.initial.out) × (l.out ≡ placed l.initial.out l.at (float_bytes (take l.i l.xs)))
