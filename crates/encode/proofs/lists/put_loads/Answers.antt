use Rattle.std.proofs.Common.{arith}
use Rattle.encode.specs.Calls.{load_bytes}
use Rattle.encode.proofs.JoinedLaws.{joined_turn}
use Rattle.encode.proofs.CallSizes.{length_load}
use Rattle.encode.proofs.lists.put_loads.Goals as goal

pub loop-i-preserved : goal.loop-i-preserved
unfolding load_bytes
loop-i-preserved c =
    joined_turn _ _ _ c.args.at c.loop-i.i 50 (load_bytes c.args.links.now c.args.numbers.now) (λ i h. length_load c.args.links.now c.args.numbers.now i (omega arith))
    c.loop-i.invariant c.put_load.ensures
