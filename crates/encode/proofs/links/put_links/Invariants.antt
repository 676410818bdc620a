use Rattle.std.proofs.Common.{◌≡◌, length}
use Rattle.wire.specs.Placed.{placed}
use Rattle.encode.specs.Joined.{joined}
use Rattle.encode.specs.Models.{link_bytes}
use Rattle.encode.proofs.links.put_links.Given as goal

abbrev pub invariant-loop-l : goal.invariant-loop-l
invariant-loop-l l = (length l.out ≡ length l.initial.out) × (l.out ≡ placed l.initial.out l.at (joined l.l (link_bytes l.model)))
