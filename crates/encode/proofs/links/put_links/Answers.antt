use Rattle.std.proofs.Common.{arith}
use Rattle.std.proofs.lemmas.List.{get_or-take}
use Rattle.model.specs.Tables.{no_link}
use Rattle.encode.specs.Models.{link_bytes}
use Rattle.encode.proofs.JoinedLaws.{joined_turn}
use Rattle.encode.proofs.SizeLaws.{length_link}
use Rattle.encode.proofs.links.put_links.Goals as goal

pub loop-l-preserved : goal.loop-l-preserved
unfolding link_bytes
loop-l-preserved c =
    joined_turn _ _ _ c.args.at c.loop-l.l 104 (link_bytes c.args.model.now) (λ i h. length_link c.args.model.now i) c.loop-l.invariant
    (rw (← get_or-take c.args.model.now.count c.args.model.now.links c.loop-l.l no_link (omega arith), ← c.link_table.ensures) c.put_floats.ensures)
