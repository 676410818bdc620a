use Rattle.std.proofs.Common.{◌∙◌, refl, arith}
use lib.ListN.{length-set}
use Rattle.model.specs.Marks.{numbering_to}
use Rattle.model.specs.Tables.{entry_at}
use Rattle.model.proofs.NumberLaws.{coded_none, codes_turn, coded_end}
use Rattle.model.proofs.poses.codes_by_number.Goals as goal

pub loop-j-init : goal.loop-j-init
loop-j-init c = (refl, coded_none _ _ c.requires.1)

pub loop-j-preserved : goal.loop-j-preserved
loop-j-preserved c =
    let i = c.loop-j.invariant in (
      length-set c.loop-j.codes _ _ ∙ i.0,
      codes_turn (numbering_to c.args.model.now c.args.count) (λ k. (entry_at c.args.model.now k).kind) (λ k. refl) c.loop-j.j c.loop-j.codes c.requires.1 i.0 i.1 _
          c.slot-at.ensures.place _ c.code_kept.ensures,
    )

pub returns : goal.returns
returns c = coded_end (numbering_to c.args.model.now c.args.count) _ _ _ c.loop-j.codes (omega arith) (omega arith) c.loop-j.invariant.1
