use Rattle.std.proofs.Common.{◌∙◌, ap, refl, arith, length}
use lib.ListN.{length-set}
use Rattle.spatial.proofs.AllLaws.{all_start}
use Rattle.model.specs.Marks.{numbering_to}
use Rattle.model.proofs.NumberLaws.{marked_none, good_turn, marks_turn, marks_stay, moves_fixed, moves_other, numbered_end}
use Rattle.model.proofs.numbers.numbers_good.Goals.{then-entry-ne0, else-entry-ne0}
use Rattle.model.proofs.numbers.numbers_good.Goals as goal

pub loop-j-init : goal.loop-j-init
loop-j-init c = (refl, all_start _, marked_none (numbering_to c.args.model.now c.args.count) c.requires.1)

pub loop-j-preserved : goal.loop-j-preserved
loop-j-preserved c =
    let t = numbering_to c.args.model.now c.args.count in
    let i = c.loop-j.invariant in
    let e = c.slot-at.ensures.place in (
      elim c.if-entry-ne0.branch [ then-entry-ne0 w ↦ ap length w.held-is ∙ length-set c.loop-j.held _ _ ∙ i.0 | else-entry-ne0 w ↦ ap length w.held-is ∙ i.0 ],
      good_turn t c.loop-j.j c.loop-j.held c.requires.1 i.0 i.2 _ e _ _ i.1 c.number_fits-good.ensures,
      elim c.if-entry-ne0.branch [
        | then-entry-ne0 w ↦ rw w.held-is (marks_turn t c.loop-j.j c.loop-j.held c.requires.1 i.0 i.2 _ e (moves_other _ w.if-entry-ne0.true))
        | else-entry-ne0 w ↦ rw w.held-is (marks_stay t c.loop-j.j c.loop-j.held i.2 (moves_fixed _ w.if-entry-ne0.false))
      ],
    )

pub returns : goal.returns
returns c =
    numbered_end (numbering_to c.args.model.now c.args.count) c.loop-j.j c.loop-j.held _ _ (omega arith) (omega arith)
    c.loop-j.invariant.1 c.loop-j.invariant.2 c.all_held-filled.ensures
