use mathlib.Core.Path.{sym}
use Rattle.records.specs.Reply.{reply}
use Rattle.records.proofs.LaidLaws.{told_laid}
use Rattle.records.proofs.answer.answer.Goals as goal

pub returns-in-Err : goal.returns-in-Err
unfolding reply
returns-in-Err c = rw (← c.in-Err.ensures, ← c.number.ensures) c.put_refusal.ensures

pub answer_laid-requires : goal.answer_laid-requires
answer_laid-requires c = told_laid _ _ (sym c.in_default.ensures)

pub returns : goal.returns
unfolding reply
returns c = rw (← c.in_default.ensures) c.answer_laid.ensures
