use mathlib.Core.List.{[], append-nil}
use Rattle.wire.specs.Big.{float_bytes}
use Rattle.records.specs.Answers.{answer_bytes}
use Rattle.records.proofs.SentLaws.{length_answer, sent_all, sent_none}
use Rattle.records.proofs.answers.put_refusal.Goals as goal

pub returns-then-out-lt9 : goal.returns-then-out-lt9
returns-then-out-lt9 c = sent_none _ _ _ (length_answer _ []) c.if-out-lt9.true

pub returns : goal.returns
unfolding answer_bytes float_bytes
returns c = sent_all _ _ _ _ (length_answer _ []) c.if-out-lt9.false (rw append-nil c.put_head.ensures)
