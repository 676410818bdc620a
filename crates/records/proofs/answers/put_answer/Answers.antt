use Rattle.records.proofs.SentLaws.{length_answer, sent_answer, sent_none}
use Rattle.records.proofs.answers.put_answer.Goals as goal

pub returns-then-out-size : goal.returns-then-out-size
returns-then-out-size c = sent_none _ _ _ (length_answer _ _) c.if-out-size.true

pub returns : goal.returns
returns c = sent_answer _ _ _ _ _ c.if-out-size.false c.put_head.ensures c.put_floats.ensures
