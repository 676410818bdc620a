use Rattle.records.proofs.CallLaws.{call_is}
use Rattle.records.proofs.answer.answer_laid.Goals as goal

pub returns : goal.returns
returns c = rw (← call_is _ _ c.of.ensures.told) c.answer_call.ensures
