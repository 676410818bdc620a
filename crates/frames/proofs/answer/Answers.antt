use mathlib.Core.Path.{sym}
use lib.Seq.{length-take-le}
use Rattle.records.proofs.SentLaws.{sent_counts}
use Rattle.frames.proofs.answer.Goals as goal

pub returns : goal.returns
returns c = let h = sent_counts _ _ _ _ c.answer.ensures in (h, sym (length-take-le _ _ h))
