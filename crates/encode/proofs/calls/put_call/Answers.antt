use Rattle.std.proofs.Common.{arith}
use Rattle.wire.proofs.PlacedLaws.{placed_then}
use Rattle.encode.specs.Calls.{asked, call_bytes}
use Rattle.encode.proofs.CallSizes.{length_head_of, length_call}
use Rattle.encode.proofs.SentLaws.{sent_short, sent_whole}
use Rattle.encode.proofs.calls.put_call.Goals as goal

pub returns-then-out-size : goal.returns-then-out-size
returns-then-out-size c = sent_short _ _ _ (length_call (asked c.args.call.now) c.requires) c.if-out-size.true

pub returns : goal.returns
unfolding call_bytes
returns c =
    let call = asked c.args.call.now in
    sent_whole _ _ _ _ (length_call call c.requires) c.if-out-size.false
    (placed_then _ _ _ _ _ _ _ c.put_head.ensures c.put_lists.ensures (omega (arith, length_head_of call)))
