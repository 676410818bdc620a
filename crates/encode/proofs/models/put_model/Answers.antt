use Rattle.std.proofs.Common.{arith, ◌++◌}
use lib.ListN.{length-append}
use Rattle.wire.proofs.PlacedLaws.{placed_then}
use Rattle.encode.specs.Joined.{joined}
use Rattle.encode.specs.Models.{model_head, link_bytes, model_bytes}
use Rattle.encode.proofs.SizeLaws.{length_head, length_links, length_model}
use Rattle.encode.proofs.SentLaws.{sent_short, sent_whole}
use Rattle.encode.proofs.models.put_model.Goals as goal

pub returns-then-out-size : goal.returns-then-out-size
returns-then-out-size c = sent_short _ _ _ (length_model c.args.model.now) c.if-out-size.true

pub returns : goal.returns
unfolding model_bytes
returns c =
    let m = c.args.model.now in
    sent_whole _ _ _ _ (length_model m) c.if-out-size.false
    (placed_then _ _ _ _ _ (model_head m.count m.moving ++ joined m.count (link_bytes m)) _
    (placed_then _ _ _ _ _ (model_head m.count m.moving) _ c.put_head.ensures c.put_links.ensures (omega (arith, length_head m.count m.moving)))
    c.put_joints.ensures (simp length-append (omega (arith, length_head m.count m.moving, length_links m))))
