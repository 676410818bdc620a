use Rattle.std.proofs.Common.{refl, sym, ◌∙◌}
use Rattle.encode.proofs.WritableLaws.{counts_are_fit, counts_refused, joints_refused, both_writable}
use Rattle.encode.proofs.models.write_model.Goals as goal

pub returns-then-not-counts_writable : goal.returns-then-not-counts_writable
returns-then-not-counts_writable c = rw (counts_refused c.args.model.now (sym c.counts_writable.ensures ∙ c.if-not-counts_writable.true)) refl

pub joints_writable-requires : goal.joints_writable-requires
joints_writable-requires c =
    let f = counts_are_fit _ _ _ (sym c.counts_writable.ensures ∙ c.if-not-counts_writable.false) in
    (f.some, f.links)

pub returns-then-not-joints_writable : goal.returns-then-not-joints_writable
returns-then-not-joints_writable c = rw (joints_refused c.args.model.now (sym c.joints_writable.ensures ∙ c.if-not-joints_writable.true)) refl

pub put_model-requires : goal.put_model-requires
put_model-requires c =
    let f = counts_are_fit _ _ _ (sym c.counts_writable.ensures ∙ c.if-not-counts_writable.false) in
    (f.some, f.links)

pub returns : goal.returns
returns c =
    rw (both_writable c.args.model.now (sym c.counts_writable.ensures ∙ c.if-not-counts_writable.false) (sym c.joints_writable.ensures ∙ c.if-not-joints_writable.false))
    c.put_model.ensures
