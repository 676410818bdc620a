use Rattle.std.proofs.Common.{refl, sym, ◌∙◌}
use Rattle.encode.specs.Calls.{asked, call_writable}
use Rattle.encode.proofs.CallSizes.{counted}
use Rattle.encode.proofs.calls.write_call.Goals as goal

pub returns-then-not-counts_fit : goal.returns-then-not-counts_fit
unfolding call_writable
returns-then-not-counts_fit c = rw (sym c.counts_fit.ensures ∙ c.if-not-counts_fit.true) refl

pub returns-then-not-links_writable : goal.returns-then-not-links_writable
unfolding call_writable
returns-then-not-links_writable c = rw (sym c.counts_fit.ensures ∙ c.if-not-counts_fit.false, sym c.links_writable.ensures ∙ c.if-not-links_writable.true) refl

pub put_call-requires : goal.put_call-requires
put_call-requires c = counted (asked c.args.call.now) (sym c.counts_fit.ensures ∙ c.if-not-counts_fit.false)

pub returns : goal.returns
unfolding call_writable
returns c = rw (sym c.counts_fit.ensures ∙ c.if-not-counts_fit.false, sym c.links_writable.ensures ∙ c.if-not-links_writable.false) c.put_call.ensures
