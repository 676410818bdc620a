use mathlib.Core.Path.{sym, subst}
use lib.Dec.{T}
use Rattle.fit.proofs.FiniteLaws.{nan_not_zero, not_nan, zero_bits}
use Rattle.fit.proofs.finite.is_plus_zero.Goals as goal

pub returns-then-x : goal.returns-then-x
returns-then-x c = nan_not_zero c.args.x c.if-x.true

pub float_to_bits-result : goal.float_to_bits-result
float_to_bits-result c = not_nan c.args.x c.if-x.false

pub returns : goal.returns
returns c = zero_bits c.args.x (subst T (sym c.well_formed.0.1) tt)
