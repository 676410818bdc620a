use Rattle.std.proofs.Common.{◌∙◌, ap, arith, [], refl, sym, length}
use Rattle.refusal.specs.Numbers.{number}
use Rattle.outcome.specs.declared.Function.TheVariants.{Gravity}
use Rattle.outcome.proofs.ReadyLaws.{loads_stop, checks_stop}
use Rattle.outcome.proofs.gravity.gravity_core_lent.Goals as goal

pub returns-in-Ok : goal.returns-in-Ok
returns-in-Ok c =
    let a = c.args in
    loads_stop Gravity a.mode a.model.now a.base.now a.positions.now (length a.positions.now) [] [] a.scratch.now.sums refl a.refused 0 a.output.now
    (sym (ap number c.in-Ok.is) ∙ c.check_gravity-answer.ensures a.scratch.now.sums) (omega (arith, c.if-refused-ne0.true))

pub returns-in-Err : goal.returns-in-Err
returns-in-Err c =
    let a = c.args in
    rw c.number.ensures
    (checks_stop Gravity a.mode a.model.now a.base.now a.positions.now (length a.positions.now) [] [] a.scratch.now.sums refl c.in-Err.refusal a.refused a.output.now
    (sym (ap number c.in-Err.is) ∙ c.check_gravity-answer.ensures a.scratch.now.sums) (omega (arith, c.if-refused-ne0.true)))
