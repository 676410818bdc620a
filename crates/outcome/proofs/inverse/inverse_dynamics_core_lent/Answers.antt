use Rattle.std.proofs.Common.{◌∙◌, ap, arith, refl, sym, length}
use Rattle.refusal.specs.Numbers.{number}
use Rattle.outcome.specs.declared.Function.TheVariants.{InverseDynamics}
use Rattle.outcome.proofs.ReadyLaws.{loads_stop, checks_stop}
use Rattle.outcome.proofs.inverse.inverse_dynamics_core_lent.Goals as goal

pub returns-in-Ok : goal.returns-in-Ok
returns-in-Ok c =
    let a = c.args in
    loads_stop InverseDynamics a.mode a.model.now a.base.now a.joints.positions.now (length a.joints.positions.now) a.joints.speeds.now a.joints.accelerations.now a.scratch.now.sums refl a.refused 0 a.output.now
    (sym (ap number c.in-Ok.is) ∙ c.check_inverse-answer.ensures a.scratch.now.sums) (omega (arith, c.if-refused-ne0.true))

pub returns-in-Err : goal.returns-in-Err
returns-in-Err c =
    let a = c.args in
    rw c.number.ensures
    (checks_stop InverseDynamics a.mode a.model.now a.base.now a.joints.positions.now (length a.joints.positions.now) a.joints.speeds.now a.joints.accelerations.now a.scratch.now.sums refl c.in-Err.refusal a.refused a.output.now
    (sym (ap number c.in-Err.is) ∙ c.check_inverse-answer.ensures a.scratch.now.sums) (omega (arith, c.if-refused-ne0.true)))
