use Rattle.std.proofs.Common.{◌∙◌, refl, arith, length, []}
use Rattle.std.proofs.lemmas.Result.{err_from_is_err_and}
use Rattle.model.specs.Tables.{view_of}
use Rattle.sweeps.specs.Kernels.{driven_step}
use Rattle.loads.specs.Sums.{summed}
use Rattle.outcome.specs.Call.{call_of}
use Rattle.outcome.specs.declared.Function.TheVariants.{InverseDynamics}
use Rattle.outcome.proofs.FigureLaws.{inverse_figures}
use Rattle.outcome.proofs.OutputLaws.{fit_good}
use Rattle.outcome.proofs.PassedLaws.{counts_good}
use Rattle.outcome.proofs.ReadyLaws.{refused_call, accepted_call, good, positions_fit, speeds_fit, accelerations_fit, places_fit}
use Rattle.outcome.proofs.inverse.inverse_dynamics_lent.Goals as goal

pub returns-in_err-check_inverse : goal.returns-in_err-check_inverse
returns-in_err-check_inverse c =
    let p = err_from_is_err_and c.from_residual.result c.from_residual.ensures.1 in
    rw (p.1, p.2) (refused_call _ c.args.output.now c.in_err-check_inverse.field-0.0 (c.in_err-check_inverse.ensures c.args.scratch.now.sums))

pub solve-requires : goal.solve-requires
solve-requires c = (omega arith, (good _ _ (c.in_ok-check_inverse.ensures []), places_fit _ _ (c.in_ok-check_inverse.ensures [])))

pub returns : goal.returns
returns c =
    let m = c.args.model.now in
    let ps = c.args.joints.positions.now in
    let vs = c.args.joints.speeds.now in
    let ds = c.args.joints.accelerations.now in
    let loads = summed c.args.loaded c.args.scratch.now.sums in
    let call = call_of InverseDynamics c.args.mode m c.args.base.now ps (length ps) vs ds loads in
    let places = length c.args.output.now in
    let passed = c.in_ok-check_inverse.ensures c.args.scratch.now.sums in
    let g = good call places passed in
    let swept =
    c.outward-passed.ensures.swept (counts_good (view_of m) g) (fit_good m [] [] [] [] g) (omega (arith, positions_fit call places passed))
    (omega (arith, speeds_fit call places passed refl, accelerations_fit call places passed refl)) in
    accepted_call call c.args.output.now c.solve.new.output c.check_figures.result passed
    (c.solve.ensures (driven_step vs ds) ps c.inverse_root-root.result swept ∙ inverse_figures m g c.args.mode c.args.base.now ps (length ps) vs ds loads c.inverse_root-root.result c.inverse_root-root.ensures)
    c.check_figures.ensures
