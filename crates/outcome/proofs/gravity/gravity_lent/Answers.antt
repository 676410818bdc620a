use Rattle.std.proofs.Common.{◌∙◌, ap, arith, length, []}
use Rattle.std.proofs.lemmas.Result.{err_from_is_err_and}
use Rattle.model.proofs.GoodLaws.{few_moving}
use Rattle.model.specs.Tables.{view_of}
use Rattle.dynamics.specs.Weights.{turned}
use Rattle.sweeps.specs.Kernels.{gravity_step}
use Rattle.loads.specs.Sums.{summed}
use Rattle.outcome.specs.Call.{call_of}
use Rattle.outcome.specs.declared.Function.TheVariants.{Gravity}
use Rattle.outcome.proofs.FigureLaws.{gravity_figures}
use Rattle.outcome.proofs.OutputLaws.{fit_good}
use Rattle.outcome.proofs.PassedLaws.{counts_good}
use Rattle.outcome.proofs.ReadyLaws.{refused_call, accepted_call, good, positions_fit, places_fit}
use Rattle.outcome.proofs.gravity.gravity_lent.Goals as goal

pub returns-in_err-check_gravity : goal.returns-in_err-check_gravity
returns-in_err-check_gravity c =
    let p = err_from_is_err_and c.from_residual.result c.from_residual.ensures.1 in
    rw (p.1, p.2) (refused_call _ c.args.output.now c.in_err-check_gravity.field-0.0 (c.in_err-check_gravity.ensures c.args.scratch.now.sums))

pub solve-requires : goal.solve-requires
solve-requires c = (omega arith, (good _ _ (c.in_ok-check_gravity.ensures []), places_fit _ _ (c.in_ok-check_gravity.ensures [])))

pub returns : goal.returns
returns c =
    let m = c.args.model.now in
    let ps = c.args.positions.now in
    let loads = summed c.args.loaded c.args.scratch.now.sums in
    let call = call_of Gravity c.args.mode m c.args.base.now ps (length ps) [] [] loads in
    let passed = c.in_ok-check_gravity.ensures c.args.scratch.now.sums in
    let g = good call (length c.args.output.now) passed in
    let swept =
    c.outward-passed.ensures.swept (counts_good (view_of m) g) (fit_good m [] [] [] [] g) (omega (arith, positions_fit call (length c.args.output.now) passed)) (few_moving (view_of m) g) in
    let root = c.turned-root.ensures ∙ ap (turned c.args.base.now.frame.rotation) c.standard_gravity.ensures in
    accepted_call call c.args.output.now c.solve.new.output c.check_figures.result passed
    (c.solve.ensures gravity_step ps c.turned-root.result swept ∙ gravity_figures m g c.args.mode c.args.base.now ps (length ps) loads c.turned-root.result root)
    c.check_figures.ensures
