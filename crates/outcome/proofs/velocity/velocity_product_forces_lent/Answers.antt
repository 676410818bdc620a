use Rattle.std.proofs.Common.{◌≡◌, ◌∙◌, ◌<◌, ℕ, refl, arith, length, get_or, []}
use Rattle.std.specs.Prelude.{replicate}
use Rattle.std.proofs.lemmas.Result.{err_from_is_err_and}
use lib.Ieee.{of_bits}
use lib.ListN.{get_or-replicate}
use Rattle.spatial.specs.Constants.{plus_zero, zero_wrench}
use Rattle.spatial.specs.Past.{no_wrench}
use Rattle.loads.specs.Sums.{start_sums}
use Rattle.model.proofs.GoodLaws.{few_moving}
use Rattle.model.specs.Tables.{view_of}
use Rattle.sweeps.specs.Kernels.{driven_step}
use Rattle.outcome.specs.Call.{call_of}
use Rattle.outcome.specs.declared.Function.TheVariants.{VelocityProduct}
use Rattle.outcome.proofs.FigureLaws.{velocity_figures}
use Rattle.outcome.proofs.OutputLaws.{fit_good}
use Rattle.outcome.proofs.PassedLaws.{counts_good}
use Rattle.outcome.proofs.ReadyLaws.{refused_call, accepted_call, good, positions_fit, speeds_fit, places_fit}
use Rattle.outcome.proofs.velocity.velocity_product_forces_lent.Goals as goal

pub returns-in_err-check_velocity : goal.returns-in_err-check_velocity
returns-in_err-check_velocity c =
    let p = err_from_is_err_and c.from_residual.result c.from_residual.ensures.1 in
    rw (p.1, p.2) (refused_call _ c.args.output.now c.in_err-check_velocity.field-0.0 c.in_err-check_velocity.ensures)

pub solve-requires : goal.solve-requires
solve-requires c = (omega arith, (good _ _ c.in_ok-check_velocity.ensures, places_fit _ _ c.in_ok-check_velocity.ensures))

pub returns : goal.returns
unfolding of_bits
returns c =
    let m = c.args.model.now in
    let ps = c.args.positions.now in
    let vs = c.args.speeds.now in
    let call = call_of VelocityProduct c.args.mode m c.args.base.now ps (length ps) vs [] start_sums in
    let places = length c.args.output.now in
    let passed = c.in_ok-check_velocity.ensures in
    let g = good call places passed in
    let swept =
    c.outward-passed.ensures.swept (counts_good (view_of m) g) (fit_good m [] [] [] [] g) (omega (arith, positions_fit call places passed))
    (omega (arith, speeds_fit call places passed refl, few_moving (view_of m) g)) in
    let sums = replicate 64 c.zero_wrench-scratch.result in
    let loads : (l : ℕ) → l < m.count → get_or sums l no_wrench ≡ zero_wrench =
    λ l h. get_or-replicate 64 l c.zero_wrench-scratch.result no_wrench (omega (arith, h, g.few)) ∙ c.zero_wrench-scratch.ensures in
    accepted_call call c.args.output.now c.solve.new.output c.check_figures.result passed
    (c.solve.ensures (driven_step vs (replicate 63 plus_zero)) ps c.velocity_root-root.result swept
    ∙ velocity_figures m g c.args.mode c.args.base.now ps (length ps) vs sums loads c.velocity_root-root.result c.velocity_root-root.ensures)
    c.check_figures.ensures
