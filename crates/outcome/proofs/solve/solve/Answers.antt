use Rattle.std.proofs.Common.{◌≡◌, ◌∙◌, ◌+◌, ap, arith, rules, length, []}
use Rattle.model.specs.declared.RootMode.{RootMode}
use Rattle.dynamics.specs.Runs.{run_of}
use Rattle.sweeps.specs.Swept.{kernel_by}
use Rattle.outcome.specs.Refusal.{output_length}
use Rattle.outcome.proofs.OutputLaws.{fit_as_long, fixed_list, floating_list}
use Rattle.outcome.proofs.solve.solve.Goals as goal

pub inward-requires : goal.inward-requires
inward-requires g c =
    (search rules, fit_as_long c.args.model.now c.requires.good _ (c.requires.places ∙ ap (λ (m : RootMode). output_length m c.args.model.now.moving) c.in-Fixed.is))

pub floating-requires : goal.floating-requires
floating-requires g c =
    let long : length c.args.output.now ≡ 6 + c.args.model.now.moving = c.requires.places ∙ ap (λ (m : RootMode). output_length m c.args.model.now.moving) c.in-Floating.is in
    (search rules, (omega (arith, long), fit_as_long c.args.model.now c.requires.good _ (omega (arith, long))))

pub returns-in-Fixed : goal.returns-in-Fixed
returns-in-Fixed g c step positions root swept =
    let long = c.requires.places ∙ ap (λ (m : RootMode). output_length m c.args.model.now.moving) c.in-Fixed.is in
    let run = run_of c.args.model.now positions [] [] c.args.scratch.now.sums in
    rw c.in-Fixed.is
    (fixed_list c.args.model.now positions c.args.scratch.now.sums c.requires.good (kernel_by step g.K.Kernel.own run root) c.args.base.now.frame.rotation c.inward.new.output
    (c.inward.auto.output ∙ long) (c.inward.ensures step positions root swept).1)

pub returns-in-Floating : goal.returns-in-Floating
returns-in-Floating g c step positions root swept =
    let long = c.requires.places ∙ ap (λ (m : RootMode). output_length m c.args.model.now.moving) c.in-Floating.is in
    let run = run_of c.args.model.now positions [] [] c.args.scratch.now.sums in
    rw c.in-Floating.is
    (floating_list c.args.model.now positions c.args.scratch.now.sums c.requires.good (kernel_by step g.K.Kernel.own run root) c.args.base.now.frame.rotation c.floating.new.output
    (c.floating.auto.output ∙ long) (c.floating.ensures step positions root swept))
