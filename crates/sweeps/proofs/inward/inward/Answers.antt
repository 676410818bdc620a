use Rattle.std.proofs.Common.{◌≡◌, ◌∙◌, ◌-◌, ◌+◌, ℕ, suc, [], refl, ap, arith, rules, get_or, length}
use lib.ListN.{length-set}
use Rattle.std.proofs.lemmas.List.{get_or_default}
use Rattle.spatial.specs.Past.{no_wrench}
use Rattle.spatial.specs.Wrenches.{wrench_sum}
use Rattle.spatial.specs.declared.Wrench.{Wrench}
use Rattle.model.specs.Tables.{link_at}
use Rattle.dynamics.specs.Runs.{run_of}
use Rattle.sweeps.specs.Swept.{steps_of, owns_of}
use Rattle.sweeps.proofs.KernelLaws.{inner_first, inner_next, begun, summed_up, swept_loaded, root_value}
use Rattle.sweeps.proofs.inward.inward.Goals as goal

pub loop-j-init : goal.loop-j-init
loop-j-init g c = (search rules, inner_first _ _ c.args.frames.now _ _ c.args.output.now)

pub loop-j-preserved : goal.loop-j-preserved
loop-j-preserved g c =
    let kernel = g.K.Kernel in
    let i = c.loop-j.invariant in
    let n = c.loop-j.j - 1 + 1 in
    let t = run_of c.args.model.now [] [] [] [] in
    let own : ℕ → Wrench = λ k. kernel.own (link_at c.args.model.now k) (get_or c.args.values.now k kernel.none) in
    let at : n ≡ c.loop-j.j = omega (arith, c.loop-j-test.true) in
    let read = get_or_default c.args.values.now n c.index-values-j.result kernel.none (search rules) in
    let total = c.add_wrench-total.ensures ∙ ap (wrench_sum (get_or c.loop-j.sums n no_wrench)) (c.bear-in-loop-j.ensures ∙ ap (kernel.own (link_at c.args.model.now n)) read) in (
      length-set c.loop-j.sums _ _ ∙ i.0,
      inner_next t (length c.args.output.now) c.requires.fit c.args.frames.now own _ c.loop-j.j (c.loop-j.j - 1) c.joint-joint.result c.loop-j.sums _ c.loop-j.output _ c.add_wrench-total.result c.add_wrench-sum.result
          c.loop-j.auto.output (let e : c.loop-j.j ≡ suc (c.loop-j.j - 1) = omega (arith, c.loop-j-test.true) in e) (omega arith) i.0 c.joint-joint.ensures
          (total ∙ ap (λ k. wrench_sum (get_or c.loop-j.sums k no_wrench) (own k)) at)
          c.put.ensures
          (c.add_wrench-sum.ensures ∙ ap (wrench_sum (get_or c.loop-j.sums c.joint-joint.result.parent no_wrench)) c.wrench_to_parent.ensures)
          refl i.1,
    )

pub returns : goal.returns
returns g c step positions root outer =
    let kernel = g.K.Kernel in
    let t = run_of c.args.model.now positions [] [] c.args.sums.now in
    let n = c.args.model.now.count - 1 in
    let swept = swept_loaded step c.args.model.now positions [] c.args.sums.now root kernel.none c.args.frames.now c.args.values.now n outer in
    let read = get_or_default c.args.values.now 0 c.index-values-0.result kernel.none (search rules) ∙ root_value t root (steps_of step t) kernel.none c.args.frames.now c.args.values.now n swept in
    let first = c.add_wrench.ensures ∙ ap (wrench_sum (get_or c.args.sums.now 0 no_wrench)) (c.bear.ensures ∙ ap (kernel.own (link_at c.args.model.now 0)) read) in
    summed_up t root (steps_of step t) (owns_of kernel.own t) kernel.none c.args.frames.now c.args.values.now _ n (omega arith) swept
    (begun t (kernel.own (link_at c.args.model.now 0) root) c.args.sums.now c.add_wrench.result (λ l. refl) (search rules) first)
    c.loop-j.sums c.loop-j.output c.loop-j.j (omega (arith, c.loop-j-test.false)) c.loop-j.invariant.1
