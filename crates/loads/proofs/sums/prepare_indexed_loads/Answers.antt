use Rattle.std.proofs.Common.{◌∙◌, sym, ap, Ok}
use Rattle.std.proofs.lemmas.Result.{err_from_is_err_and}
use Rattle.loads.specs.declared.Load.{Load}
use Rattle.loads.specs.Sums.{summed, sum_step}
use Rattle.loads.proofs.SumLaws.{begun, swept_none, flat_stops}
use Rattle.loads.proofs.sums.prepare_indexed_loads.Goals as goal

pub loop-i-init : goal.loop-i-init
loop-i-init c = begun c.clear.new.sums c.clear.ensures ∙ sym (swept_none c.args.id c.args.links c.args.loads.ids.now c.args.loads.links.now c.args.loads.numbers.now)

pub returns-in_err-add_load : goal.returns-in_err-add_load
returns-in_err-add_load c =
    let p = err_from_is_err_and c.from_residual-in_err-add_load.result c.from_residual-in_err-add_load.ensures.1 in
    rw (p.1, p.2)
    (flat_stops c.args.id c.args.links c.args.loads.ids.now c.args.loads.links.now c.args.loads.numbers.now (sym c.in_ok-check_table.ensures) (sym c.in_ok-check_amount.ensures) c.loop-i.i c.loop-i-test.true _
    c.loop-i.invariant c.in_err-add_load.field-0.0 c.add_load.new.sums
    (c.in_err-add_load.ensures ∙ ap (λ (l : Load). sum_step c.args.id c.args.links (summed (Ok tt) c.loop-i.sums) l) c.load.ensures))
