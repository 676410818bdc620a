use Rattle.std.proofs.Common.{◌∙◌, sym}
use Rattle.std.proofs.lemmas.Result.{err_from_is_err_and}
use Rattle.loads.specs.Sums.{start_sums}
use Rattle.loads.proofs.SumLaws.{begun, summed_none, walk_stops}
use Rattle.loads.proofs.sums.sum_loads.Goals as goal

pub loop-load-init : goal.loop-load-init
loop-load-init c = begun c.clear.new.sums c.clear.ensures ∙ sym (summed_none c.args.id c.args.links start_sums)

pub returns-in_err-add_load : goal.returns-in_err-add_load
returns-in_err-add_load c =
    let p = err_from_is_err_and c.from_residual-in_err-add_load.result c.from_residual-in_err-add_load.ensures.1 in
    rw (p.1, p.2)
    (walk_stops c.args.id c.args.links c.args.loads.now c.loop-load.load-index _ c.in_err-add_load.field-0.0 c.add_load.new.sums (sym c.in_ok-check_amount.ensures) c.loop-load-test.true c.loop-load.invariant
    c.in_err-add_load.ensures)
