use Rattle.std.proofs.Common.{◌∙◌, ℕ, ap, arith, Ok}
use Rattle.std.proofs.lemmas.Result.{err_from_is_err_and}
use Rattle.loads.specs.Sums.{summed, sum_step}
use Rattle.loads.specs.declared.Load.{Load}
use Rattle.records.specs.Calls.{load_in}
use Rattle.records.specs.Places.{load_place}
use Rattle.records.proofs.ListLaws.{sums_start, sums_turn, sums_stop, sums_end}
use Rattle.records.proofs.calls.sums_in.Goals as goal

pub loop-i-init : goal.loop-i-init
loop-i-init c = sums_start _ _ _ _ c.requires.begun

pub returns-in_err-add_load : goal.returns-in_err-add_load
returns-in_err-add_load c =
    let p = err_from_is_err_and c.from_residual.result c.from_residual.ensures.1 in
    let f : ℕ → Load = λ i. load_in c.args.s.now (load_place c.args.call.place c.args.call.moving i) in
    let step = c.in_err-add_load.ensures ∙ ap (λ (l : Load). sum_step 0 c.args.n (summed (Ok tt) c.loop-i.sums) l) c.load_in.ensures in
    rw (p.1, p.2) (sums_stop 0 c.args.n c.loop-i.i c.args.call.loads f _ c.in_err-add_load.field-0.0 c.add_load.new.sums c.loop-i-test.true (omega arith) c.loop-i.invariant step)

pub loop-i-preserved : goal.loop-i-preserved
loop-i-preserved c =
    let f : ℕ → Load = λ i. load_in c.args.s.now (load_place c.args.call.place c.args.call.moving i) in
    sums_turn 0 c.args.n c.loop-i.i f _ _ c.loop-i.invariant
    (c.in_ok-add_load.ensures ∙ ap (λ (l : Load). sum_step 0 c.args.n (summed (Ok tt) c.loop-i.sums) l) c.load_in.ensures)

pub returns : goal.returns
returns c = sums_end _ _ _ _ _ _ c.loop-i.invariant (omega arith) (omega arith)
