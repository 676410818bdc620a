use Rattle.std.proofs.Common.{◌≡◌, ◌∙◌, ℕ, List, sym, ap, arith, length, get_or, Result, Ok, Err}
use Rattle.std.proofs.lemmas.Result.{err_from_is_err_and}
use Rattle.refusal.specs.Numbers.{or_else}
use Rattle.refusal.specs.declared.Refusal.{Refusal}
use Rattle.model.specs.declared.JointType.{JointType}
use Rattle.model.specs.declared.Pose.{Pose}
use Rattle.model.specs.Marks.{numbering_to, kind_in}
use Rattle.model.specs.Poses.{pose_checked, no_pose, first}
use Rattle.model.specs.Tables.{kind_of}
use Rattle.model.proofs.PoseLaws.{first_none, first_more, first_refused, wrong_length, entries_checked}
use Rattle.model.proofs.poses.check_positions.Goals as goal

pub returns-then-positions-model : goal.returns-then-positions-model
returns-then-positions-model c = wrong_length _ _ _ _ c.if-positions-model.true

pub loop-n-init : goal.loop-n-init
loop-n-init c = first_none _

-- the check of entry k, with the kinds by number
abbrev entry : List ℕ → List Pose → ℕ → Result Unit Refusal
entry codes ps k = pose_checked (kind_of (get_or codes k 0)) (get_or ps k no_pose)

pub returns-in_err-check_pose : goal.returns-in_err-check_pose
returns-in_err-check_pose c =
    let p = err_from_is_err_and c.from_residual.result c.from_residual.ensures.1 in
    let f = entry c.codes_by_number-codes.result c.args.positions.now in
    let bad : f c.loop-n.n ≡ Err c.in_err-check_pose.field-0.0 =
    ap (λ (k : JointType). pose_checked k (get_or c.args.positions.now c.loop-n.n no_pose)) (sym c.kind_of.ensures) ∙ sym c.in_err-check_pose.ensures in
    rw (p.1, p.2)
    (sym
    (entries_checked (numbering_to c.args.model.now c.args.count) (kind_in c.args.model.now) c.args.positions.now (length c.args.positions.now) c.codes_by_number-codes.result
    c.if-positions-model.false c.codes_by_number-codes.ensures
    ∙ first_refused f c.loop-n.n (length c.args.positions.now) _ c.loop-n-test.true c.loop-n.invariant bad))

pub loop-n-preserved : goal.loop-n-preserved
loop-n-preserved c =
    let f = entry c.codes_by_number-codes.result c.args.positions.now in
    let good : f c.loop-n.n ≡ Ok tt =
    ap (λ (k : JointType). pose_checked k (get_or c.args.positions.now c.loop-n.n no_pose)) (sym c.kind_of.ensures) ∙ sym c.in_ok-check_pose.ensures in
    first_more f c.loop-n.n ∙ ap (λ (r : Result Unit Refusal). or_else r (f c.loop-n.n)) c.loop-n.invariant ∙ good

pub returns : goal.returns
returns c =
    let f = entry c.codes_by_number-codes.result c.args.positions.now in
    sym
    (entries_checked (numbering_to c.args.model.now c.args.count) (kind_in c.args.model.now) c.args.positions.now (length c.args.positions.now) c.codes_by_number-codes.result
    c.if-positions-model.false c.codes_by_number-codes.ensures
    ∙ ap (λ n. first n f) (omega arith)
    ∙ c.loop-n.invariant)
