use Rattle.std.proofs.Common.{◌∙◌, ◌&&◌, [], refl, sym, ap, arith, rules, get_or}
use mathlib.Core.Bool.{false≢true}
use borrow.Author.Tests.{eqb-true}
use lib.ListN.{length-set}
use lib.Ieee.{of_bits}
use Rattle.std.proofs.lemmas.List.{get_or_default}
use Rattle.spatial.specs.declared.Frame.{Frame}
use Rattle.spatial.proofs.BoolLaws.{and_left, and_right}
use Rattle.model.specs.Tables.{link_at, joint_at}
use Rattle.model.specs.Walk.{times_link}
use Rattle.model.specs.declared.Joint.{Joint}
use Rattle.model.proofs.GoodLaws.{counts}
use Rattle.model.proofs.WalkLaws.{walked_first, walked_end}
use Rattle.dynamics.specs.Runs.{run_of}
use Rattle.sweeps.specs.Swept.{steps_of}
use Rattle.sweeps.proofs.KernelLaws.{swept_first, swept_turn, frame_is, fit_listed}
use Rattle.sweeps.proofs.OutwardLaws.{stays_parent, fit_stays, walked_next}
use Rattle.sweeps.proofs.outward.outward.Goals as goal

pub loop-j-init : goal.loop-j-init
unfolding of_bits
loop-j-init g c = (
  search rules,
  search rules,
  walked_first c.args.model.now c.args.positions.now _ _ refl (c.times_link-zero.ensures ∙ ap (λ v. times_link v (link_at c.args.model.now 0)) c.zero_vector.ensures),
  λ f. swept_first (run_of c.args.model.now c.args.positions.now [] [] []) _ _ g.K.Kernel.none c.args.frames.now _ refl,
)

pub returns-then-not-stays-clause-swept : goal.returns-then-not-stays-clause-swept
returns-then-not-stays-clause-swept g c = λ e f p q.
    absurd (false≢true (sym c.if-not-stays.true ∙ c.stays.ensures ∙ fit_stays c.args.model.now c.args.model.now.moving c.loop-j.j c.joint-joint.result f (omega arith) c.joint-joint.ensures))

pub loop-j-preserved : goal.loop-j-preserved
loop-j-preserved g c =
    let kernel = g.K.Kernel in
    let i = c.loop-j.invariant in
    let m = c.args.model.now in
    let ps = c.args.positions.now in
    let t = run_of m ps [] [] [] in
    let joint = c.joint-joint.result in
    let frame = c.frame_in-frame.result in
    let framed = frame_is m ps c.loop-j.j joint frame c.joint-joint.ensures c.frame_in-frame.ensures in
    let known = counts _ _ (sym c.counts_fit.ensures ∙ c.if-not-counts_fit.false) in
    let stayed = sym c.stays.ensures ∙ c.if-not-stays.false in
    let up = stays_parent _ _ _ joint stayed in
    let read =
    get_or_default c.loop-j.values joint.parent c.index-values-joint.result kernel.none (omega (arith, up, known.few, i.1, c.loop-j-test.true)) in
    let step = kernel.step c.args.kernel.now in (
      length-set c.loop-j.frames _ _ ∙ i.0,
      length-set c.loop-j.values _ _ ∙ i.1,
      walked_next m ps c.loop-j.good _ c.loop-j.zero _ _ c.loop-j.next _ c.loop-j.j joint i.2 c.joint-joint.ensures stayed c.joint_passes-good.ensures c.next_after-next.ensures c.times_link.ensures
          c.times_joint-zero.ensures,
      λ f. swept_turn t _ (steps_of step t) kernel.none m.moving (fit_listed m m.moving ps [] f) c.loop-j.frames _ c.loop-j.values _ c.loop-j.j frame c.carry.result (omega arith) i.0 i.1 refl refl framed
          (c.carry.ensures ∙ ap (step joint frame) read ∙ ap (λ (x : Joint). step x frame (get_or c.loop-j.values x.parent kernel.none)) c.joint-joint.ensures
          ∙ ap (λ (x : Frame). step (joint_at m c.loop-j.j) x (get_or c.loop-j.values (joint_at m c.loop-j.j).parent kernel.none)) framed)
          (i.3 f),
    )

pub returns-clause-passed : goal.returns-clause-passed
returns-clause-passed g c = λ h.
    let fits = sym c.counts_fit.ensures ∙ c.if-not-counts_fit.false in
    let known = counts _ _ fits in
    let most = and_left (c.loop-j.good && c.finite_vector.result) _ h in
    walked_end c.args.model.now c.args.positions.now c.loop-j.good c.loop-j.zero c.loop-j.next c.loop-j.j c.loop-j.invariant.2 (omega (arith, known.some)) fits
    (and_left c.loop-j.good _ most) (sym c.finite_vector.ensures ∙ and_right c.loop-j.good _ most) (eqb-true _ _ (and_right (c.loop-j.good && c.finite_vector.result) _ h))
