-- What an accepted call has passed, where its figures stand, and which loads it carries.
use Prim.Native.Nat.{ℕ, zero, suc, ◌<◌}
use mathlib.Core.Bool.{true, false, false≢true}
use mathlib.Core.List.{List, ◌++◌}
use mathlib.Core.Path.{◌≡◌, refl, sym, ap, ◌∙◌}
use native.Mathlib.Omega.{arith}
use lib.ListN.{length, get_or}
use lib.Seq.{get_or-append-add}
use lib.Ieee.{Float, nan}
use Rattle.fit.specs.Finite.{wrench_numbers}
use Rattle.spatial.specs.Wrenches.{world_wrench}
use Rattle.spatial.specs.declared.Quaternion.{Quaternion}
use Rattle.spatial.specs.declared.Wrench.{Wrench}
use Rattle.refusal.specs.Numbers.{number}
use Rattle.refusal.proofs.Unique as Answers
use Rattle.model.specs.Good.{GoodModel}
use Rattle.model.specs.Numbers.{Holds}
use Rattle.model.specs.View.{numbering_of}
use Rattle.model.specs.declared.BaseState.{BaseState}
use Rattle.model.specs.declared.RootMode.{RootMode}
use Rattle.model.specs.declared.RootMode.TheVariants.{Fixed, Floating}
use Rattle.model.proofs.NumberedLaws.{holder_is}
use Rattle.model.specs.declared.Model.{Model}
use Rattle.model.specs.declared.Pose.{Pose}
use Rattle.loads.specs.Checks.{or_else}
use Rattle.loads.specs.Sums.{prepared_sums, flat_sums, table_loads}
use Rattle.loads.specs.declared.Load.{Load}
use Rattle.loads.specs.Sums.{LoadSums}
use Rattle.loads.proofs.SumLaws.{flat_prepared}
use Rattle.outcome.specs.declared.Function.{Function}
use Rattle.outcome.specs.Call.{Call, call_of}
use Rattle.outcome.specs.Refusal.{start_checked, speeds_checked, accelerations_checked, output_checked, output_length, refusal}
use Rattle.spatial.specs.Listed.{list_of}
use Rattle.outcome.specs.Figures.{solved, root_figures, figures}
use Rattle.outcome.specs.Outcome.{outcome}
use Rattle.outcome.specs.When.{takes_loads}
use Rattle.outcome.specs.Same.{Carries, figure_at}
use Rattle.outcome.proofs.OutputLaws.{get_or_list_of}
use Rattle.outcome.proofs.PassedLaws.{model_good}
use Rattle.outcome.proofs.TurnLaws.{loads_taken}
use Rattle.outcome.proofs.Unique.{accepted}

-- ---- what has passed

pub or_else_zero : (a b : ℕ) → or_else a b ≡ 0 → (a ≡ 0) × (b ≡ 0)
or_else_zero zero b e = (refl, e)
or_else_zero (suc a) b e = absurd (omega arith)

last_of : (p q r s n : ℕ) → or_else p (or_else q (or_else r (or_else s n))) ≡ 0 → n ≡ 0
last_of p q r s n e = (or_else_zero s n (or_else_zero r _ (or_else_zero q _ (or_else_zero p _ e).1).1).1).1

module _ (c : Call) (found : List Float) (ok : (outcome c found).number ≡ 0) where
  passed : refusal c (length found) ≡ 0
  passed = (accepted c found (outcome c found).number (outcome c found).output refl ok).0

  pub output_is : (outcome c found).output ≡ figures c
  output_is = (accepted c found (outcome c found).number (outcome c found).output refl ok).1

  pub model_is : GoodModel c.model
  unfolding refusal
  model_is = model_good c.model c.base c.positions c.entries (Answers.accepted _ (or_else_zero _ _ passed).0)

  pub loads_are : takes_loads c.function ≡ true → c.loads.number ≡ 0
  unfolding refusal
  loads_are e =
      sym (loads_taken c c.function e)
      ∙ last_of (number (start_checked c.model c.base c.positions c.entries)) (number (speeds_checked c c.function)) (number (accelerations_checked c c.function))
      (number (output_checked c.mode c.model.moving (length found))) _ passed

-- ---- where a figure stands

placed : (mode : RootMode) (base : Quaternion) (w : Wrench) (m : ℕ) (f : ℕ → Float) (n : ℕ) → n < m → get_or (root_figures mode base w ++ list_of m f) (output_length mode n) nan ≡ f n
placed Fixed base w m f n h = get_or_list_of m f n h
placed Floating base w m f n h = get_or-append-add (wrench_numbers (world_wrench base w)) (list_of m f) n nan ∙ get_or_list_of m f n h

pub figure_is : (c : Call) → GoodModel c.model → (n j : ℕ) → Holds (numbering_of c.model) n j → figure_at c n (figures c) ≡ (solved c c.function).joint j
unfolding figures
figure_is c g n j h =
    placed c.mode _ _ c.model.moving _ n (g.numbers.below n j h)
    ∙ ap (solved c c.function).joint (holder_is (numbering_of c.model) g.numbers n j h)

-- ---- the loads of the calls that the public functions answer

module _ (f : Function) (mode : RootMode) (model : Model) (base : BaseState) (positions : List Pose) (entries : ℕ) (speeds accelerations : List Float) where
  abbrev call : LoadSums → Call
  call loads = call_of f mode model base positions entries speeds accelerations loads

  pub lent_carried : (ls : List Load) → Carries (call (prepared_sums model.id model.count ls)) ls
  lent_carried ls t = (model.id, refl)

  pub flat_carried : (ids links : List ℕ) (ws found : List Float) → (outcome (call (flat_sums model.id model.count ids links ws)) found).number ≡ 0 → Carries (call (flat_sums model.id model.count ids links ws)) (table_loads ids links ws (length ids))
  flat_carried ids links ws found ok t = (model.id, flat_prepared model.id model.count ids links ws (loads_are (call (flat_sums model.id model.count ids links ws)) found ok t))

  pub none_carried : takes_loads f ≡ false → (loads : LoadSums) (ls : List Load) → Carries (call loads) ls
  none_carried n loads ls t = absurd (false≢true (sym n ∙ t))
