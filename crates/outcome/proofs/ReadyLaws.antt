-- How a call ends once its checks have answered, and what they leave to its kernel.
use Rattle.std.proofs.Common.{◌≡◌, ℕ, zero, suc, List, Bool, true, false, cond, length, refl, sym, ap, ◌∙◌, Result, Ok}
use lib.Ieee.{Float}
use Rattle.refusal.specs.declared.Refusal.{Refusal}
use Rattle.refusal.specs.declared.Refusal.TheVariants.{NumericalFailure}
use Rattle.refusal.specs.Numbers.{number_of, number, unless}
use Rattle.refusal.proofs.Unique as Answers
use Rattle.fit.specs.Finite.{all_finite}
use Rattle.model.specs.Good.{GoodModel}
use Rattle.model.specs.Tables.{view_of}
use Rattle.model.specs.declared.BaseState.{BaseState}
use Rattle.model.specs.declared.Model.{Model}
use Rattle.model.specs.declared.Pose.{Pose}
use Rattle.model.specs.declared.RootMode.{RootMode}
use Rattle.spatial.specs.declared.Wrench.{Wrench}
use Rattle.loads.specs.Checks.{or_else}
use Rattle.outcome.specs.Call.{Call, call_of}
use Rattle.outcome.specs.declared.Function.{Function}
use Rattle.outcome.specs.Refusal.{start_checked, speeds_checked, accelerations_checked, output_checked, output_length, loads_number, refusal}
use Rattle.outcome.specs.Figures.{figures}
use Rattle.outcome.specs.Outcome.{told, outcome, answered}
use Rattle.outcome.specs.When.{takes_speeds, takes_accelerations, takes_loads}
use Rattle.outcome.proofs.AcceptedLaws.{or_else_zero}
use Rattle.outcome.proofs.PassedLaws.{model_good, positions_good, positions_length, list_length, output_length_if_good}
use Rattle.outcome.proofs.TurnLaws.{speeds_taken, accelerations_taken, loads_taken}

module _ (c : Call) (found : List Float) where
  stop : (n : ℕ) → (n ≡ 0 → ⊥) → told n found ≡ answered n c found
  stop zero z = absurd (z refl)
  stop (suc n) z = refl

  -- a check refuses
  pub refused_call : (e : Refusal) → number_of e ≡ refusal c (length found) → told (number_of e) found ≡ outcome c found
  unfolding outcome
  refused_call e h = stop (number_of e) (Answers.refused e) ∙ ap (λ (n : ℕ). answered n c found) h

  -- none does
  finished : (b : Bool) (r : Result Unit Refusal) → r ≡ unless b NumericalFailure → number r ≡ cond b 0 8
  finished true r h = rw h refl
  finished false r h = rw h refl

  pub accepted_call : (out : List Float) (r : Result Unit Refusal) → 0 ≡ refusal c (length found) → out ≡ figures c → r ≡ unless (all_finite out) NumericalFailure → told (number r) out ≡ outcome c found
  unfolding outcome
  accepted_call out r z e h = rw (← z) (rw (finished (all_finite out) r h, e) refl)

-- what a call whose checks all accept has passed
module _ (c : Call) (places : ℕ) (passed : 0 ≡ refusal c places) where
  start_passes : start_checked c.model c.base c.positions c.entries ≡ Ok tt
  unfolding refusal
  start_passes = Answers.accepted _ (or_else_zero _ _ (sym passed)).0

  rest : or_else (number (speeds_checked c c.function)) (or_else (number (accelerations_checked c c.function)) (or_else (number (output_checked c.mode c.model.moving places)) (loads_number c c.function))) ≡ 0
  unfolding refusal
  rest = (or_else_zero _ _ (sym passed)).1

  pub good : GoodModel c.model
  good = model_good c.model c.base c.positions c.entries start_passes

  pub positions_fit : c.entries ≡ c.model.moving
  positions_fit = positions_length c.model c.positions c.entries (positions_good c.model c.base c.positions c.entries start_passes)

  pub speeds_fit : takes_speeds c.function ≡ true → length c.speeds ≡ c.model.moving
  speeds_fit t = list_length c.speeds c.model.moving (sym (speeds_taken c c.function t) ∙ Answers.accepted _ (or_else_zero _ _ rest).0)

  pub accelerations_fit : takes_accelerations c.function ≡ true → length c.accelerations ≡ c.model.moving
  accelerations_fit t =
      list_length c.accelerations c.model.moving
      (sym (accelerations_taken c c.function t) ∙ Answers.accepted _ (or_else_zero _ _ (or_else_zero _ _ rest).1).0)

  pub places_fit : places ≡ output_length c.mode c.model.moving
  places_fit = output_length_if_good c.mode c.model.moving places (Answers.accepted _ (or_else_zero _ _ (or_else_zero _ _ (or_else_zero _ _ rest).1).1).0)

-- a call whose loads are refused by any number: the first refusal of the call without it, or else that number
or_else_end : (a b d e n : ℕ) → or_else (or_else a (or_else b (or_else d (or_else e 0)))) n ≡ or_else a (or_else b (or_else d (or_else e n)))
or_else_end (suc a) b d e n = refl
or_else_end zero (suc b) d e n = refl
or_else_end zero zero (suc d) e n = refl
or_else_end zero zero zero (suc e) n = refl
or_else_end zero zero zero zero n = refl

or_else_first : (a n : ℕ) → (a ≡ 0 → ⊥) → or_else a n ≡ a
or_else_first zero n h = absurd (h refl)
or_else_first (suc a) n h = refl

or_else_some : (a n : ℕ) → (n ≡ 0 → ⊥) → or_else a n ≡ 0 → ⊥
or_else_some zero n h e = h e
or_else_some (suc a) n h e = cc

module _ (f : Function) (mode : RootMode) (m : Model) (base : BaseState) (ps : List Pose) (entries : ℕ) (vs ds : List Float) (sums : List Wrench) (takes : takes_loads f ≡ true) where
  abbrev with_number : ℕ → Call
  with_number n = call_of f mode m base ps entries vs ds (record { number = n; sums = sums })

  refused_by : (n places : ℕ) → or_else (refusal (with_number 0) places) n ≡ refusal (with_number n) places
  unfolding refusal
  refused_by n places =
      rw (loads_taken (with_number 0) f takes, loads_taken (with_number n) f takes)
      (or_else_end (number (start_checked (view_of m) base ps entries)) (number (speeds_checked (with_number 0) f)) (number (accelerations_checked (with_number 0) f)) (number (output_checked mode m.moving places)) n)

  pub loads_stop : (n p : ℕ) (found : List Float) → p ≡ refusal (with_number 0) (length found) → (n ≡ 0 → ⊥) → told (or_else p n) found ≡ outcome (with_number n) found
  unfolding outcome
  loads_stop n p found e h =
      stop (with_number n) found (or_else p n) (or_else_some p n h)
      ∙ ap (λ (k : ℕ). answered k (with_number n) found) (ap (λ (k : ℕ). or_else k n) e ∙ refused_by n (length found))

  pub checks_stop : (r : Refusal) (n : ℕ) (found : List Float) → number_of r ≡ refusal (with_number 0) (length found) → (n ≡ 0 → ⊥) → told (number_of r) found ≡ outcome (with_number n) found
  checks_stop r n found e h = ap (λ (k : ℕ). told k found) (sym (or_else_first (number_of r) n (Answers.refused r))) ∙ loads_stop n (number_of r) found e h
