-- How a call ends: at the first check that refuses, or with its figures.
use Prim.Native.Nat.{ℕ, zero, suc}
use mathlib.Core.Bool.{cond}
use mathlib.Core.List.{List}
use mathlib.Core.Path.{◌≡◌, refl, sym, ap, ◌∙◌}
use lib.ListN.{length}
use lib.Ieee.{Float}
use Rattle.fit.specs.Finite.{all_finite}
use Rattle.std.specs.Prelude.{Result, Ok, Err}
use Rattle.refusal.specs.declared.Refusal.{Refusal}
use Rattle.refusal.specs.Numbers.{number_of, number}
use Rattle.refusal.proofs.Unique.{refused}
use Rattle.loads.specs.Checks.{or_else}
use Rattle.outcome.specs.Call.{Call}
use Rattle.outcome.specs.Refusal.{start_checked, speeds_checked, accelerations_checked, output_checked, loads_number, refusal}
use Rattle.outcome.specs.Figures.{figures}
use Rattle.outcome.specs.Outcome.{told, outcome}
use Rattle.outcome.proofs.AnswerLaws.{Refused}

first_stands : (n next : ℕ) → (n ≡ 0 → ⊥) → or_else n next ≡ n
first_stands zero next h = absurd (h refl)
first_stands (suc n) next h = refl

-- a refusal's number is not 0, and stands whatever follows it
stands : (a : Result Unit Refusal) (next : ℕ) → Refused a → (or_else (number a) next ≡ number a) × (number a ≡ 0 → ⊥)
stands (Ok a) next h = absurd (h refl)
stands (Err e) next h = (first_stands (number_of e) next (refused e), refused e)

module _ (c : Call) (found : List Float) where
  abbrev start : Result Unit Refusal
  start = start_checked c.model c.base c.positions c.entries

  abbrev speeds : Result Unit Refusal
  speeds = speeds_checked c c.function

  abbrev accelerations : Result Unit Refusal
  accelerations = accelerations_checked c c.function

  abbrev output : Result Unit Refusal
  output = output_checked c.mode c.model.moving (length found)

  -- what follows each check
  abbrev last : ℕ
  last = loads_number c c.function

  abbrev third : ℕ
  third = or_else (number output) last

  abbrev second : ℕ
  second = or_else (number accelerations) third

  abbrev first : ℕ
  first = or_else (number speeds) second

  stop : (n : ℕ) → refusal c (length found) ≡ n → (n ≡ 0 → ⊥) → told n found ≡ outcome c found
  unfolding outcome
  stop zero e z = absurd (z refl)
  stop (suc n) e z = rw e

  -- one more check, which refuses
  refuse : (a : Result Unit Refusal) (next n : ℕ) → n ≡ number a → Refused a → refusal c (length found) ≡ or_else (number a) next → told n found ≡ outcome c found
  refuse a next n e h r = let s = stands a next h in rw e (stop (number a) (r ∙ s.0) s.1)

  pub stop_start : (a : Result Unit Refusal) (n : ℕ) → n ≡ number a → Refused a → a ≡ start → told n found ≡ outcome c found
  unfolding refusal
  stop_start a n e h q = refuse a first n e h (ap (λ (x : Result Unit Refusal). or_else (number x) first) (sym q))

  module _ (s : start ≡ Ok tt) where
    pub stop_speeds : (a : Result Unit Refusal) (n : ℕ) → n ≡ number a → Refused a → a ≡ speeds → told n found ≡ outcome c found
    unfolding refusal
    stop_speeds a n e h q = refuse a second n e h (rw s (ap (λ (x : Result Unit Refusal). or_else (number x) second) (sym q)))

    module _ (v : speeds ≡ Ok tt) where
      pub stop_accelerations : (a : Result Unit Refusal) (n : ℕ) → n ≡ number a → Refused a → a ≡ accelerations → told n found ≡ outcome c found
      unfolding refusal
      stop_accelerations a n e h q = refuse a third n e h (rw (s, v) (ap (λ (x : Result Unit Refusal). or_else (number x) third) (sym q)))

      module _ (d : accelerations ≡ Ok tt) where
        pub stop_output : (a : Result Unit Refusal) (n : ℕ) → n ≡ number a → Refused a → a ≡ output → told n found ≡ outcome c found
        unfolding refusal
        stop_output a n e h q = refuse a last n e h (rw (s, v, d) (ap (λ (x : Result Unit Refusal). or_else (number x) last) (sym q)))

        module _ (o : output ≡ Ok tt) where
          pub stop_loads : (n : ℕ) → loads_number c c.function ≡ n → (n ≡ 0 → ⊥) → told n found ≡ outcome c found
          unfolding refusal
          stop_loads n e z = stop n (rw (s, v, d, o) e) z

          -- no check refuses
          pub go_on : loads_number c c.function ≡ 0 → (n : ℕ) (out : List Float) → out ≡ figures c → n ≡ cond (all_finite out) 0 8 → told n out ≡ outcome c found
          unfolding outcome refusal
          go_on l n out e f = rw (s, v, d, o, l) (rw (f, e))
