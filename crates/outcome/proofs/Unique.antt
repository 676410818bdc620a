-- What the one promise of the three functions gives: results that meet it are equal, accepted figures are finite, a refusal leaves the output.
use Prim.Native.Nat.{ℕ, zero, suc}
use mathlib.Core.Bool.{Bool, true, false, cond}
use mathlib.Core.List.{List}
use mathlib.Core.Path.{◌≡◌, refl, sym, ap, ◌∙◌}
use native.Mathlib.Omega.{arith}
use lib.ListN.{length}
use lib.Ieee.{Float}
use Rattle.fit.specs.Finite.{all_finite}
use Rattle.outcome.specs.Call.{Call}
use Rattle.outcome.specs.Refusal.{refusal}
use Rattle.outcome.specs.Figures.{figures}
use Rattle.outcome.specs.Outcome.{Outcome, told, answered, outcome}

module _ (c : Call) (found : List Float) (n : ℕ) (out : List Float) (met : told n out ≡ outcome c found) where
  pub unique : (n' : ℕ) (out' : List Float) → told n' out' ≡ outcome c found → (n ≡ n') × (out ≡ out')
  unique n' out' met' =
      let e : told n out ≡ told n' out' = met ∙ sym met' in
      (ap (λ (o : Outcome). o.number) e, ap (λ (o : Outcome). o.output) e)

  -- number 0: no check refused, and the output is the figures, all finite
  accepts : (r : ℕ) → told 0 out ≡ answered r c found → (r ≡ 0) × (out ≡ figures c) × (all_finite (figures c) ≡ true)
  accepts zero e = (refl, ap (λ (o : Outcome). o.output) e, finite (all_finite (figures c)) (ap (λ (o : Outcome). o.number) e))
    where
      finite : (b : Bool) → ◌≡◌ {A = ℕ} 0 (cond b 0 8) → b ≡ true
      finite true q = refl
      finite false q = absurd (omega arith)
  accepts (suc r) e = absurd (let z : ◌≡◌ {A = ℕ} 0 (suc r) = ap (λ (o : Outcome). o.number) e in omega arith)

  pub accepted : n ≡ 0 → (refusal c (length found) ≡ 0) × (out ≡ figures c) × (all_finite (figures c) ≡ true)
  unfolding outcome
  accepted e = accepts (refusal c (length found)) (ap (λ (x : ℕ). told x out) (sym e) ∙ met)

  -- any other number but 8 is the first check's that refused, and the output is as found
  pub refused : (k : ℕ) → refusal c (length found) ≡ suc k → (n ≡ suc k) × (out ≡ found)
  unfolding outcome
  refused k e =
      let q : told n out ≡ told (suc k) found = met ∙ (rw e) in
      (ap (λ (o : Outcome). o.number) q, ap (λ (o : Outcome). o.output) q)
