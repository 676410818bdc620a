-- What a call answers: "A refusal returns its number. All but 8 leave output as found .. Refusal 8 leaves every figure as defined".
use Rattle.std.specs.Prelude.{ℕ, zero, suc, cond, List, length, Float}
use Rattle.fit.specs.Finite.{all_finite}
use Rattle.outcome.specs.Call.{Call}
use Rattle.outcome.specs.Refusal.{refusal}
use Rattle.outcome.specs.Figures.{figures}

pub record Outcome : Type 0 where
  pub number : ℕ
  pub output : List Float

abbrev pub told : ℕ → List Float → Outcome
told number output = record { number = number; output = output }

abbrev pub answered : ℕ → Call → List Float → Outcome
answered zero c found = told (cond (all_finite (figures c)) 0 8) (figures c)
answered (suc n) c found = told (suc n) found

-- for an output as found
unfoldable pub outcome : Call → List Float → Outcome
outcome c found = answered (refusal c (length found)) c found
