-- 01, Refusal numbers: speeds and accelerations 3, then 5.
use Rattle.std.specs.Prelude.{ℕ, List, eqb, length, Float, Result}
use Rattle.fit.specs.Finite.{all_finite}
use Rattle.refusal.specs.declared.Refusal.{Refusal}
use Rattle.refusal.specs.declared.Refusal.TheVariants.{WrongLength, NonFiniteInput}
use Rattle.refusal.specs.Numbers.{or_else, unless}

-- a list that should have m numbers
unfoldable pub list_checked : List Float → ℕ → Result Unit Refusal
list_checked xs m = or_else (unless (eqb (length xs) m) WrongLength) (unless (all_finite xs) NonFiniteInput)
