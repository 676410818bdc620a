-- No two answers have one number, so a promise of an answer's number fixes the answer.
use Rattle.std.proofs.Common.{◌≡◌, ℕ, ◌-◌, [], ◌∷◌, get_or, refl, sym, ap, ◌∙◌, arith, Result, Ok, Err}
use Rattle.refusal.specs.declared.Refusal.{Refusal}
use Rattle.refusal.specs.declared.Refusal.TheVariants.{InvalidModel, InvalidBaseState, WrongLength, InvalidPose, NonFiniteInput, InvalidLinkId, NonFiniteLoadSum, NumericalFailure, InvalidRecord, TooManyLoads, CorruptBuffer}
use Rattle.refusal.specs.Numbers.{number_of, number}

-- the refusal of a number
abbrev numbered : ℕ → Refusal
numbered n =
    get_or
    (InvalidModel ∷ InvalidBaseState ∷ WrongLength ∷ InvalidPose ∷ NonFiniteInput ∷ InvalidLinkId ∷ NonFiniteLoadSum ∷ NumericalFailure ∷ InvalidRecord ∷ TooManyLoads ∷ [])
    (n - 1) CorruptBuffer

back : (e : Refusal) → numbered (number_of e) ≡ e
back InvalidModel = refl
back InvalidBaseState = refl
back WrongLength = refl
back InvalidPose = refl
back NonFiniteInput = refl
back InvalidLinkId = refl
back NonFiniteLoadSum = refl
back NumericalFailure = refl
back InvalidRecord = refl
back TooManyLoads = refl
back CorruptBuffer = refl

some : (e : Refusal) → number_of e ≡ 0 → ⊥
some InvalidModel h = omega (arith, h)
some InvalidBaseState h = omega (arith, h)
some WrongLength h = omega (arith, h)
some InvalidPose h = omega (arith, h)
some NonFiniteInput h = omega (arith, h)
some InvalidLinkId h = omega (arith, h)
some NonFiniteLoadSum h = omega (arith, h)
some NumericalFailure h = omega (arith, h)
some InvalidRecord h = omega (arith, h)
some TooManyLoads h = omega (arith, h)
some CorruptBuffer h = omega (arith, h)

pub one_refusal : (a b : Refusal) → number_of a ≡ number_of b → a ≡ b
one_refusal a b h = sym (back a) ∙ ap numbered h ∙ back b

pub one_answer : (a b : Result Unit Refusal) → number a ≡ number b → a ≡ b
one_answer (Ok a) (Ok b) h = refl
one_answer (Ok a) (Err e) h = absurd (some e (sym h))
one_answer (Err e) (Ok a) h = absurd (some e h)
one_answer (Err e) (Err f) h = ap (λ (x : Refusal). let r : Result Unit Refusal = Err x in r) (one_refusal e f h)

-- nor two that carry a value, where what is said of the value fixes it
module _ {A : Type 0} where
  pub one_result : (a b : Result A Refusal) → number a ≡ number b → ((x y : A) → a ≡ Ok x → b ≡ Ok y → x ≡ y) → a ≡ b
  one_result (Ok x) (Ok y) h k = ap (λ (z : A). let r : Result A Refusal = Ok z in r) (k x y refl refl)
  one_result (Ok x) (Err e) h k = absurd (some e (sym h))
  one_result (Err e) (Ok y) h k = absurd (some e h)
  one_result (Err e) (Err f) h k = ap (λ (z : Refusal). let r : Result A Refusal = Err z in r) (one_refusal e f h)

-- an answer with the number 0 accepts
pub accepted : (a : Result Unit Refusal) → number a ≡ 0 → a ≡ Ok tt
accepted (Ok a) h = refl
accepted (Err e) h = absurd (some e h)

-- and a refusal's number is not 0
pub refused : (e : Refusal) → number_of e ≡ 0 → ⊥
refused = some
