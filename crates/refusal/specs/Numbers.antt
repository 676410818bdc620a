-- The numbers of the refusals, and how checks follow one another.
use Rattle.std.specs.Prelude.{ℕ, Bool, true, false, Result, Ok, Err, ◌≡◌}
use Rattle.refusal.specs.declared.Refusal.{Refusal}
use Rattle.refusal.specs.declared.UnknownRefusal.{UnknownRefusal}
use Rattle.refusal.specs.declared.Refusal.TheVariants.{InvalidModel, InvalidBaseState, WrongLength, InvalidPose, NonFiniteInput, InvalidLinkId, NonFiniteLoadSum, NumericalFailure, InvalidRecord, TooManyLoads, CorruptBuffer}

abbrev pub number_of : Refusal → ℕ
number_of InvalidModel = 1
number_of InvalidBaseState = 2
number_of WrongLength = 3
number_of InvalidPose = 4
number_of NonFiniteInput = 5
number_of InvalidLinkId = 6
number_of NonFiniteLoadSum = 7
number_of NumericalFailure = 8
number_of InvalidRecord = 9
number_of TooManyLoads = 10
number_of CorruptBuffer = 11

-- of an answer; 0: nothing is refused
abbrev pub number : {A : Type 0} → Result A Refusal → ℕ
number (Ok a) = 0
number (Err e) = number_of e

-- accepted where the test is true, and else this refusal
abbrev pub unless : Bool → Refusal → Result Unit Refusal
unless true refusal = Ok tt
unless false refusal = Err refusal

-- the answer, or the next where this one accepts
abbrev pub or_else : Result Unit Refusal → Result Unit Refusal → Result Unit Refusal
or_else (Ok a) next = next
or_else (Err e) next = Err e

-- the refusal of a number, or none has it
abbrev pub Named : ℕ → Result Refusal UnknownRefusal → Type 0
Named n (Ok refusal) = number_of refusal ≡ n
Named n (Err e) = (e.0 ≡ n) × ((refusal : Refusal) → number_of refusal ≡ n → ⊥)
