-- Two results that meet a promise are equal: a promise says what the result equals, and what is lent to be changed.
use mathlib.Core.Path.{◌≡◌, sym, ◌∙◌}

-- a result by value
pub unique : {A : Type 0} {x r r' : A} → r ≡ x → r' ≡ x → r ≡ r'
unique e e' = e ∙ sym e'

-- a result, and what is lent
abbrev pub Meets : {A B : Type 0} → A → B → A → B → Type 0
Meets n x r a = (r ≡ n) × (a ≡ x)

pub both : {A B : Type 0} {n r r' : A} {x a a' : B} → Meets n x r a → Meets n x r' a' → (r ≡ r') × (a ≡ a')
both m m' = (unique m.0 m'.0, unique m.1 m'.1)
