-- Which joints lie on the way from a link to the root, and which hang on a joint.
use Rattle.std.specs.Prelude.{ℕ, zero, suc, ◌<◌, Bool, false, ◌||◌, eqb}

-- joint i is on the way from link l to the root
pub data Above (parent : ℕ → ℕ) : ℕ → ℕ → Type 0 where
  here : {j : ℕ} → Above parent (suc j) j
  up : {j i : ℕ} → Above parent (parent j) i → Above parent (suc j) i

-- joint c is j or hangs on it, in a tree of n joints
abbrev pub Beyond : ℕ → (ℕ → ℕ) → ℕ → ℕ → Type 0
Beyond n parent j c = (c < n) × Above parent (suc c) j

-- whether joint i is on the way from link l to the root, computed; the first number bounds the climb
abbrev pub passes : (ℕ → ℕ) → ℕ → ℕ → ℕ → Bool
passes parent zero l i = false
passes parent (suc f) zero i = false
passes parent (suc f) (suc j) i = eqb j i || passes parent f (parent j) i
