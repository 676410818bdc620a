-- How many numbers below a bound pass a test.
use mathlib.Core.Path.{◌≡◌, refl, sym, ap, ◌∙◌}
use mathlib.Core.Bool.{Bool, true, false, cond}
use mathlib.Core.Logic.{⊎_elim}
use Prim.Native.Nat.{ℕ, zero, suc, ◌+◌, ◌<◌, ◌≤◌}
use native.Mathlib.Omega.{arith}
use Rattle.spatial.proofs.BoolLaws.{upto}

abbrev pub bit : Bool → ℕ
bit t = cond t 1 0

-- how many k below n have f k
unfoldable pub count : ℕ → (ℕ → Bool) → ℕ
count zero f = 0
count (suc n) f = bit (f n) + count n f

bit_le : (t : Bool) → bit t ≤ 1
bit_le true = omega arith
bit_le false = omega arith

pub count_le : (n : ℕ) (f : ℕ → Bool) → count n f ≤ n
unfolding count
count_le zero f = omega arith
count_le (suc n) f = omega (arith, count_le n f, bit_le (f n))

-- a number that is not counted leaves room
pub count_lt : (n k : ℕ) (f : ℕ → Bool) → k < n → f k ≡ false → count n f < n
unfolding count
count_lt zero k f l e = absurd (omega arith)
count_lt (suc n) k f l e =
    ⊎_elim (λ q. omega (arith, count_le n f, ap bit (ap f (sym q) ∙ e))) (λ m. omega (arith, count_lt n k f m e, bit_le (f n))) (upto n k l)

pub count_same : (n : ℕ) (f g : ℕ → Bool) → ((k : ℕ) → k < n → f k ≡ g k) → count n f ≡ count n g
unfolding count
count_same zero f g h = refl
count_same (suc n) f g h = rw (h n (omega arith), count_same n f g (λ k l. h k (omega arith)))

-- one number more is counted
pub count_more : (n k : ℕ) (f g : ℕ → Bool) → k < n → f k ≡ false → g k ≡ true → ((j : ℕ) → j < n → (j ≡ k → ⊥) → f j ≡ g j) → count n g ≡ count n f + 1
unfolding count
count_more zero k f g l e d h = absurd (omega arith)
count_more (suc n) k f g l e d h =
    ⊎_elim
    (λ q. omega (arith, ap bit (ap f (sym q) ∙ e), ap bit (ap g (sym q) ∙ d), count_same n f g (λ j m. h j (omega arith) (λ z. omega arith))))
    (λ m. omega (arith, count_more n k f g m e d (λ j m'. h j (omega arith)), ap bit (h n (omega arith) (λ z. omega arith))))
    (upto n k l)
