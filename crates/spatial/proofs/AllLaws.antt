-- A test at every number below n says just what it says at each.
use Prim.Native.Nat.{ℕ, zero, suc, ◌+◌, ◌<◌}
use mathlib.Core.Path.{◌≡◌, refl, sym, ap, ◌∙◌}
use mathlib.Core.Bool.{Bool, true, false, ◌&&◌}
use mathlib.Core.Logic.{⊎_elim}
use native.Mathlib.Omega.{arith}
use native.Mathlib.Numerals.{add-one}
use Rattle.spatial.specs.All.{all}
use Rattle.spatial.proofs.BoolLaws.{and_left, and_right, and_both, and_false, upto}

-- a loop that tests one number after another: its start, a turn, its end
pub all_start : (f : ℕ → Bool) → true ≡ all 0 f
unfolding all
all_start f = refl

pub all_turn : (f : ℕ → Bool) (n : ℕ) (good now : Bool) → good ≡ all n f → now ≡ f n → (good && now) ≡ all (n + 1) f
unfolding all
all_turn f n good now e h = rw (add-one, e, h)

-- one more, where those before it passed
pub all_more : (n : ℕ) (f : ℕ → Bool) → all n f ≡ true → f n ≡ true → all (n + 1) f ≡ true
unfolding all
all_more n f h e = rw add-one (and_both (all n f) (f n) h e)

pub all_at : (n k : ℕ) (f : ℕ → Bool) → all n f ≡ true → k < n → f k ≡ true
unfolding all
all_at zero k f h l = absurd (omega arith)
all_at (suc n) k f h l = ⊎_elim (λ e. ap f e ∙ and_right (all n f) (f n) h) (λ m. all_at n k f (and_left (all n f) (f n) h) m) (upto n k l)

pub all_if : (n : ℕ) (f : ℕ → Bool) → ((k : ℕ) → k < n → f k ≡ true) → all n f ≡ true
unfolding all
all_if zero f h = refl
all_if (suc n) f h = and_both (all n f) (f n) (all_if n f (λ k l. h k (omega arith))) (h n (omega arith))

pub all_false : (n k : ℕ) (f : ℕ → Bool) → k < n → f k ≡ false → all n f ≡ false
unfolding all
all_false zero k f l e = absurd (omega arith)
all_false (suc n) k f l e =
    ⊎_elim (λ q. and_false (all n f) (f n) (ap f (sym q) ∙ e)) (λ m. ap (λ (t : Bool). t && f n) (all_false n k f m e)) (upto n k l)

pub all_same : (n : ℕ) (f g : ℕ → Bool) → ((k : ℕ) → k < n → f k ≡ g k) → all n f ≡ all n g
unfolding all
all_same zero f g h = refl
all_same (suc n) f g h = rw (h n (omega arith), all_same n f g (λ k l. h k (omega arith)))
