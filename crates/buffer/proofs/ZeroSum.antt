-- A finite double added to +0 is finite.
use mathlib.Core.Path.{◌≡◌, refl, sym, ap, ◌∙◌, subst}
use mathlib.Core.Bool.{Bool, true, false, ◌&&◌}
use mathlib.Core.Logic.{⊎_elim}
use Prim.Native.Nat.{ℕ, zero, suc, ◌+◌, ◌-◌, ◌*◌, ◌%◌, ◌^◌, ◌<◌, ◌≤◌}
use native.Mathlib.Omega.{arith}
use native.Mathlib.Nat.{zero-mul, mul-one, one-mul, mul_assoc, mul-lt-mul_of_pos_right, add_comm, zero-add, sub-zero}
use lib.IntN.{ℤ, pos, negsuc}
use lib.Dec.{T, ltb, leb, eqb, leb→le, ltb→lt}
use lib.Pow.{pow-add, pow_pos, pow-lt}
use lib.Ieee.{Float, Format, nan, inf, fin, binary64, prec, emax, low, up, down, add, sum, fits, round}
use lib.Ieee.Exact.{HasValue, round_exact}
use lib.Ieee.Fits.{and_l, and_r, down_pos}
use borrow.Author.Tests.{lt-ltb}
use Rattle.spatial.specs.Float.{◌⊕◌}
use Rattle.spatial.specs.Constants.{plus_zero}
use Rattle.fit.specs.Finite.{is_finite}
use Rattle.spatial.proofs.BoolLaws.{lt_or_ge}

value_finite : (x : Float) (s : Bool) (a c : ℕ) → HasValue x s a c → is_finite x ≡ true
unfolding is_finite
value_finite nan s a c v = absurd v
value_finite (inf t) s a c v = absurd v
value_finite (fin t m e) s a c v = refl

-- 0 is rounded to a zero
nought : (f : Format) (s : Bool) (c : ℕ) → 0 < c → is_finite (round f s 0 c) ≡ true
nought f s c h = value_finite _ s 0 c (round_exact f s 0 c 0 0 h (pow_pos (prec f)) (pow_pos (low f + suc (emax f))) (simp zero-mul))

-- what it is that a double fits
module _ (f : Format) (s : Bool) (m : ℕ) (e : ℤ) (d : T (fits f (fin s (suc m) e))) where
  abbrev odd? : Bool
  odd? = eqb (suc m % 2) 1

  abbrev small? : Bool
  small? = ltb (suc m) (2 ^ prec f)

  abbrev fine? : Bool
  fine? = leb (down e) (2 ^ low f)

  below : suc m < 2 ^ prec f
  unfolding fits
  below = ltb→lt _ _ (and_r odd? small? (and_l (odd? && small?) fine? (and_l (odd? && small? && fine?) _ d)))

  above : down e ≤ 2 ^ low f
  unfolding fits
  above = leb→le _ _ (and_r (odd? && small?) fine? (and_l (odd? && small? && fine?) _ d))

  under : suc m * up e < 2 ^ suc (emax f) * down e
  unfolding fits
  under = ltb→lt _ _ (and_r (odd? && small? && fine?) _ d)

-- a double's own value is rounded to a finite double
module _ (f : Format) (s : Bool) (m : ℕ) (small : m < 2 ^ prec f) where
  whole : (k : ℕ) → m * 2 ^ k < 2 ^ suc (emax f) * 1 → is_finite (round f s (m * 2 ^ k) 1) ≡ true
  whole k h =
      value_finite _ s (m * 2 ^ k) 1
      (round_exact f s (m * 2 ^ k) 1 m (k + low f) (omega arith) small
      (subst (λ (x : ℕ). x < 2 ^ (low f + suc (emax f))) (sym split)
      (subst (λ (x : ℕ). m * 2 ^ k * 2 ^ low f < x) join (mul-lt-mul_of_pos_right h (pow_pos (low f)))))
      (sym split ∙ sym (mul-one (m * 2 ^ (k + low f)))))
    where
      split : m * 2 ^ (k + low f) ≡ m * 2 ^ k * 2 ^ low f
      split = ap (λ (x : ℕ). m * x) (pow-add 2 k (low f)) ∙ sym (mul_assoc m (2 ^ k) (2 ^ low f))

      join : 2 ^ suc (emax f) * 1 * 2 ^ low f ≡ 2 ^ (low f + suc (emax f))
      join = ap (λ (x : ℕ). x * 2 ^ low f) (mul-one (2 ^ suc (emax f))) ∙ sym (pow-add 2 (suc (emax f)) (low f)) ∙ ap (λ (x : ℕ). 2 ^ x) (add_comm (suc (emax f)) (low f))

  part : (k : ℕ) → 2 ^ suc k ≤ 2 ^ low f → m * 1 < 2 ^ suc (emax f) * 2 ^ suc k → is_finite (round f s (m * 1) (2 ^ suc k)) ≡ true
  part k l h =
      value_finite _ s (m * 1) (2 ^ suc k)
      (round_exact f s (m * 1) (2 ^ suc k) m j (pow_pos (suc k)) small
      (subst (λ (x : ℕ). x < 2 ^ (low f + suc (emax f))) (ap (λ (x : ℕ). x * 2 ^ j) (mul-one m))
      (subst (λ (x : ℕ). m * 1 * 2 ^ j < x) join (mul-lt-mul_of_pos_right h (pow_pos j))))
      (ap (λ (x : ℕ). x * 2 ^ low f) (mul-one m) ∙ ap (λ (x : ℕ). m * x) whole_is ∙ sym (mul_assoc m (2 ^ j) (2 ^ suc k))))
    where
      fits_in : suc k ≤ low f
      fits_in = ⊎_elim (λ m. absurd (omega (arith, pow-lt m, l))) (λ m. m) (lt_or_ge (low f) (suc k))

      j : ℕ
      j = low f - suc k

      whole_is : 2 ^ low f ≡ 2 ^ j * 2 ^ suc k
      whole_is = ap (λ (x : ℕ). 2 ^ x) (omega (arith, fits_in)) ∙ pow-add 2 j (suc k)

      join : 2 ^ suc (emax f) * 2 ^ suc k * 2 ^ j ≡ 2 ^ (low f + suc (emax f))
      join =
          ap (λ (x : ℕ). x * 2 ^ j) (sym (pow-add 2 (suc (emax f)) (suc k)))
          ∙ sym (pow-add 2 (suc (emax f) + suc k) j)
          ∙ ap (λ (x : ℕ). 2 ^ x) (omega (arith, fits_in))

rounded : (f : Format) (s : Bool) (m : ℕ) (e : ℤ) → T (fits f (fin s m e)) → is_finite (round f s (m * up e) (down e)) ≡ true
unfolding fits
rounded f s zero e d = rw zero-mul (nought f s (down e) (down_pos e))
rounded f s (suc m) (pos k) d = whole f s (suc m) (below f s m (pos k) d) k (under f s m (pos k) d)
rounded f s (suc m) (negsuc k) d = part f s (suc m) (below f s m (negsuc k) d) k (above f s m (negsuc k) d) (under f s m (negsuc k) d)

sum_finite : (f : Format) (t : Bool) (b c : ℕ) → 0 < c → is_finite (round f t b c) ≡ true → is_finite (sum f false 0 t b c) ≡ true
unfolding sum
sum_finite f false b c h e = rw zero-add e
sum_finite f true zero c h e = nought f false c h
sum_finite f true (suc b) c h e = simp (lt-ltb 0 (suc b) (omega arith), sub-zero) e

pub zero_sum : (x : Float) → T (fits binary64 x) → is_finite x ≡ true → is_finite (plus_zero ⊕ x) ≡ true
unfolding add is_finite fits
zero_sum nan d h = h
zero_sum (inf t) d h = h
zero_sum (fin t m e) d h = simp (zero-mul, mul-one, one-mul) (sum_finite binary64 t (m * up e) (down e) (down_pos e) (rounded binary64 t m e d))
