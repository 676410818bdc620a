-- Laws of the finite test: x - x decides it, products and sums keep it, a list's numbers may be taken one by one or part by part, and +0 is bits 0.
use Prim.Native.Nat.{ℕ, zero, suc, ◌+◌, ◌*◌, ◌<◌}
use mathlib.Core.Path.{◌≡◌, refl, ◌∙◌, sym, ap, subst}
use mathlib.Core.Bool.{Bool, true, false, not, cond, ◌&&◌}
use mathlib.Core.List.{List, [], ◌∷◌, ◌++◌}
use native.Mathlib.Omega.{arith}
use native.Mathlib.Decide.{ℕ_discrete}
use native.Mathlib.Nat.{sub_self, zero-mul, zero-div, mul-pos, le_refl}
use lib.IntN.{pos}
use lib.Dec.{T, eqb}
use lib.ListN.{length, take, get_or}
use lib.Seq.{take-suc}
use native.Mathlib.Numerals.{add-one}
use lib.Ieee.{Float, nan, inf, fin, binary64, add, sub, mul, sum, neg, eq, ne, is_nan, fits, of_bits, to_bits, round, size, up, down, unlike}
use lib.Ieee.Bits.{of_bits-to_bits}
use lib.Ieee.Compare.{differs_from_itself}
use lib.Ieee.Fits.{down_pos}
use lib.Ieee.Scale.{round_same}
use borrow.Author.Tests.{le-ltb, eq-eqb, ne_eqb}
use Rattle.spatial.proofs.BoolLaws.{and_assoc, and_true}
use Rattle.fit.specs.Finite.{is_finite, all_finite, is_plus_zero}

-- ---- one double

round_zero : (s : Bool) (c : ℕ) → 0 < c → round binary64 s 0 c ≡ fin s 0 (pos 0)
unfolding round
round_zero true c h = round_same binary64 true 0 c 0 1 h (omega arith) (simp zero-mul)
round_zero false c h = round_same binary64 false 0 c 0 1 h (omega arith) (simp zero-mul)

sum_zero : (s : Bool) (a c : ℕ) → 0 < c → sum binary64 s a (not s) a c ≡ fin false 0 (pos 0)
unfolding sum
sum_zero true a c h = simp (le-ltb a a (le_refl a), sub_self) (round_zero false c h)
sum_zero false a c h = simp (le-ltb a a (le_refl a), sub_self) (round_zero false c h)

pub sub_finite : (x : Float) → eq (sub binary64 x x) (of_bits binary64 0) ≡ is_finite x
unfolding sub add neg eq of_bits is_finite
sub_finite nan = refl
sub_finite (inf true) = refl
sub_finite (inf false) = refl
sub_finite (fin s m e) = rw (sum_zero s (m * up e * down e) (down e * down e) (mul-pos (down_pos e) (down_pos e)))

-- a NaN or an infinity, whichever
unbounded : (b s : Bool) → is_finite (cond b nan (inf s)) ≡ true → ⊥
unfolding is_finite
unbounded true s h = subst T (sym h) tt
unbounded false s h = subst T (sym h) tt

-- a finite product has finite factors, a finite sum finite terms
pub finite_mul : (x y : Float) → is_finite (mul binary64 x y) ≡ true → (is_finite x ≡ true) × (is_finite y ≡ true)
unfolding is_finite mul
finite_mul nan y h = absurd (subst T (sym h) tt)
finite_mul (inf s) nan h = absurd (subst T (sym h) tt)
finite_mul (inf s) (inf t) h = absurd (subst T (sym h) tt)
finite_mul (inf s) (fin t n d) h = absurd (unbounded (eqb n 0) _ h)
finite_mul (fin s m e) nan h = absurd (subst T (sym h) tt)
finite_mul (fin s m e) (inf t) h = absurd (unbounded (eqb m 0) _ h)
finite_mul (fin s m e) (fin t n d) h = (refl, refl)

pub finite_add : (x y : Float) → is_finite (add binary64 x y) ≡ true → (is_finite x ≡ true) × (is_finite y ≡ true)
unfolding is_finite add
finite_add nan y h = absurd (subst T (sym h) tt)
finite_add (inf s) nan h = absurd (subst T (sym h) tt)
finite_add (inf true) (inf true) h = absurd (subst T (sym h) tt)
finite_add (inf true) (inf false) h = absurd (subst T (sym h) tt)
finite_add (inf false) (inf true) h = absurd (subst T (sym h) tt)
finite_add (inf false) (inf false) h = absurd (subst T (sym h) tt)
finite_add (inf s) (fin t n d) h = absurd (subst T (sym h) tt)
finite_add (fin s m e) nan h = absurd (subst T (sym h) tt)
finite_add (fin s m e) (inf t) h = absurd (subst T (sym h) tt)
finite_add (fin s m e) (fin t n d) h = (refl, refl)

-- +0 or -0
abbrev pub Zero : Float → Type 0
Zero x = (s : Bool) × (x ≡ fin s 0 (pos 0))

pub zero_finite : (x : Float) → Zero x → is_finite x ≡ true
unfolding is_finite
zero_finite x z = ap is_finite z.1

-- 0 times a finite number is 0
pub zero_mul_finite : (z x : Float) → Zero z → is_finite x ≡ true → Zero (mul binary64 z x)
unfolding is_finite mul
zero_mul_finite z nan h k = absurd (subst T (sym k) tt)
zero_mul_finite z (inf t) h k = absurd (subst T (sym k) tt)
zero_mul_finite z (fin t n d) (s, e) k = (unlike s t, rw e (simp zero-mul (round_zero (unlike s t) (down (pos 0) * down d) (mul-pos (down_pos (pos 0)) (down_pos d)))))

-- ---- the numbers of a list

pub all_append : (xs ys : List Float) → all_finite (xs ++ ys) ≡ (all_finite xs && all_finite ys)
unfolding all_finite
all_append [] ys = refl
all_append (x ∷ xs) ys = ap (λ (b : Bool). is_finite x && b) (all_append xs ys) ∙ sym (and_assoc (is_finite x) (all_finite xs) (all_finite ys))

-- two lists, as code takes them together
pub all_pair : (xs ys : List Float) → (all_finite xs && all_finite ys) ≡ all_finite (xs ++ ys)
all_pair xs ys = sym (all_append xs ys)

-- one number more
pub all_next : (xs : List Float) (i : ℕ) → i < length xs → all_finite (take (i + 1) xs) ≡ (all_finite (take i xs) && is_finite (get_or xs i nan))
unfolding all_finite
all_next xs i h =
    rw (add-one, take-suc xs i nan h)
    (all_append (take i xs) (get_or xs i nan ∷ []) ∙ ap (λ (b : Bool). all_finite (take i xs) && b) (and_true (is_finite (get_or xs i nan))))

-- one number, and two to four as code takes them together
pub all_one : (x : Float) → all_finite (x ∷ []) ≡ is_finite x
unfolding all_finite
all_one x = and_true (is_finite x)

pub all_two : (x y : Float) → (is_finite x && is_finite y) ≡ all_finite (x ∷ y ∷ [])
unfolding all_finite
all_two x y = ap (λ (b : Bool). is_finite x && b) (sym (and_true (is_finite y)))

pub all_three : (x y z : Float) → ((is_finite x && is_finite y) && is_finite z) ≡ all_finite (x ∷ y ∷ z ∷ [])
unfolding all_finite
all_three x y z = and_assoc (is_finite x) (is_finite y) (is_finite z) ∙ ap (λ (b : Bool). is_finite x && (is_finite y && b)) (sym (and_true (is_finite z)))

pub all_four : (w x y z : Float) → (((is_finite w && is_finite x) && is_finite y) && is_finite z) ≡ all_finite (w ∷ x ∷ y ∷ z ∷ [])
unfolding all_finite
all_four w x y z =
    and_assoc (is_finite w && is_finite x) (is_finite y) (is_finite z)
    ∙ and_assoc (is_finite w) (is_finite x) (is_finite y && is_finite z)
    ∙ ap (λ (b : Bool). is_finite w && (is_finite x && (is_finite y && b))) (sym (and_true (is_finite z)))

-- three lists, as code takes them together
pub all_parts : (xs ys zs : List Float) → ((all_finite xs && all_finite ys) && all_finite zs) ≡ all_finite (xs ++ (ys ++ zs))
all_parts xs ys zs = and_assoc (all_finite xs) (all_finite ys) (all_finite zs) ∙ sym (all_append xs (ys ++ zs) ∙ ap (λ (b : Bool). all_finite xs && b) (all_append ys zs))

-- ---- +0

pub not_nan : (x : Float) → ne x x ≡ false → T (not (is_nan x))
unfolding ne is_nan
not_nan nan h = subst T h tt
not_nan (inf s) h = tt
not_nan (fin s m e) h = tt

pub nan_not_zero : (x : Float) → ne x x ≡ true → false ≡ is_plus_zero x
unfolding is_plus_zero
nan_not_zero x h = sym (ap is_plus_zero (differs_from_itself x (subst T (sym h) tt)))

zero_is : (x : Float) → (to_bits binary64 x ≡ 0 → ⊥) → is_plus_zero x ≡ false
unfolding is_plus_zero to_bits size
zero_is nan n = refl
zero_is (inf s) n = refl
zero_is (fin true m e) n = refl
zero_is (fin false zero e) n = absurd (n (simp (zero-mul, zero-div)))
zero_is (fin false (suc m) e) n = ne_eqb (suc m) 0 (λ e. omega arith)

pub zero_bits : (x : Float) → T (fits binary64 x) → eqb (to_bits binary64 x) 0 ≡ is_plus_zero x
unfolding is_plus_zero of_bits
zero_bits x h = go (ℕ_discrete (to_bits binary64 x) 0)
  where
    go : Dec (to_bits binary64 x ≡ 0) → eqb (to_bits binary64 x) 0 ≡ is_plus_zero x
    go (yes e) = eq-eqb (to_bits binary64 x) 0 e ∙ ap is_plus_zero (ap (of_bits binary64) (sym e) ∙ of_bits-to_bits binary64 x h)
    go (no n) = ne_eqb (to_bits binary64 x) 0 n ∙ sym (zero_is x n)
