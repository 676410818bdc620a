-- Bytes that stand in a list from a place on, and the numbers that are read there.
use Prim.Native.Nat.{ℕ, zero, suc, ◌+◌, ◌*◌, ◌/◌, ◌%◌, ◌<◌}
use mathlib.Core.Path.{◌≡◌, refl, sym, ap, subst, ◌∙◌}
use mathlib.Core.List.{List, [], ◌∷◌, ◌++◌}
use native.Mathlib.Nat.{not-suc-le-zero}
use native.Mathlib.Omega.{arith}
use lib.Dec.{T}
use lib.ListN.{length, get_or, length-append, get_or-append}
use lib.Seq.{get_or-append-add}
use lib.Ieee.{Float, nan, binary64, to_bits, of_bits, fits}
use lib.Ieee.Bits.{of_bits-to_bits, to_bits-lt}
use Rattle.wire.specs.Big.{be16, be32, be64, f64_at, bytes16, bytes32, bytes64, float_bytes}
use Rattle.wire.proofs.BytesLaws.{length_bytes64}

-- the bytes t, in s from place i on
pub record Stands (s : List ℕ) (i : ℕ) (t : List ℕ) : Type 0 where
  pub each : (o : ℕ) → o < length t → get_or s (i + o) 0 ≡ get_or t o 0

pub stands_whole : (s : List ℕ) → Stands s 0 s
stands_whole s = record { each = λ o h. ap (λ (k : ℕ). get_or s k 0) (let e : 0 + o ≡ o = omega arith in e) }

pub stands_left : {s : List ℕ} {i : ℕ} (a b : List ℕ) → Stands s i (a ++ b) → Stands s i a
stands_left a b h = record { each = λ o l. h.each o (rw (length-append a b) (omega arith)) ∙ get_or-append a b 0 o l }

pub stands_right : {s : List ℕ} {i : ℕ} (j : ℕ) (a b : List ℕ) → Stands s i (a ++ b) → i + length a ≡ j → Stands s j b
stands_right {s} {i} j a b h e =
    record {
      each = λ o l.
          ap (λ (k : ℕ). get_or s k 0) (let d : j + o ≡ i + (length a + o) = omega arith in d)
          ∙ h.each (length a + o) (rw (length-append a b) (omega arith)) ∙ get_or-append-add a b o 0;
    }

-- a first byte
pub stands_head : {s : List ℕ} {i b : ℕ} {t : List ℕ} → Stands s i (b ∷ t) → get_or s i 0 ≡ b
stands_head {s} {i} {b} {t} h =
    ap (λ (k : ℕ). get_or s k 0) (let d : i ≡ i + 0 = omega arith in d) ∙ h.each 0 (let l : 0 < suc (length t) = omega arith in l)

-- a byte further on, at the place j
pub stands_byte : {s : List ℕ} {i : ℕ} (j o : ℕ) (t : List ℕ) → Stands s i t → o < length t → i + o ≡ j → get_or s j 0 ≡ get_or t o 0
stands_byte {s} j o t h l e = ap (λ (k : ℕ). get_or s k 0) (sym e) ∙ h.each o l

-- ---- numbers

pub be16_stands : {s : List ℕ} {i : ℕ} (n : ℕ) → Stands s i (bytes16 n) → be16 s i ≡ n % 65536
unfolding be16 bytes16
be16_stands n h = omega (arith, stands_head h, h.each 1 (omega arith))

pub be32_stands : {s : List ℕ} {i : ℕ} (n : ℕ) → Stands s i (bytes32 n) → be32 s i ≡ n % 4294967296
unfolding be32 bytes32 bytes16
be32_stands {s} {i} n h =
    let high = be16_stands (n / 65536) (stands_left (bytes16 (n / 65536)) (bytes16 n) h) in
    let low = be16_stands n (stands_right (i + 2) (bytes16 (n / 65536)) (bytes16 n) h refl) in
    omega arith

pub be64_stands : {s : List ℕ} {i : ℕ} (n : ℕ) → Stands s i (bytes64 n) → be64 s i ≡ n % 18446744073709551616
unfolding be64 bytes64 bytes32 bytes16
be64_stands {s} {i} n h =
    let high = be32_stands (n / 4294967296) (stands_left (bytes32 (n / 4294967296)) (bytes32 n) h) in
    let low = be32_stands n (stands_right (i + 4) (bytes32 (n / 4294967296)) (bytes32 n) h refl) in
    omega arith

-- ---- doubles

-- each is a double
pub record Doubles (xs : List Float) : Type 0 where
  pub each : (i : ℕ) → i < length xs → T (fits binary64 (get_or xs i nan))

pub f64_stands : {s : List ℕ} {i : ℕ} (x : Float) → T (fits binary64 x) → Stands s i (bytes64 (to_bits binary64 x)) → f64_at s i ≡ x
unfolding f64_at
f64_stands {s} {i} x f h =
    let l : to_bits binary64 x < 18446744073709551616 = to_bits-lt binary64 x f in
    let e : be64 s i ≡ to_bits binary64 x = omega (arith, be64_stands (to_bits binary64 x) h) in
    ap (of_bits binary64) e ∙ of_bits-to_bits binary64 x f

-- of a list of doubles, each at its place
pub floats_stand : {s : List ℕ} (at : ℕ) (xs : List Float) (i : ℕ) → i < length xs → Stands s at (float_bytes xs) → Stands s (at + 8 * i) (bytes64 (to_bits binary64 (get_or xs i nan)))
unfolding float_bytes
floats_stand at [] i l h = absurd (not-suc-le-zero l)
floats_stand {s} at (x ∷ xs) zero l h =
    subst (λ (k : ℕ). Stands s k (bytes64 (to_bits binary64 x))) (let e : at ≡ at + 8 * 0 = omega arith in e) (stands_left (bytes64 (to_bits binary64 x)) (float_bytes xs) h)
floats_stand {s} at (x ∷ xs) (suc i) l h =
    let g = stands_right (at + 8) (bytes64 (to_bits binary64 x)) (float_bytes xs) h (omega (arith, length_bytes64 (to_bits binary64 x))) in
    subst (λ (k : ℕ). Stands s k (bytes64 (to_bits binary64 (get_or xs i nan)))) (let e : at + 8 + 8 * i ≡ at + 8 * suc i = omega arith in e) (floats_stand (at + 8) xs i (omega arith) g)

pub float_stands : {s : List ℕ} {at : ℕ} (p : ℕ) (xs : List Float) (i : ℕ) → Doubles xs → i < length xs → Stands s at (float_bytes xs) → at + 8 * i ≡ p → f64_at s p ≡ get_or xs i nan
float_stands {s} {at} p xs i d l h e = ap (f64_at s) (sym e) ∙ f64_stands (get_or xs i nan) (d.each i l) (floats_stand at xs i l h)
