-- The bytes of a list of doubles: how many they are, part after part, and written in turns.
use Prim.Native.Nat.{ℕ, ◌+◌, ◌*◌, ◌<◌}
use mathlib.Core.Path.{◌≡◌, refl, sym, ◌∙◌}
use mathlib.Core.List.{List, [], ◌∷◌, ◌++◌, append_assoc, append-nil}
use native.Mathlib.Numerals.{add-one}
use native.Mathlib.Omega.{arith}
use lib.ListN.{length, get_or, take, length-append}
use lib.Seq.{take-suc, length-take-le}
use lib.Ieee.{Float, nan, binary64, to_bits}
use Rattle.wire.specs.Big.{bytes16, bytes32, bytes64, float_bytes}
use Rattle.wire.specs.Placed.{placed}
use Rattle.wire.proofs.PlacedLaws.{placed_then}

pub length_bytes64 : (n : ℕ) → length (bytes64 n) ≡ 8
unfolding bytes64 bytes32 bytes16
length_bytes64 n = refl

pub length_float_bytes : (xs : List Float) → length (float_bytes xs) ≡ 8 * length xs
unfolding float_bytes
length_float_bytes [] = refl
length_float_bytes (x ∷ xs) =
    length-append (bytes64 (to_bits binary64 x)) (float_bytes xs) ∙ omega (arith, length_bytes64 (to_bits binary64 x), length_float_bytes xs)

pub float_bytes_append : (xs ys : List Float) → float_bytes (xs ++ ys) ≡ float_bytes xs ++ float_bytes ys
unfolding float_bytes
float_bytes_append [] ys = refl
float_bytes_append (x ∷ xs) ys = rw (float_bytes_append xs ys) (sym (append_assoc (bytes64 (to_bits binary64 x)) (float_bytes xs) (float_bytes ys)))

-- one more double is its bytes at the end
floats_more : (xs : List Float) (i : ℕ) → i < length xs → float_bytes (take (i + 1) xs) ≡ float_bytes (take i xs) ++ bytes64 (to_bits binary64 (get_or xs i nan))
unfolding float_bytes
floats_more xs i h =
    rw (add-one, take-suc xs i nan, float_bytes_append (take i xs) (get_or xs i nan ∷ []), append-nil (bytes64 (to_bits binary64 (get_or xs i nan))))

-- a turn of the loop that writes them
pub floats_step : (s t u : List ℕ) (at : ℕ) (xs : List Float) (i : ℕ) → i < length xs → t ≡ placed s at (float_bytes (take i xs))
    → u ≡ placed t (at + 8 * i) (bytes64 (to_bits binary64 (get_or xs i nan))) → u ≡ placed s at (float_bytes (take (i + 1) xs))
floats_step s t u at xs i h p q =
    rw (floats_more xs i h) (placed_then s t u at (at + 8 * i) _ _ p q (omega (arith, length_float_bytes (take i xs), length-take-le i xs (omega arith))))
