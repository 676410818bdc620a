-- Bytes written one part after another.
use Prim.Native.Nat.{ℕ, suc, ◌+◌, ◌≤◌}
use mathlib.Core.Path.{◌≡◌, refl, sym, ap, ◌∙◌}
use mathlib.Core.List.{List, [], ◌∷◌, ◌++◌}
use native.Mathlib.Nat.{add-zero, not-suc-le-zero, le_of_suc-le-suc}
use native.Mathlib.Omega.{arith}
use lib.ListN.{length, drop, set, length-set}
use Rattle.wire.specs.Placed.{placed}

-- a part after another
pub placed_more : (s : List ℕ) (i : ℕ) (a b : List ℕ) → placed (placed s i a) (i + length a) b ≡ placed s i (a ++ b)
unfolding placed
placed_more s i [] b = ap (λ (k : ℕ). placed s k b) (add-zero i)
placed_more s i (x ∷ a) b =
    let e : i + suc (length a) ≡ i + 1 + length a = omega arith in
    ap (λ (k : ℕ). placed (placed (set s i x) (i + 1) a) k b) e ∙ placed_more (set s i x) (i + 1) a b

-- the same where the places and parts are known by equations, as two calls say them
pub placed_then : (s t u : List ℕ) (i j : ℕ) (a b : List ℕ) → t ≡ placed s i a → u ≡ placed t j b → i + length a ≡ j → u ≡ placed s i (a ++ b)
placed_then s t u i j a b p q e =
    q ∙ ap (λ (x : List ℕ). placed x j b) p ∙ ap (λ (k : ℕ). placed (placed s i a) k b) (sym e) ∙ placed_more s i a b

pub length_placed : (s : List ℕ) (i : ℕ) (a : List ℕ) → length (placed s i a) ≡ length s
unfolding placed
length_placed s i [] = refl
length_placed s i (x ∷ a) = length_placed (set s i x) (i + 1) a ∙ length-set s i x

-- a first byte is left alone by what is written after it
behind : (x : ℕ) (s : List ℕ) (i : ℕ) (a : List ℕ) → placed (x ∷ s) (suc i) a ≡ x ∷ placed s i a
unfolding placed
behind x s i [] = refl
behind x s i (y ∷ a) =
    ap (λ (k : ℕ). placed (x ∷ set s i y) k a) (let e : suc i + 1 ≡ suc (i + 1) = omega arith in e) ∙ behind x (set s i y) (i + 1) a

-- written at the front: the bytes, then what stood past them
pub placed_front : (s a : List ℕ) → length a ≤ length s → placed s 0 a ≡ a ++ drop (length a) s
unfolding placed
placed_front s [] h = refl
placed_front [] (x ∷ a) h = absurd (not-suc-le-zero h)
placed_front (y ∷ s) (x ∷ a) h = behind x s 0 a ∙ ap (λ (r : List ℕ). x ∷ r) (placed_front s a (le_of_suc-le-suc h))
