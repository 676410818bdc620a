-- A list f 0, f 1, ..: how long it is, its entries, and one of them changed.
use Prim.Native.Nat.{ℕ, zero, suc, ◌+◌, ◌<◌}
use mathlib.Core.Path.{◌≡◌, refl, sym, ap, ◌∙◌}
use mathlib.Core.List.{[], ◌∷◌, ◌++◌}
use mathlib.Core.Logic.{⊎_elim}
use native.Mathlib.Omega.{arith}
use lib.ListN.{length, length-append, get_or, set, length-set, get_or-append}
use lib.Seq.{get_or-append-add, get_or-set_same, get_or-set_other, ext_get_or}
use Rattle.spatial.specs.Listed.{list_of}
use Rattle.spatial.proofs.BoolLaws.{upto, same_or_not}

pub length_list_of : {A : Type 0} (n : ℕ) (f : ℕ → A) → length (list_of n f) ≡ n
unfolding list_of
length_list_of zero f = refl
length_list_of (suc n) f = length-append (list_of n f) (f n ∷ []) ∙ omega (arith, length_list_of n f)

pub listed_at : {A : Type 0} (n : ℕ) (f : ℕ → A) (i : ℕ) (z : A) → i < n → get_or (list_of n f) i z ≡ f i
unfolding list_of
listed_at zero f i z l = absurd (omega arith)
listed_at (suc n) f i z l =
    let e : length (list_of n f) ≡ n = length_list_of n f in
    ⊎_elim
    (λ q.
    let p : i ≡ length (list_of n f) + 0 = omega arith in
    ap (λ (x : ℕ). get_or (list_of n f ++ (f n ∷ [])) x z) p ∙ get_or-append-add (list_of n f) (f n ∷ []) 0 z ∙ ap f (sym q))
    (λ q. get_or-append (list_of n f) (f n ∷ []) z i (omega arith) ∙ listed_at n f i z q)
    (upto n i l)

-- the same but for the entry j
pub listed_set : {A : Type 0} (n : ℕ) (f g : ℕ → A) (j : ℕ) (x : A) → j < n → g j ≡ x → ((i : ℕ) → i < n → (i ≡ j → ⊥) → g i ≡ f i) → list_of n g ≡ set (list_of n f) j x
listed_set n f g j x l e h =
    ext_get_or x (list_of n g) (set (list_of n f) j x) (length_list_of n g ∙ sym (length-set (list_of n f) j x ∙ length_list_of n f))
    (λ i m. let k : i < n = omega (arith, m, length_list_of n g) in listed_at n g i x k ∙ ⊎_elim (λ q. at i k q) (λ q. h i k q ∙ sym (get_or-set_other (list_of n f) j i x x q ∙ listed_at n f i x k)) (same_or_not i j))
  where
    at : (i : ℕ) → i < n → i ≡ j → g i ≡ get_or (set (list_of n f) j x) i x
    at i k q = rw q (e ∙ sym (get_or-set_same (list_of n f) j x x (omega (arith, l, length_list_of n f))))
