-- Laws of trees whose joints come after their parents.
use Prim.Native.Nat.{ℕ, zero, suc, ◌+◌, ◌-◌, ◌≤◌, ◌<◌}
use mathlib.Core.Path.{◌≡◌, refl, sym, ap, ◌∙◌}
use mathlib.Core.List.{List, ◌∷◌}
use mathlib.Core.Bool.{Bool, true, false}
use native.Mathlib.Omega.{arith}
use lib.Dec.{eqb}
use borrow.Author.Tests.{eqb-true, ne_eqb, eq-eqb}
use native.Mathlib.Decide.{ℕ_discrete}
use native.Mathlib.Numerals.{add-one}
use lib.ListN.{get_or, set, length}
use lib.Seq.{get_or-set_same, get_or-set_other}
use Rattle.tree.specs.Tree.{Outward, climb, value_at, Inward, from, joined, gathered, total, total_of, root_sum}

module _ {S : Type 0} (t : Outward S) (n : ℕ) (tree : (j : ℕ) → j < n → t.parent j ≤ j) where
  pub climb_enough : (f g l : ℕ) → l ≤ n → l ≤ f → l ≤ g → climb t f l ≡ climb t g l
  unfolding climb
  climb_enough zero zero l h p q = refl
  climb_enough zero (suc g) zero h p q = refl
  climb_enough zero (suc g) (suc j) h p q = absurd (omega arith)
  climb_enough (suc f) zero zero h p q = refl
  climb_enough (suc f) (suc g) zero h p q = refl
  climb_enough (suc f) zero (suc j) h p q = absurd (omega arith)
  climb_enough (suc f) (suc g) (suc j) h p q =
      let up : t.parent j ≤ j = tree j (omega arith) in
      ap (t.step j) (climb_enough f g (t.parent j) (omega arith) (omega arith) (omega arith))

  pub value_step : (j : ℕ) → j < n → value_at t (suc j) ≡ t.step j (value_at t (t.parent j))
  unfolding climb value_at
  value_step j h =
      let up : t.parent j ≤ j = tree j h in
      ap (t.step j) (climb_enough j (t.parent j) (t.parent j) (omega arith) (omega arith) (omega arith))

joined_cong : {W : Type 0} (t : Inward W) (u v : ℕ → W) (c : ℕ) (b : Bool) (x y : W) → (b ≡ true → u c ≡ v c) → x ≡ y → joined t u c b x ≡ joined t v c b y
joined_cong t u v c true x y h e = let h' : u c ≡ v c = h refl in cc
joined_cong t u v c false x y h e = e

gathered_cong : {W : Type 0} (t : Inward W) (u v : ℕ → W) (l k d : ℕ) → ((c : ℕ) → c < k + d → t.parent c ≡ l → u c ≡ v c) → gathered t u l (from k d) ≡ gathered t v l (from k d)
gathered_cong t u v l k zero h = refl
gathered_cong t u v l k (suc d) h =
    joined_cong t u v k (eqb (t.parent k) l) _ _ (λ e. h k (omega arith) (eqb-true (t.parent k) l e))
    (gathered_cong t u v l (suc k) d (λ c p e. h c (omega arith) e))

-- the sum at link l with the joints from k on
unfoldable pub sum_from : {W : Type 0} → Inward W → ℕ → ℕ → W
sum_from t k l = gathered t (total_of t) l (from k (t.count - k))

from_step : (n k : ℕ) → k < n → from k (n - k) ≡ k ∷ from (suc k) (n - suc k)
from_step n k h = let e : n - k ≡ suc (n - suc k) = omega arith in rw e

pub sum_end : {W : Type 0} (t : Inward W) (l : ℕ) → sum_from t t.count l ≡ t.start l
unfolding sum_from
sum_end t l = let e : t.count - t.count ≡ 0 = omega arith in rw e

pub sum_step : {W : Type 0} (t : Inward W) (k l : ℕ) → k < t.count → sum_from t k l ≡ joined t (total_of t) k (eqb (t.parent k) l) (sum_from t (suc k) l)
unfolding sum_from
sum_step t k l h = rw (from_step t.count k h)

module _ {W : Type 0} (t : Inward W) (tree : (j : ℕ) → j < t.count → t.parent j ≤ j) where
  pub total_enough : (f g j : ℕ) → j < t.count → t.count ≤ f + j → t.count ≤ g + j → total t f j ≡ total t g j
  unfolding total
  total_enough zero g j h p q = absurd (omega arith)
  total_enough (suc f) zero j h p q = absurd (omega arith)
  total_enough (suc f) (suc g) j h p q =
      ap (λ (w : W). t.plus w (t.own j))
      (gathered_cong t (total t f) (total t g) (suc j) 0 t.count
      (λ c r e.
      let up : t.parent c ≤ c = tree c (omega arith) in
      total_enough f g c (omega arith) (omega arith) (omega arith)))

  -- no joint below l is a child of link l
  skip : (l k : ℕ) → k ≤ l → k ≤ t.count → sum_from t 0 l ≡ sum_from t k l
  skip l zero h p = refl
  skip l (suc k) h p =
      let up : t.parent k ≤ k = tree k (omega arith) in
      skip l k (omega arith) (omega arith)
      ∙ sum_step t k l (omega arith)
      ∙ ap (λ (b : Bool). joined t (total_of t) k b (sum_from t (suc k) l)) (ne_eqb (t.parent k) l (λ e. omega arith))

  pub total_step : (j : ℕ) → j < t.count → total_of t j ≡ t.plus (sum_from t (suc j) (suc j)) (t.own j)
  unfolding total total_of sum_from
  total_step j h =
      let e : t.count - 0 ≡ t.count = omega arith in
      total_enough t.count (suc t.count) j h (omega arith) (omega arith)
      ∙ ap (λ (w : W). t.plus w (t.own j)) ((rw e) ∙ skip (suc j) (suc j) (omega arith) h)

pub sum_from_root : {W : Type 0} (t : Inward W) → sum_from t 0 0 ≡ root_sum t
unfolding sum_from root_sum
sum_from_root t = let e : t.count - 0 ≡ t.count = omega arith in rw e

-- A turn of the inward sweep, at joint j, whose link is k: the sums at the links up to k count the joints from k on. One more is counted.
module _ {W : Type 0} (t : Inward W) (tree : (j : ℕ) → j < t.count → t.parent j ≤ j) (z : W) (sums : List W) (k j : ℕ) (at : k ≡ suc j) (h : j < t.count) (inv : (l : ℕ) → l ≤ k → get_or sums l z ≡ sum_from t k l) where
  pub total_now : t.plus (get_or sums k z) (t.own j) ≡ total_of t j
  total_now =
      let i : get_or sums k z ≡ sum_from t k k = inv k (omega arith) in
      let i' : get_or sums k z ≡ sum_from t (suc j) (suc j) = i ∙ ap (λ (n : ℕ). sum_from t n n) at in
      ap (λ (w : W). t.plus w (t.own j)) i' ∙ sym (total_step t tree j h)

  pub sums_next : (v : W) → k < length sums → v ≡ t.plus (get_or sums (t.parent j) z) (t.carry j (total_of t j)) → (l : ℕ) → l ≤ j → get_or (set sums (t.parent j) v) l z ≡ sum_from t j l
  sums_next v n e l p = go (ℕ_discrete l (t.parent j))
    where
      up : t.parent j ≤ j
      up = tree j h

      old : (i : ℕ) → i ≤ j → get_or sums i z ≡ sum_from t (suc j) i
      old i q = inv i (omega arith) ∙ ap (λ (n : ℕ). sum_from t n i) at

      go : Dec (l ≡ t.parent j) → get_or (set sums (t.parent j) v) l z ≡ sum_from t j l
      go (yes q) = rw (q, get_or-set_same sums (t.parent j) v z (omega arith), sum_step t j (t.parent j) h, eq-eqb (t.parent j) (t.parent j) refl) (e ∙ ap (λ (w : W). t.plus w (t.carry j (total_of t j))) (old (t.parent j) up))
      go (no q) = rw (sum_step t j l h, ne_eqb (t.parent j) l (λ r. q (sym r))) (get_or-set_other sums (t.parent j) l v z q ∙ old l p)

-- A turn of the outward sweep, at joint j: the values at the links up to j are right, and one more is stored.
pub values_next :
    {S : Type 0} (t : Outward S) (n : ℕ) (tree : (j : ℕ) → j < n → t.parent j ≤ j) (z : S) (vs : List S) (j : ℕ) (v : S)
    → j < n
    → j + 1 < length vs
    → ((l : ℕ) → l ≤ j → get_or vs l z ≡ value_at t l)
    → v ≡ t.step j (get_or vs (t.parent j) z)
    → (l : ℕ)
    → l ≤ j + 1
    → get_or (set vs (j + 1) v) l z ≡ value_at t l
values_next t n tree z vs j v h b inv e l p = go (ℕ_discrete l (j + 1))
  where
    go : Dec (l ≡ j + 1) → get_or (set vs (j + 1) v) l z ≡ value_at t l
    go (yes q) =
        rw (q, get_or-set_same vs (j + 1) v z b, add-one, value_step t n tree j h)
        (e ∙ ap (t.step j) (inv (t.parent j) (tree j h)))
    go (no q) = get_or-set_other vs (j + 1) l v z q ∙ inv l (let k : (l ≡ j + 1 → ⊥) = q in omega arith)

pub values_first : {S : Type 0} (t : Outward S) (z : S) (vs : List S) → get_or vs 0 z ≡ t.root → (l : ℕ) → l ≤ 0 → get_or vs l z ≡ value_at t l
unfolding value_at climb
values_first t z vs e zero h = e
values_first t z vs e (suc l) h = absurd (omega arith)
