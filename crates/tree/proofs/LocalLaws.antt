-- What a link's value and a joint's total depend on.
use Prim.Native.Nat.{ℕ, zero, suc, ◌-◌, ◌<◌}
use mathlib.Core.Path.{◌≡◌, refl, sym, ap, ◌∙◌}
use mathlib.Core.Logic.{◌⊎◌, inl, inr, ⊎_elim}
use mathlib.Core.Bool.{Bool, true, false}
use native.Mathlib.Omega.{arith}
use native.Mathlib.Decide.{ℕ_discrete}
use lib.Dec.{eqb}
use borrow.Author.Tests.{eqb-true, ne_eqb}
use Rattle.tree.specs.Tree.{Outward, climb, Inward, from, joined, gathered, total, total_of, root_sum}
use Rattle.tree.specs.Ways.{Above, here, up, Beyond}
use Rattle.tree.proofs.WayLaws.{onward, child}

same_test : (a b l : ℕ) → (a ≡ l → a ≡ b) → (b ≡ l → a ≡ b) → eqb a l ≡ eqb b l
same_test a b l f g = go (ℕ_discrete a l)
  where
    go : Dec (a ≡ l) → eqb a l ≡ eqb b l
    go (yes e) = ap (λ (x : ℕ). eqb x l) (f e)
    go (no n) = ne_eqb a l n ∙ sym (ne_eqb b l (λ e. n (g e ∙ e)))

pub record SameOut {S : Type 0} (t u : Outward S) (i : ℕ) : Type 0 where
  pub parent : t.parent i ≡ u.parent i
  pub step : (s : S) → t.step i s ≡ u.step i s

pub climb_local : {S : Type 0} (t u : Outward S) → t.root ≡ u.root → (f l : ℕ) → ((i : ℕ) → Above t.parent l i → SameOut t u i) → climb t f l ≡ climb u f l
unfolding climb
climb_local t u r zero l h = r
climb_local t u r (suc f) zero h = r
climb_local t u r (suc f) (suc j) h =
    ap (t.step j) (climb_local t u r f (t.parent j) (λ i a. h i (up a)))
    ∙ (h j here).step (climb u f (t.parent j))
    ∙ ap (λ (x : ℕ). u.step j (climb u f x)) (h j here).parent

-- joint c is in both, and the same
pub record SameIn {W : Type 0} (t u : Inward W) (c : ℕ) : Type 0 where
  pub first : c < t.count
  pub second : c < u.count
  pub parent : t.parent c ≡ u.parent c
  pub start : t.start (suc c) ≡ u.start (suc c)
  pub own : t.own c ≡ u.own c
  pub carry : (w : W) → t.carry c w ≡ u.carry c w

module _ {W : Type 0} (t u : Inward W) (plus : (x y : W) → t.plus x y ≡ u.plus x y) where
  -- joint c is a child of link l in one of the two
  abbrev Child : ℕ → ℕ → Type 0
  Child l c = ((c < t.count) × (t.parent c ≡ l)) ⊎ ((c < u.count) × (u.parent c ≡ l))

  joined_local : (a b : ℕ → W) (c : ℕ) (q : Bool) (x y : W) → (q ≡ true → t.carry c (a c) ≡ u.carry c (b c)) → x ≡ y → joined t a c q x ≡ joined u b c q y
  joined_local a b c true x y h e = plus x (t.carry c (a c)) ∙ ap (u.plus x) (h refl) ∙ ap (λ (w : W). u.plus w (u.carry c (b c))) e
  joined_local a b c false x y h e = e

  -- The sums at link l from joint k on. One of the two may have more joints: those are no children of l.
  gathered_local : (a b : ℕ → W) (l : ℕ) → t.start l ≡ u.start l → ((c : ℕ) → Child l c → SameIn t u c) → ((c : ℕ) → Child l c → a c ≡ b c) → (d e k : ℕ) → d ≡ t.count - k → e ≡ u.count - k → gathered t a l (from k d) ≡ gathered u b l (from k e)
  gathered_local a b l s same eq zero zero k p q = s
  gathered_local a b l s same eq zero (suc e) k p q =
      gathered_local a b l s same eq zero e (suc k) (omega arith) (omega arith)
      ∙ ap (λ (x : Bool). joined u b k x (gathered u b l (from (suc k) e)))
      (sym (ne_eqb (u.parent k) l (λ z. let f : k < t.count = (same k (inr (omega arith, z))).first in omega arith)))
  gathered_local a b l s same eq (suc d) zero k p q =
      ap (λ (x : Bool). joined t a k x (gathered t a l (from (suc k) d)))
      (ne_eqb (t.parent k) l (λ z. let f : k < u.count = (same k (inl (omega arith, z))).second in omega arith))
      ∙ gathered_local a b l s same eq d zero (suc k) (omega arith) (omega arith)
  gathered_local a b l s same eq (suc d) (suc e) k p q =
      let in_t : k < t.count = omega arith in
      let in_u : k < u.count = omega arith in
      joined_local a b k (eqb (t.parent k) l) _ _
      (λ z.
      let i : Child l k = inl (in_t, eqb-true (t.parent k) l z) in
      ap (t.carry k) (eq k i) ∙ (same k i).carry (b k))
      (gathered_local a b l s same eq d e (suc k) (omega arith) (omega arith))
      ∙ ap (λ (x : Bool). joined u b k x (gathered u b l (from (suc k) e)))
      (same_test (t.parent k) (u.parent k) l (λ z. (same k (inl (in_t, z))).parent) (λ z. (same k (inr (in_u, z))).parent))

  abbrev Either : ℕ → ℕ → Type 0
  Either j c = Beyond t.count t.parent j c ⊎ Beyond u.count u.parent j c

  kid : (j c : ℕ) → Child (suc j) c → Either j c
  kid j c (inl p) = inl (p.0, up (child t.parent c j p.1))
  kid j c (inr p) = inr (p.0, up (child u.parent c j p.1))

  -- what is beyond a child is beyond its parent's joint
  further : (j c : ℕ) → t.parent c ≡ u.parent c → Child (suc j) c → (x : ℕ) → Either c x → Either j x
  further j c e (inl p) x (inl v) = inl (v.0, onward v.1 (child t.parent c j p.1))
  further j c e (inl p) x (inr v) = inr (v.0, onward v.1 (child u.parent c j (sym e ∙ p.1)))
  further j c e (inr p) x (inl v) = inl (v.0, onward v.1 (child t.parent c j (e ∙ p.1)))
  further j c e (inr p) x (inr v) = inr (v.0, onward v.1 (child u.parent c j p.1))

  pub total_local : (f j : ℕ) → j < t.count → ((c : ℕ) → Beyond t.count t.parent j c ⊎ Beyond u.count u.parent j c → SameIn t u c) → total t f j ≡ total u f j
  unfolding total
  total_local zero j b h = (h j (inl (b, here))).start
  total_local (suc f) j b h =
      let s : SameIn t u j = h j (inl (b, here)) in
      plus _ (t.own j)
      ∙ ap (u.plus _) s.own
      ∙ ap (λ (w : W). u.plus w (u.own j))
      (gathered_local (total t f) (total u f) (suc j) s.start (λ c i. h c (kid j c i))
      (λ c i.
      let v : SameIn t u c = h c (kid j c i) in
      total_local f c v.first (λ x a. h x (further j c v.parent i x a)))
      t.count u.count 0 (omega arith) (omega arith))

  -- two descriptions of one tree
  module _ (n : t.count ≡ u.count) (h : (c : ℕ) → c < t.count → SameIn t u c) where
    pub totals_same : (j : ℕ) → j < t.count → total_of t j ≡ total_of u j
    unfolding total_of
    totals_same j b = total_local t.count j b (λ c a. h c (⊎_elim (λ v. v.0) (λ v. rw n v.0) a)) ∙ ap (λ (f : ℕ). total u f j) n

    pub root_same : t.start 0 ≡ u.start 0 → root_sum t ≡ root_sum u
    unfolding root_sum
    root_same s =
        gathered_local (total_of t) (total_of u) 0 s (λ c i. h c (inside c i)) (λ c i. totals_same c (inside c i)) t.count u.count 0 (omega arith) (omega arith)
      where
        inside : (c : ℕ) → Child 0 c → c < t.count
        inside c (inl p) = p.0
        inside c (inr p) = rw n p.0
