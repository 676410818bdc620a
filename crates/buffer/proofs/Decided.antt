-- The test of the tables says exactly that they agree; and what that gives a call's indices.
use mathlib.Core.Path.{◌≡◌, refl, sym, ap, ◌∙◌, subst}
use mathlib.Core.Bool.{Bool, true, ◌&&◌, ◌||◌}
use mathlib.Core.Logic.{◌⊎◌, inl, inr, ⊎_elim}
use Prim.Native.Nat.{ℕ, zero, suc, ◌+◌, ◌-◌, ◌<◌, ◌≤◌}
use native.Mathlib.Omega.{arith}
use native.Mathlib.Nat.{eq-or-lt_of_le}
use native.Mathlib.Numerals.{add-one}
use lib.Dec.{ltb, leb, eqb}
use borrow.Author.Tests.{ltb-true, leb-true, eqb-true, lt-ltb, le-ltb, le-leb, eq-eqb}
use Rattle.fit.specs.Finite.{all_finite, wrench_numbers}
use Rattle.buffer.specs.declared.LoadBuffer.{LoadBuffer}
use Rattle.buffer.specs.Agree.{MAX, at, mark, Held, Counts, Kept, Agree, is_cleared, load_agrees, mark_agrees, place_agrees, counts_agree, tables_agree}
use Rattle.spatial.proofs.BoolLaws.{and_left, and_right, and_both, or_cases, or_left, or_right, lt_or_ge, same_or_not, upto}
use Rattle.spatial.specs.All as All
use Rattle.spatial.proofs.AllLaws.{all_at, all_if}
use Rattle.buffer.proofs.CountLaws.{bit, count, count_lt, count_more}
use Rattle.buffer.proofs.ZeroLaws.{cleared_passes, passed_cleared}

module _ (b : LoadBuffer) (h : tables_agree b ≡ true) where
  abbrev c₁ : Bool
  c₁ = leb 1 b.links

  abbrev c₂ : Bool
  c₂ = leb b.links 64

  abbrev c₃ : Bool
  c₃ = leb b.count b.links

  pub counted : Counts b
  unfolding tables_agree counts_agree
  counted = record {
    some = leb-true _ _ (and_left c₁ c₂ (and_left (c₁ && c₂) c₃ all));
    few = leb-true _ _ (and_right c₁ c₂ (and_left (c₁ && c₂) c₃ all));
    fit = leb-true _ _ (and_right (c₁ && c₂) c₃ all);
  } where
    all : counts_agree b ≡ true
    all = and_left (counts_agree b) (All.all 64 (place_agrees b)) h

  placed : (i : ℕ) → i < 64 → place_agrees b i ≡ true
  unfolding tables_agree
  placed i l = all_at 64 i (place_agrees b) (and_right (counts_agree b) (All.all 64 (place_agrees b)) h) l

  loaded : (i : ℕ) → i < 64 → load_agrees b.links b.count i (at b i) (mark b (at b i).link) ≡ true
  unfolding place_agrees
  loaded i l = and_left _ _ (placed i l)

  abbrev p₁ : ℕ → Bool
  p₁ i = all_finite (wrench_numbers (at b i).wrench)

  abbrev p₂ : ℕ → Bool
  p₂ i = ltb (at b i).link b.links

  abbrev p₃ : ℕ → Bool
  p₃ i = eqb (mark b (at b i).link) i

  held : (i : ℕ) → i < b.count → p₁ i && p₂ i && p₃ i ≡ true
  unfolding load_agrees
  held i l = simp (lt-ltb _ _ l) at (loaded i (omega (arith, counted.few, counted.fit)))

  pub kept : (i : ℕ) → i < b.count → Kept b i
  kept i l = record {
    finite = and_left (p₁ i) (p₂ i) (and_left (p₁ i && p₂ i) (p₃ i) (held i l));
    inside = ltb-true _ _ (and_right (p₁ i) (p₂ i) (and_left (p₁ i && p₂ i) (p₃ i) (held i l)));
    marked = eqb-true _ _ (and_right (p₁ i && p₂ i) (p₃ i) (held i l));
  }

  abbrev m₁ : ℕ → Bool
  m₁ l = eqb (mark b l) MAX

  abbrev m₂ : ℕ → Bool
  m₂ l = ltb (mark b l) b.count

  abbrev m₃ : ℕ → Bool
  m₃ l = eqb (at b (mark b l)).link l

  marks : (l : ℕ) → l < 64 → m₁ l || (m₂ l && m₃ l) ≡ true
  unfolding place_agrees mark_agrees
  marks l k = and_right (load_agrees b.links b.count l (at b l) (mark b (at b l).link)) (mark_agrees b.count l (mark b l) (at b (mark b l)).link) (placed l k)

  -- a mark is empty, or the place of its link's load
  pub back : (l : ℕ) → l < 64 → (mark b l ≡ MAX) ⊎ ((mark b l < b.count) × ((at b (mark b l)).link ≡ l))
  back l k =
      ⊎_elim (λ e. inl (eqb-true _ _ e)) (λ e. inr (ltb-true _ _ (and_left (m₂ l) (m₃ l) e), eqb-true _ _ (and_right (m₂ l) (m₃ l) e))) (or_cases (m₁ l) (m₂ l && m₃ l) (marks l k))

  free : (i : ℕ) → b.count ≤ i → i < 64 → is_cleared (at b i) ≡ true
  unfolding load_agrees
  free i l k = simp (le-ltb _ _ l) at (loaded i k)

  -- the test says that the tables agree
  pub agrees : Held b → Agree b
  agrees d = record {
    counts = counted;
    kept = kept;
    others = λ l k no. ⊎_elim (λ e. e) (λ e. absurd (no (mark b l) e.0 e.1)) (back l k);
    free = λ i l k. passed_cleared (at b i) (d.torques i k) (d.forces i k) (free i l k);
  }

  -- ---- as many links are marked below j as there are places below j

  none : (n : ℕ) → count n (λ l. ltb (mark b l) 0) ≡ 0
  unfolding count
  none zero = refl
  none (suc n) = omega (arith, ap bit (le-ltb (mark b n) 0 (omega arith)), none n)

  past : (j l : ℕ) → j ≤ mark b l → (mark b l < b.count) × ((at b (mark b l)).link ≡ l) → (l ≡ (at b j).link → ⊥) → suc j ≤ mark b l
  past j l more e other =
      ⊎_elim (λ same. absurd (other (sym e.1 ∙ ap (λ (i : ℕ). (at b i).link) (sym same)))) (λ less. less) (eq-or-lt_of_le more)

  same_below : (j l : ℕ) → suc j ≤ b.count → l < 64 → (l ≡ (at b j).link → ⊥) → ltb (mark b l) j ≡ ltb (mark b l) (suc j)
  same_below j l n k other =
      ⊎_elim (λ less. lt-ltb _ _ less ∙ sym (lt-ltb (mark b l) (suc j) (omega arith)))
      (λ more. le-ltb _ _ more ∙ sym (le-ltb (mark b l) (suc j) (⊎_elim (λ e. omega (arith, counted.fit, counted.few)) (λ e. past j l more e other) (back l k))))
      (lt_or_ge (mark b l) j)

  below : (j : ℕ) → j ≤ b.count → count b.links (λ l. ltb (mark b l) j) ≡ j
  below zero n = none b.links
  below (suc j) n =
      count_more b.links (at b j).link (λ l. ltb (mark b l) j) (λ l. ltb (mark b l) (suc j)) (kept j (omega arith)).inside
      (le-ltb (mark b (at b j).link) j (omega (arith, (kept j (omega arith)).marked)))
      (lt-ltb (mark b (at b j).link) (suc j) (omega (arith, (kept j (omega arith)).marked)))
      (λ l k other. same_below j l n (omega (arith, counted.few)) other)
      ∙ ap (λ (n : ℕ). n + 1) (below j (omega arith)) ∙ add-one j

  -- ---- what the code's indices need, at a link of the model's

  module _ (l : ℕ) (k : l < b.links) where
    -- a link that has no load leaves room
    pub room : mark b l ≡ MAX → b.count < b.links
    room e =
        subst (λ (n : ℕ). n < b.links) (below b.count (omega arith))
        (count_lt b.links l (λ j. ltb (mark b j) b.count) k (le-ltb (mark b l) b.count (omega (arith, counted.fit, counted.few))))

    pub link_small : l < 64
    link_small = omega (arith, counted.few)

    pub room_small : mark b l ≡ MAX → b.count < 64
    room_small e = omega (arith, room e, counted.few)

    pub here : (mark b l ≡ MAX → ⊥) → (mark b l < b.count) × ((at b (mark b l)).link ≡ l)
    here n = ⊎_elim (λ e. absurd (n e)) (λ e. e) (back l link_small)

    pub last_link : (mark b l ≡ MAX → ⊥) → (at b (b.count - 1)).link < 64
    last_link n = omega (arith, (kept (b.count - 1) (omega (arith, (here n).0))).inside, counted.few)

-- ---- the other way

-- whether f is l somewhere below n
find : (n l : ℕ) (f : ℕ → ℕ) → ((i : ℕ) × (i < n) × (f i ≡ l)) ⊎ ((i : ℕ) → i < n → f i ≡ l → ⊥)
find zero l f = inr (λ i m e. omega arith)
find (suc n) l f = ⊎_elim (λ e. inl (n, omega arith, e)) (λ d. ⊎_elim (λ r. inl (r.0, omega (arith, r.1), r.2)) (λ no. inr (λ i m e. ⊎_elim (λ q. d (ap f (sym q) ∙ e)) (λ m'. no i m' e) (upto n i m))) (find n l f)) (same_or_not (f n) l)

module _ (b : LoadBuffer) (a : Agree b) where
  in_place : (i : ℕ) → i < 64 → load_agrees b.links b.count i (at b i) (mark b (at b i).link) ≡ true
  unfolding load_agrees
  in_place i k =
      ⊎_elim
      (λ l. simp (lt-ltb i b.count l) (and_both _ _ (and_both _ _ (a.kept i l).finite (lt-ltb _ _ (a.kept i l).inside)) (eq-eqb _ _ (a.kept i l).marked)))
      (λ l. simp (le-ltb i b.count l) (ap is_cleared (a.free i l k) ∙ cleared_passes))
      (lt_or_ge i b.count)

  in_marks : (l : ℕ) → l < 64 → (mark b l ≡ MAX) ⊎ ((mark b l < b.count) × ((at b (mark b l)).link ≡ l))
  in_marks l k =
      ⊎_elim (λ r. inr (at_mark r.0 r.1 r.2)) (λ no. inl (a.others l k no)) (find b.count l (λ i. (at b i).link))
    where
      at_mark : (i : ℕ) → i < b.count → (at b i).link ≡ l → (mark b l < b.count) × ((at b (mark b l)).link ≡ l)
      at_mark i m e =
          let q : mark b l ≡ i = ap (mark b) (sym e) ∙ (a.kept i m).marked in
          (omega arith, ap (λ (j : ℕ). (at b j).link) q ∙ e)

  -- tables that agree pass the test
  pub decided : tables_agree b ≡ true
  unfolding tables_agree counts_agree place_agrees mark_agrees
  decided =
      and_both _ _ (and_both _ _ (and_both _ _ (le-leb _ _ a.counts.some) (le-leb _ _ a.counts.few)) (le-leb _ _ a.counts.fit))
      (all_if 64 (place_agrees b) (λ i k. and_both _ _ (in_place i k)
      (⊎_elim (λ e. or_left (eqb (mark b i) MAX) _ (eq-eqb _ _ e))
      (λ e. or_right (eqb (mark b i) MAX) (ltb (mark b i) b.count && eqb (at b (mark b i)).link i) (and_both _ _ (lt-ltb _ _ e.0) (eq-eqb _ _ e.1))) (in_marks i k))))
