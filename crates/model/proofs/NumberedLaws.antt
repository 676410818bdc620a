-- The decision of the moving numbers says the rule, both ways.
use Prim.Native.Nat.{ℕ, zero, suc, ◌<◌, ◌≤◌}
use mathlib.Core.Path.{◌≡◌, refl, sym, ap, ◌∙◌}
use mathlib.Core.Bool.{true, false, not, ◌&&◌, false≢true}
use mathlib.Core.Logic.{⊎_elim}
use native.Mathlib.Nat.{eq-or-lt_of_le}
use native.Mathlib.Omega.{arith}
use lib.Dec.{eqb, ltb}
use borrow.Author.Tests.{lt-ltb, ltb-true, eq-eqb, eqb-true, not-true}
use Rattle.spatial.specs.All.{all}
use Rattle.spatial.proofs.AllLaws.{all_at, all_if}
use Rattle.model.specs.Numbers.{Numbering, Holds, Numbered, holds, taken, numbered_at, numbered, holder_of}
use Rattle.spatial.proofs.BoolLaws.{and_both, and_left, and_right, by_bool, lt_or_ge, or_cases, or_right}
use Rattle.model.proofs.Pigeonhole.{pigeonhole}

-- a number is taken where a joint before holds it
pub taken_by : (t : Numbering) (j n : ℕ) → taken t j n ≡ true → (i : ℕ) × (i < j) × (holds t n i ≡ true)
unfolding taken
taken_by t zero n h = absurd (false≢true h)
taken_by t (suc j) n h =
    ⊎_elim
    (λ e. let r = taken_by t j n e in (r.0, (let l : r.0 < j = r.1 in omega arith), r.2))
    (λ e. (j, omega arith, e))
    (or_cases (taken t j n) (holds t n j) h)

pub holds_taken : (t : Numbering) (j n i : ℕ) → i < j → holds t n i ≡ true → taken t j n ≡ true
unfolding taken
holds_taken t zero n i l h = absurd (omega arith)
holds_taken t (suc j) n i l h =
    let m : i ≤ j = omega arith in
    ⊎_elim
    (λ e. or_right (taken t j n) (holds t n j) (ap (holds t n) (sym e) ∙ h))
    (λ q. rw (holds_taken t j n i q h))
    (eq-or-lt_of_le m)

module _ (t : Numbering) where
  pub said : (n j : ℕ) → Holds t n j → holds t n j ≡ true
  said n j h = and_both (t.moves j) (eqb (t.number j) n) h.moving (eq-eqb (t.number j) n h.number)

  pub told : (n j : ℕ) → j < t.count → holds t n j ≡ true → Holds t n j
  told n j l h =
      record {
        inside = l;
        moving = and_left (t.moves j) (eqb (t.number j) n) h;
        number = eqb-true (t.number j) n (and_right (t.moves j) (eqb (t.number j) n) h);
      }

  module _ (h : numbered t ≡ true) where
    at : (j : ℕ) → j < t.count → numbered_at t j ≡ true
    unfolding numbered
    at j l = all_at t.count j (numbered_at t) (and_left _ _ h) l

    moving_at : (n j : ℕ) → Holds t n j → (ltb (t.number j) t.moving && not (taken t j (t.number j))) ≡ true
    unfolding numbered_at
    moving_at n j o = rw o.moving at (at j o.inside)

    free : (n j : ℕ) → Holds t n j → taken t j n ≡ false
    free n j o = ap (taken t j) (sym o.number) ∙ not-true (taken t j (t.number j)) (and_right (ltb (t.number j) t.moving) _ (moving_at n j o))

    before : (n i j : ℕ) → Holds t n i → Holds t n j → i < j → ⊥
    before n i j p q l = false≢true (sym (free n j q) ∙ holds_taken t j n i l (said n i p))

    once : (n i j : ℕ) → Holds t n i → Holds t n j → i ≡ j
    once n i j p q = ⊎_elim (λ l. absurd (before n i j p q l)) (λ m. ⊎_elim (λ e. sym e) (λ l. absurd (before n j i q p l)) (eq-or-lt_of_le m)) (lt_or_ge i j)

    pub numbered_says : Numbered t
    unfolding numbered numbered_at
    numbered_says =
        record {
          below = λ n j o.
              let l : t.number j < t.moving = ltb-true _ _ (and_left _ _ (moving_at n j o)) in
              let e : t.number j ≡ n = o.number in
              omega arith;
          held = λ n l.
              let r = taken_by t t.count n (all_at t.moving n (taken t t.count) (and_right (all t.count (numbered_at t)) _ h) l) in
              (r.0, told n r.0 r.1 r.2);
          once = once;
          none = λ j l e. eqb-true _ _ (rw e at (at j l));
        }

  module _ (g : Numbered t) where
    fresh : (j : ℕ) → j < t.count → t.moves j ≡ true → taken t j (t.number j) ≡ false
    fresh j l e = ⊎_elim (λ h. absurd (again (taken_by t j (t.number j) h))) (λ h. h) (by_bool (taken t j (t.number j)))
      where
        again : (i : ℕ) × (i < j) × (holds t (t.number j) i ≡ true) → ⊥
        again r =
            let l' : r.0 < j = r.1 in
            let q : r.0 ≡ j = g.once (t.number j) r.0 j (told (t.number j) r.0 (omega arith) r.2) (record { inside = l; moving = e; number = refl }) in
            omega arith

    each : (j : ℕ) → j < t.count → numbered_at t j ≡ true
    unfolding numbered_at
    each j l =
        ⊎_elim
        (λ e. rw e (and_both _ _ (lt-ltb _ _ (g.below (t.number j) j (record { inside = l; moving = e; number = refl }))) (ap not (fresh j l e))))
        (λ e. rw e (eq-eqb _ _ (g.none j l e)))
        (by_bool (t.moves j))

    pub says_numbered : numbered t ≡ true
    unfolding numbered
    says_numbered =
        and_both _ _ (all_if t.count (numbered_at t) each)
        (all_if t.moving (taken t t.count)
        (λ n l.
        let r = g.held n l in
        holds_taken t t.count n r.0 r.1.inside (said n r.0 r.1)))

    -- there are no more numbers than joints
    pub few_numbers : t.moving ≤ t.count
    few_numbers =
        pigeonhole t.count t.moving (λ n l. (g.held n l).0) (λ n l. (g.held n l).1.inside)
        (λ a b p q e. sym (g.held a p).1.number ∙ ap t.number e ∙ (g.held b q).1.number)

-- of those before j, the one that holds n is found
holder_found : (t : Numbering) (n i : ℕ) → holds t n i ≡ true → ((k : ℕ) → k < t.count → holds t n k ≡ true → k ≡ i) → (j : ℕ) → i < j → j ≤ t.count → holder_of t j n ≡ i
unfolding holder_of
holder_found t n i h once zero l m = absurd (omega arith)
holder_found t n i h once (suc j) l m =
    ⊎_elim
    (λ e. rw e (once j (omega arith) e))
    (λ e. rw e (holder_found t n i h once j (let d : (i ≡ j → ⊥) = (λ q. false≢true (sym e ∙ ap (holds t n) (sym q) ∙ h)) in omega arith) (omega arith)))
    (by_bool (holds t n j))

-- the joint that holds n is its holder
pub holder_is : (t : Numbering) → Numbered t → (n i : ℕ) → Holds t n i → holder_of t t.count n ≡ i
holder_is t g n i h =
    holder_found t n i (said t n i h) (λ k l q. g.once n k i (told t n k l q) h) t.count h.inside (omega arith)

-- and the holder of a number below m holds it
pub holder_holds : (t : Numbering) → Numbered t → (n : ℕ) → n < t.moving → Holds t n (holder_of t t.count n)
holder_holds t g n l =
    let r = g.held n l in
    rw (holder_is t g n r.0 r.1) r.1
