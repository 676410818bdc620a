-- Removing is the map's own step: the tables agree again, and the last load stands in the gap.
use mathlib.Core.Path.{◌≡◌, refl, sym, ap, ◌∙◌, subst}
use mathlib.Core.Bool.{true}
use mathlib.Core.Logic.{◌⊎◌, ⊎_elim}
use mathlib.Core.List.{List, [], ◌∷◌}
use Prim.Native.Nat.{ℕ, zero, suc, ◌-◌, ◌<◌, ◌≤◌}
use native.Mathlib.Omega.{arith}
use native.Mathlib.Numerals.{add-one}
use lib.ListN.{length, get_or, set, take, length-set}
use lib.Seq.{get_or-set_same, get_or-set_other, take-set-lt, take-set-le, take-take}
use borrow.Author.Tests.{eq-eqb, ne_eqb, lt-ltb, le-ltb}
use Rattle.fit.specs.Finite.{all_finite, wrench_numbers}
use Rattle.buffer.specs.declared.Stored.{Stored}
use Rattle.buffer.specs.declared.LoadBuffer.{LoadBuffer}
use Rattle.buffer.specs.Agree.{MAX, cleared, no_stored, at, mark, Sized, Agree}
use Rattle.buffer.specs.Calls.{taken_of, drop_of, stored}
use Rattle.buffer.specs.Map.{place_of, map_remove}
use Rattle.spatial.proofs.BoolLaws.{lt_or_ge, same_or_not}
use Rattle.buffer.proofs.Decided.{here, decided}
use Rattle.buffer.proofs.MapPut.{long, stored_length, stored_at, not_at, only_at}

-- ---- where a link stands in a list

place_at : (l p : ℕ) (ss : List Stored) → p < length ss → (get_or ss p no_stored).link ≡ l → ((k : ℕ) → k < p → (get_or ss k no_stored).link ≡ l → ⊥) → place_of l ss ≡ p
unfolding place_of
place_at l p [] m e h = absurd (omega arith)
place_at l zero (s ∷ ss) m e h = rw (eq-eqb s.link l e)
place_at l (suc p) (s ∷ ss) m e h = rw (ne_eqb s.link l (h 0 (omega arith)), place_at l p ss (omega arith) e (λ k k<. h (suc k) (omega arith)), add-one)

place_none : (l : ℕ) (ss : List Stored) → ((k : ℕ) → k < length ss → (get_or ss k no_stored).link ≡ l → ⊥) → place_of l ss ≡ length ss
unfolding place_of
place_none l [] h = refl
place_none l (s ∷ ss) h = rw (ne_eqb s.link l (h 0 (omega arith)), place_none l ss (λ k m. h (suc k) (omega arith)), add-one)

module _ (b : LoadBuffer) (z : Sized b) (a : Agree b) where
  -- a link stands where its mark says
  pub present : (l : ℕ) → (mark b l < b.count) × ((at b (mark b l)).link ≡ l) → place_of l (stored b) ≡ mark b l
  present l its =
      place_at l (mark b l) (stored b) (omega (arith, its.0, stored_length b z a)) (ap (λ (s : Stored). s.link) (stored_at b z a (mark b l) its.0) ∙ its.1)
      (λ i m q. only_at b z a l i (omega (arith, its.0)) (λ w. omega arith) (ap (λ (s : Stored). s.link) (sym (stored_at b z a i (omega (arith, its.0)))) ∙ q))

  pub absent : (l : ℕ) → mark b l ≡ MAX → place_of l (stored b) ≡ b.count
  absent l e =
      place_none l (stored b) (λ i m q. not_at b z a l i (omega (arith, stored_length b z a)) e (ap (λ (s : Stored). s.link) (sym (stored_at b z a i (omega (arith, stored_length b z a)))) ∙ q))
      ∙ stored_length b z a

module _ (b : LoadBuffer) (z : Sized b) (a : Agree b) (l : ℕ) (k : l < b.links) where
  absent_map : mark b l ≡ MAX → map_remove l (stored b) ≡ stored b
  unfolding map_remove
  absent_map e = rw (le-ltb (place_of l (stored b)) (length (stored b)) (omega (arith, absent b z a l e, stored_length b z a)))

  -- ---- a link that has a load
  module _ (e : mark b l ≡ MAX → ⊥) where
    abbrev p : ℕ
    p = mark b l

    abbrev last : ℕ
    last = b.count - 1

    abbrev moved : Stored
    moved = at b last

    abbrev b' : LoadBuffer
    b' = taken_of b l

    its : (p < b.count) × ((at b p).link ≡ l)
    its = here b (decided b a) l k e

    taken_map : stored b' ≡ map_remove l (stored b)
    unfolding map_remove
    taken_map =
        take-set-le last (set b.loads p moved) last cleared (omega arith)
        ∙ sym (take-take last b.count (set b.loads p moved) (omega arith))
        ∙ ap (take last) (take-set-lt b.count b.loads p moved its.0)
        ∙ sym (rw (present b z a l its, lt-ltb p (length (stored b)) (omega (arith, its.0, stored_length b z a)), stored_length b z a, stored_at b z a last (omega (arith, its.0))))

    -- ---- the tables after it

    at_last : at b' last ≡ cleared
    at_last = get_or-set_same (set b.loads p moved) last cleared no_stored (simp length-set (omega (arith, its.0, long b z a)))

    at_gap : (i : ℕ) → (i ≡ last → ⊥) → i ≡ p → at b' i ≡ moved
    at_gap i d q =
        get_or-set_other (set b.loads p moved) last i cleared no_stored d
        ∙ ap (λ (j : ℕ). get_or (set b.loads p moved) j no_stored) q
        ∙ get_or-set_same b.loads p moved no_stored (omega (arith, its.0, long b z a))

    at_kept : (i : ℕ) → (i ≡ last → ⊥) → (i ≡ p → ⊥) → at b' i ≡ at b i
    at_kept i d d' = get_or-set_other (set b.loads p moved) last i cleared no_stored d ∙ get_or-set_other b.loads p i moved no_stored d'

    mark_out : mark b' l ≡ MAX
    mark_out = get_or-set_same (set b.positions moved.link p) l MAX 0 (simp length-set (omega (arith, z.marks, a.counts.few)))

    mark_gap : (j : ℕ) → (j ≡ l → ⊥) → j ≡ moved.link → mark b' j ≡ p
    mark_gap j d q =
        get_or-set_other (set b.positions moved.link p) l j MAX 0 d
        ∙ ap (λ (i : ℕ). get_or (set b.positions moved.link p) i 0) q
        ∙ get_or-set_same b.positions moved.link p 0 (omega (arith, z.marks, a.counts.few, (a.kept last (omega (arith, its.0))).inside))

    mark_kept : (j : ℕ) → (j ≡ l → ⊥) → (j ≡ moved.link → ⊥) → mark b' j ≡ mark b j
    mark_kept j d d' = get_or-set_other (set b.positions moved.link p) l j MAX 0 d ∙ get_or-set_other b.positions moved.link j p 0 d'

    -- a place of the new buffer: the gap, or an old one
    at_case : (P : ℕ → Stored → Type 0) → (p < last → P p moved) → ((i : ℕ) → i < last → (i ≡ p → ⊥) → P i (at b i)) → (i : ℕ) → i < last → P i (at b' i)
    at_case P gap old i m =
        ⊎_elim (λ q. subst (P i) (sym (at_gap i (λ w. omega arith) q)) (subst (λ (j : ℕ). P j moved) (sym q) (gap (omega arith))))
        (λ d. subst (P i) (sym (at_kept i (λ w. omega arith) d)) (old i m d)) (same_or_not i p)

    last_other : p < last → moved.link ≡ l → ⊥
    last_other m q = only_at b z a l last (omega (arith, its.0)) (λ w. omega arith) q

    kept_other : (i : ℕ) → i < last → (at b i).link ≡ moved.link → ⊥
    kept_other i m q = omega (arith, ap (mark b) q, (a.kept i (omega arith)).marked, (a.kept last (omega arith)).marked)

    taken_agrees : Agree b'
    taken_agrees = record {
      counts = record { some = a.counts.some; few = a.counts.few; fit = omega (arith, a.counts.fit) };
      kept = λ i m. record {
        finite = at_case (λ _ s. all_finite (wrench_numbers s.wrench) ≡ true) (λ h. (a.kept last (omega arith)).finite) (λ j h _. (a.kept j (omega arith)).finite) i m;
        inside = at_case (λ _ s. s.link < b.links) (λ h. (a.kept last (omega arith)).inside) (λ j h _. (a.kept j (omega arith)).inside) i m;
        marked = at_case (λ j s. mark b' s.link ≡ j) (λ h. mark_gap moved.link (last_other h) refl)
            (λ j h d. mark_kept (at b j).link (only_at b z a l j (omega arith) d) (kept_other j h) ∙ (a.kept j (omega arith)).marked) i m;
      };
      others = λ j h none. ⊎_elim (λ q. ap (mark b') q ∙ mark_out) (λ d. mark_kept j d (not_moved j d none) ∙ a.others j h (nowhere j d none)) (same_or_not j l);
      free = λ i m h. ⊎_elim (λ q. ap (at b') q ∙ at_last) (λ d. at_kept i d (λ w. omega (arith, its.0)) ∙ a.free i (omega (arith, its.0)) h) (same_or_not i last);
    } where
      -- the gap is below the last place, unless the last one's link is taken out
      gap_below : (j : ℕ) → (j ≡ l → ⊥) → j ≡ moved.link → p < last
      gap_below j d q =
          ⊎_elim (λ m. m) (λ m. absurd (d (q ∙ ap (λ (i : ℕ). (at b i).link) (same m) ∙ its.1))) (lt_or_ge p last)
        where
          same : last ≤ p → last ≡ p
          same m = omega (arith, its.0)

      not_moved : (j : ℕ) → (j ≡ l → ⊥) → ((i : ℕ) → i < last → (at b' i).link ≡ j → ⊥) → j ≡ moved.link → ⊥
      not_moved j d none q =
          none p (gap_below j d q) (ap (λ (s : Stored). s.link) (at_gap p (λ w. omega (arith, gap_below j d q)) refl) ∙ sym q)

      nowhere : (j : ℕ) → (j ≡ l → ⊥) → ((i : ℕ) → i < last → (at b' i).link ≡ j → ⊥) → (i : ℕ) → i < b.count → (at b i).link ≡ j → ⊥
      nowhere j d none i m q =
          none i (below (lt_or_ge i last)) (ap (λ (s : Stored). s.link) (at_kept i (λ w. omega (arith, below (lt_or_ge i last))) not_gap) ∙ q)
        where
          not_gap : i ≡ p → ⊥
          not_gap w = d (sym q ∙ ap (λ (i : ℕ). (at b i).link) w ∙ its.1)

          at_end : last ≤ i → i ≡ last
          at_end h = omega arith

          below : (i < last) ⊎ (last ≤ i) → i < last
          below = ⊎_elim (λ h. h) (λ h. absurd (not_moved j d none (sym q ∙ ap (λ (i : ℕ). (at b i).link) (at_end h))))

  pub drop_map : stored (drop_of b l) ≡ map_remove l (stored b)
  unfolding drop_of
  drop_map = ⊎_elim (λ e. rw (eq-eqb (mark b l) MAX e) (sym (absent_map e))) (λ e. rw (ne_eqb (mark b l) MAX e) (taken_map e)) (same_or_not (mark b l) MAX)

  pub drop_agrees : Agree (drop_of b l)
  unfolding drop_of
  drop_agrees = ⊎_elim (λ e. rw (eq-eqb (mark b l) MAX e) a) (λ e. rw (ne_eqb (mark b l) MAX e) (taken_agrees e)) (same_or_not (mark b l) MAX)
