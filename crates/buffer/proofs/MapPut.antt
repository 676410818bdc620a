-- Setting is the map's own step: the tables agree again, and the stored loads are the map's.
use mathlib.Core.Path.{◌≡◌, refl, sym, ap, ◌∙◌, subst}
use mathlib.Core.Bool.{true}
use mathlib.Core.Logic.{⊎_elim}
use mathlib.Core.List.{List, [], ◌∷◌, ◌++◌}
use Prim.Native.Nat.{ℕ, zero, suc, ◌+◌, ◌<◌, ◌≤◌}
use native.Mathlib.Omega.{arith}
use native.Mathlib.Numerals.{add-one}
use lib.ListN.{length, get_or, set}
use lib.Seq.{length-take-le, get_or-take, get_or-set_same, get_or-set_other, take-suc-set, take-set-lt}
use borrow.Author.Tests.{eq-eqb, ne_eqb}
use Rattle.spatial.specs.declared.Wrench.{Wrench}
use Rattle.fit.specs.Finite.{all_finite, wrench_numbers}
use Rattle.buffer.specs.declared.Stored.{Stored}
use Rattle.buffer.specs.declared.LoadBuffer.{LoadBuffer}
use Rattle.buffer.specs.Agree.{MAX, no_stored, at, mark, Sized, Agree}
use Rattle.buffer.specs.Calls.{entry, append_of, replace_of, put_of, stored}
use Rattle.buffer.specs.Map.{map_set}
use Rattle.spatial.proofs.BoolLaws.{same_or_not}
use Rattle.buffer.proofs.Decided.{room, here, decided}

-- ---- the map's step, where the link is new, and where it stands at p

set_new : (l : ℕ) (w : Wrench) (ss : List Stored) → ((k : ℕ) → k < length ss → (get_or ss k no_stored).link ≡ l → ⊥) → map_set l w ss ≡ ss ++ (entry l w ∷ [])
unfolding map_set
set_new l w [] h = refl
set_new l w (s ∷ ss) h = rw (ne_eqb s.link l (h 0 (omega arith))) (ap (λ (t : List Stored). s ∷ t) (set_new l w ss (λ k m. h (suc k) (omega arith))))

set_at : (l : ℕ) (w : Wrench) (p : ℕ) (ss : List Stored) → p < length ss → (get_or ss p no_stored).link ≡ l → ((k : ℕ) → k < p → (get_or ss k no_stored).link ≡ l → ⊥) → map_set l w ss ≡ set ss p (entry l w)
unfolding map_set
set_at l w p [] m e h = absurd (omega arith)
set_at l w zero (s ∷ ss) m e h = rw (eq-eqb s.link l e)
set_at l w (suc p) (s ∷ ss) m e h = rw (ne_eqb s.link l (h 0 (omega arith))) (ap (λ (t : List Stored). s ∷ t) (set_at l w p ss (omega arith) e (λ k k<. h (suc k) (omega arith))))

module _ (b : LoadBuffer) (z : Sized b) (a : Agree b) where
  abbrev n : ℕ
  n = b.count

  pub long : n ≤ length b.loads
  long = omega (arith, z.places, a.counts.fit, a.counts.few)

  pub stored_length : length (stored b) ≡ n
  stored_length = length-take-le n b.loads long

  pub stored_at : (i : ℕ) → i < n → get_or (stored b) i no_stored ≡ at b i
  stored_at i m = get_or-take n b.loads i no_stored m

  -- a stored link is marked at its place, and nowhere else
  pub not_at : (l i : ℕ) → i < n → mark b l ≡ MAX → (at b i).link ≡ l → ⊥
  not_at l i m e q = omega (arith, (a.kept i m).marked, ap (mark b) q, a.counts.fit, a.counts.few)

  pub only_at : (l i : ℕ) → i < n → (i ≡ mark b l → ⊥) → (at b i).link ≡ l → ⊥
  only_at l i m d q = d (sym (a.kept i m).marked ∙ ap (mark b) q)

module _ (b : LoadBuffer) (z : Sized b) (a : Agree b) (l : ℕ) (w : Wrench) (k : l < b.links) where
  -- ---- a new link
  module _ (e : mark b l ≡ MAX) where
    abbrev b' : LoadBuffer
    b' = append_of b l w

    less : b.count < b.links
    less = room b (decided b a) l k e

    inside : b.count < length b.loads
    inside = omega (arith, less, z.places, a.counts.few)

    at_new : at b' b.count ≡ entry l w
    at_new = get_or-set_same b.loads b.count (entry l w) no_stored inside

    at_old : (i : ℕ) → (i ≡ b.count → ⊥) → at b' i ≡ at b i
    at_old i d = get_or-set_other b.loads b.count i (entry l w) no_stored d

    mark_new : mark b' l ≡ b.count
    mark_new = get_or-set_same b.positions l b.count 0 (omega (arith, z.marks, a.counts.few))

    mark_old : (j : ℕ) → (j ≡ l → ⊥) → mark b' j ≡ mark b j
    mark_old j d = get_or-set_other b.positions l j b.count 0 d

    append_map : stored b' ≡ map_set l w (stored b)
    append_map =
        rw add-one (take-suc-set b.loads b.count (entry l w) inside)
        ∙ sym (set_new l w (stored b) (λ i m q. not_at b z a l i (omega (arith, stored_length b z a)) e (ap (λ (s : Stored). s.link) (sym (stored_at b z a i (omega (arith, stored_length b z a)))) ∙ q)))

    -- a place of the new buffer: the new one, or an old one
    at_case : (P : ℕ → Stored → Type 0) → P b.count (entry l w) → ((i : ℕ) → i < b.count → P i (at b i)) → (i : ℕ) → i < b.count + 1 → P i (at b' i)
    at_case P new old i m =
        ⊎_elim (λ q. subst (λ (j : ℕ). P j (at b' j)) (sym q) (subst (P b.count) (sym at_new) new)) (λ d. subst (P i) (sym (at_old i d)) (old i (omega arith))) (same_or_not i b.count)

    append_agrees : all_finite (wrench_numbers w) ≡ true → Agree b'
    append_agrees f = record {
      counts = record { some = a.counts.some; few = a.counts.few; fit = omega (arith, less) };
      kept = λ i m. record {
        finite = at_case (λ _ s. all_finite (wrench_numbers s.wrench) ≡ true) f (λ j h. (a.kept j h).finite) i m;
        inside = at_case (λ _ s. s.link < b.links) k (λ j h. (a.kept j h).inside) i m;
        marked = at_case (λ j s. mark b' s.link ≡ j) mark_new (λ j h. mark_old (at b j).link (not_at b z a l j h e) ∙ (a.kept j h).marked) i m;
      };
      others = λ j h no. other j h no;
      free = λ i m h. at_old i (λ q. omega arith) ∙ a.free i (omega arith) h;
    } where
      other : (j : ℕ) → j < 64 → ((i : ℕ) → i < b.count + 1 → (at b' i).link ≡ j → ⊥) → mark b' j ≡ MAX
      other j h none =
          mark_old j (λ q. none b.count (omega arith) (ap (λ (s : Stored). s.link) at_new ∙ sym q))
          ∙ a.others j h (λ i m q. none i (omega arith) (ap (λ (s : Stored). s.link) (at_old i (λ d. omega arith)) ∙ q))

  -- ---- a link that has a load
  module _ (e : mark b l ≡ MAX → ⊥) where
    abbrev p : ℕ
    p = mark b l

    abbrev b'' : LoadBuffer
    b'' = replace_of b l w

    its : (p < b.count) × ((at b p).link ≡ l)
    its = here b (decided b a) l k e

    at_put : at b'' p ≡ entry l w
    at_put = get_or-set_same b.loads p (entry l w) no_stored (omega (arith, its.0, long b z a))

    at_kept : (i : ℕ) → (i ≡ p → ⊥) → at b'' i ≡ at b i
    at_kept i d = get_or-set_other b.loads p i (entry l w) no_stored d

    put_case : (P : ℕ → Stored → Type 0) → P p (entry l w) → ((i : ℕ) → (i ≡ p → ⊥) → P i (at b i)) → (i : ℕ) → P i (at b'' i)
    put_case P new old i =
        ⊎_elim (λ q. subst (λ (j : ℕ). P j (at b'' j)) (sym q) (subst (P p) (sym at_put) new)) (λ d. subst (P i) (sym (at_kept i d)) (old i d)) (same_or_not i p)

    link_at : (i : ℕ) → (at b'' i).link ≡ (at b i).link
    link_at = put_case (λ i s. s.link ≡ (at b i).link) (sym its.1) (λ i _. refl)

    replace_map : stored b'' ≡ map_set l w (stored b)
    replace_map =
        take-set-lt b.count b.loads p (entry l w) its.0
        ∙ sym (set_at l w p (stored b) (omega (arith, its.0, stored_length b z a)) (ap (λ (s : Stored). s.link) (stored_at b z a p its.0) ∙ its.1)
        (λ i m q. only_at b z a l i (omega (arith, its.0)) (λ same. omega arith) (ap (λ (s : Stored). s.link) (sym (stored_at b z a i (omega (arith, its.0)))) ∙ q)))

    replace_agrees : all_finite (wrench_numbers w) ≡ true → Agree b''
    replace_agrees f = record {
      counts = record { some = a.counts.some; few = a.counts.few; fit = a.counts.fit };
      kept = λ i m. record {
        finite = put_case (λ j s. j < b.count → all_finite (wrench_numbers s.wrench) ≡ true) (λ _. f) (λ j _ h. (a.kept j h).finite) i m;
        inside = put_case (λ j s. j < b.count → s.link < b.links) (λ _. k) (λ j _ h. (a.kept j h).inside) i m;
        marked = put_case (λ j s. j < b.count → mark b s.link ≡ j) (λ _. refl) (λ j _ h. (a.kept j h).marked) i m;
      };
      others = λ j h no. a.others j h (λ i m q. no i m (link_at i ∙ q));
      free = λ i m h. at_kept i (λ q. omega (arith, its.0)) ∙ a.free i m h;
    }

  -- ---- the two together

  pub put_map : stored (put_of b l w) ≡ map_set l w (stored b)
  unfolding put_of
  put_map = ⊎_elim (λ e. rw (eq-eqb (mark b l) MAX e) (append_map e)) (λ e. rw (ne_eqb (mark b l) MAX e) (replace_map e)) (same_or_not (mark b l) MAX)

  pub put_agrees : all_finite (wrench_numbers w) ≡ true → Agree (put_of b l w)
  unfolding put_of
  put_agrees f = ⊎_elim (λ e. rw (eq-eqb (mark b l) MAX e) (append_agrees e f)) (λ e. rw (ne_eqb (mark b l) MAX e) (replace_agrees e f)) (same_or_not (mark b l) MAX)
