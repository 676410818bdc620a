-- Listing a buffer and summing gives each stored wrench added to +0.
use mathlib.Core.Path.{◌≡◌, refl, sym, ap, ◌∙◌, subst}
use mathlib.Core.Bool.{Bool, true, ◌&&◌}
use mathlib.Core.Logic.{⊎_elim}
use mathlib.Core.List.{List, [], ◌∷◌, map}
use Prim.Native.Nat.{ℕ, suc, ◌<◌, ◌≤◌}
use native.Mathlib.Omega.{arith}
use lib.ListN.{length, get_or, set, replicate, length-set, length-replicate, get_or-replicate}
use lib.Seq.{get_or-set_same, get_or-set_other, ext_get_or}
use borrow.Author.Tests.{eq-eqb, ne_eqb}
use Rattle.spatial.specs.declared.Vector3.{Vector3}
use Rattle.spatial.specs.declared.Wrench.{Wrench}
use Rattle.spatial.specs.Constants.{plus_zero, zero_vector, zero_wrench}
use Rattle.spatial.specs.Float.{◌⊕◌}
use Rattle.fit.specs.Finite.{is_finite, all_finite, vector_numbers, wrench_numbers}
use Rattle.spatial.specs.Vectors.{vector_sum}
use Rattle.spatial.specs.Wrenches.{wrench_sum}
use Rattle.fit.proofs.FiniteLaws.{all_append, all_three}
use Rattle.buffer.specs.declared.Stored.{Stored}
use Rattle.loads.specs.Sums.{LoadSums}
use Rattle.buffer.specs.declared.LoadBuffer.{LoadBuffer}
use Rattle.std.proofs.Common.{Ok}
use Rattle.loads.specs.Checks.{wrench_checked, sum_checked}
use Rattle.spatial.specs.Past.{no_wrench}
use Rattle.loads.specs.Sums.{start_sums, sum_step, sum_from, load_sums}
use Rattle.buffer.specs.Agree.{no_stored, at, Sized, Doubles, Held, Agree}
use Rattle.buffer.specs.Calls.{stored, load_of}
use Rattle.buffer.specs.Map.{table, sum_of}
use Rattle.spatial.proofs.BoolLaws.{and_left, and_right, and_both, same_or_not}
use Rattle.loads.proofs.CheckLaws.{known_if, wrench_finite, sum_finite}
use Rattle.loads.proofs.SumLaws.{step_taken}
use Rattle.buffer.proofs.ZeroSum.{zero_sum}
use Rattle.buffer.proofs.MapPut.{stored_length, stored_at}
use Rattle.buffer.proofs.Determined.{length_table, table_at, links_once}

-- ---- a finite wrench added to +0 is finite

vector_sum_finite : (v : Vector3) → Doubles v → all_finite (vector_numbers v) ≡ true → all_finite (vector_numbers (vector_sum zero_vector v)) ≡ true
unfolding vector_sum zero_vector
vector_sum_finite v d h =
    sym (all_three (plus_zero ⊕ v.x) (plus_zero ⊕ v.y) (plus_zero ⊕ v.z))
    ∙ and_both _ _ (and_both _ _ (zero_sum v.x d.first (and_left x y (and_left (x && y) z all))) (zero_sum v.y d.second (and_right x y (and_left (x && y) z all))))
    (zero_sum v.z d.third (and_right (x && y) z all))
  where
    x : Bool
    x = is_finite v.x

    y : Bool
    y = is_finite v.y

    z : Bool
    z = is_finite v.z

    all : (x && y) && z ≡ true
    all = all_three v.x v.y v.z ∙ h

wrench_sum_finite : (w : Wrench) → Doubles w.torque → Doubles w.force → all_finite (wrench_numbers w) ≡ true → sum_checked (wrench_sum zero_wrench w) ≡ Ok tt
unfolding wrench_sum zero_wrench
wrench_sum_finite w d e h =
    sum_finite (wrench_sum zero_wrench w)
    (all_append (vector_numbers (vector_sum zero_vector w.torque)) (vector_numbers (vector_sum zero_vector w.force))
    ∙ and_both _ _ (vector_sum_finite w.torque d (and_left (all_finite (vector_numbers w.torque)) (all_finite (vector_numbers w.force)) all))
    (vector_sum_finite w.force e (and_right (all_finite (vector_numbers w.torque)) (all_finite (vector_numbers w.force)) all)))
  where
    all : all_finite (vector_numbers w.torque) && all_finite (vector_numbers w.force) ≡ true
    all = sym (all_append (vector_numbers w.torque) (vector_numbers w.force)) ∙ h

-- ---- loads that stand at different links

record Fine (links : ℕ) (s : Stored) : Type 0 where
  inside : s.link < links
  finite : wrench_checked s.wrench ≡ Ok tt
  summed : sum_checked (wrench_sum zero_wrench s.wrench) ≡ Ok tt

record Apart (links : ℕ) (ss : List Stored) : Type 0 where
  fine : (i : ℕ) → i < length ss → Fine links (get_or ss i no_stored)
  once : (i j : ℕ) → i < length ss → j < length ss → (get_or ss i no_stored).link ≡ (get_or ss j no_stored).link → i ≡ j

rest : (links : ℕ) (s : Stored) (ss : List Stored) → Apart links (s ∷ ss) → Apart links ss
rest links s ss h = record { fine = λ i m. h.fine (suc i) (omega arith); once = λ i j m k e. omega (arith, h.once (suc i) (suc j) (omega arith) (omega arith) e) }

-- the first one's link comes no second time
first_once : (links : ℕ) (s : Stored) (ss : List Stored) → Apart links (s ∷ ss) → (i : ℕ) → i < length ss → (get_or ss i no_stored).link ≡ s.link → ⊥
first_once links s ss h i m e = omega (arith, h.once (suc i) 0 (omega arith) (omega arith) e)

-- each load put to +0, at its link
filled : List Wrench → List Stored → List Wrench
filled ws [] = ws
filled ws (s ∷ ss) = filled (set ws s.link (wrench_sum zero_wrench s.wrench)) ss

abbrev good : List Wrench → LoadSums
good ws = record { number = 0; sums = ws }

module _ (id links : ℕ) (few : links ≤ 64) where
  one : (ws : List Wrench) (s : Stored) → Fine links s → get_or ws s.link no_wrench ≡ zero_wrench → sum_step id links (good ws) (load_of id s) ≡ good (set ws s.link (wrench_sum zero_wrench s.wrench))
  one ws s h e =
      step_taken id links (good ws) (load_of id s) refl (known_if id links s.link h.inside (omega (arith, h.inside))) h.finite
      (ap (λ (w : Wrench). sum_checked (wrench_sum w s.wrench)) e ∙ h.summed)
      ∙ ap (λ (w : Wrench). good (set ws s.link (wrench_sum w s.wrench))) e

  all : (ws : List Wrench) (ss : List Stored) → Apart links ss → ((i : ℕ) → i < length ss → get_or ws (get_or ss i no_stored).link no_wrench ≡ zero_wrench) → sum_from id links (good ws) (map (load_of id) ss) ≡ good (filled ws ss)
  unfolding sum_from filled
  all ws [] h e = refl
  all ws (s ∷ ss) h e =
      ap (λ (t : LoadSums). sum_from id links t (map (load_of id) ss)) (one ws s (h.fine 0 (omega arith)) (e 0 (omega arith)))
      ∙ all (set ws s.link (wrench_sum zero_wrench s.wrench)) ss (rest links s ss h)
      (λ i m. get_or-set_other ws s.link (get_or ss i no_stored).link (wrench_sum zero_wrench s.wrench) no_wrench (first_once links s ss h i m) ∙ e (suc i) (omega arith))

-- ---- what stands at each link

none_of : (w : Wrench) (ss : List Stored) (l : ℕ) → ((i : ℕ) → i < length ss → (get_or ss i no_stored).link ≡ l → ⊥) → sum_of w ss l ≡ w
unfolding sum_of
none_of w [] l h = refl
none_of w (s ∷ ss) l h = rw (ne_eqb s.link l (h 0 (omega arith))) (none_of w ss l (λ i m. h (suc i) (omega arith)))

filled_length : (ws : List Wrench) (ss : List Stored) → length (filled ws ss) ≡ length ws
unfolding filled
filled_length ws [] = refl
filled_length ws (s ∷ ss) = filled_length (set ws s.link (wrench_sum zero_wrench s.wrench)) ss ∙ simp length-set

filled_at : (links : ℕ) (ws : List Wrench) (ss : List Stored) (l : ℕ) → Apart links ss → l < length ws → get_or (filled ws ss) l no_wrench ≡ sum_of (get_or ws l no_wrench) ss l
unfolding filled sum_of
filled_at links ws [] l h k = refl
filled_at links ws (s ∷ ss) l h k =
    filled_at links (set ws s.link v) ss l (rest links s ss h) (simp length-set k) ∙ ⊎_elim here other (same_or_not s.link l)
  where
    v : Wrench
    v = wrench_sum zero_wrench s.wrench

    here : s.link ≡ l → sum_of (get_or (set ws s.link v) l no_wrench) ss l ≡ sum_of (get_or ws l no_wrench) (s ∷ ss) l
    here e =
        ap (λ (w : Wrench). sum_of w ss l) (ap (λ (j : ℕ). get_or (set ws j v) l no_wrench) e ∙ get_or-set_same ws l v no_wrench k)
        ∙ none_of v ss l (λ i m q. first_once links s ss h i m (q ∙ sym e))
        ∙ sym (rw (eq-eqb s.link l e))

    other : (s.link ≡ l → ⊥) → sum_of (get_or (set ws s.link v) l no_wrench) ss l ≡ sum_of (get_or ws l no_wrench) (s ∷ ss) l
    other d = rw (ne_eqb s.link l d, get_or-set_other ws s.link l v no_wrench (λ e. d (sym e)))

module _ (b : LoadBuffer) (z : Sized b) (d : Held b) (a : Agree b) where
  apart : Apart b.links (stored b)
  apart = record {
    fine = λ i m. subst (Fine b.links) (sym (stored_at b z a i (below i m))) (fine_at i (below i m));
    once = λ i j m k e. links_once b a i j (below i m) (below j k) (ap (λ (s : Stored). s.link) (sym (stored_at b z a i (below i m))) ∙ e ∙ ap (λ (s : Stored). s.link) (stored_at b z a j (below j k)));
  } where
    below : (i : ℕ) → i < length (stored b) → i < b.count
    below i m = omega (arith, stored_length b z a)

    fine_at : (i : ℕ) → i < b.count → Fine b.links (at b i)
    fine_at i m = record {
      inside = (a.kept i m).inside;
      finite = wrench_finite (at b i).wrench (a.kept i m).finite;
      summed = wrench_sum_finite (at b i).wrench (d.torques i (omega (arith, a.counts.fit, a.counts.few))) (d.forces i (omega (arith, a.counts.fit, a.counts.few))) (a.kept i m).finite;
    }

  pub listing_sums : load_sums b.id b.links (map (load_of b.id) (stored b)) ≡ record { number = 0; sums = table 64 (sum_of zero_wrench (stored b)) }
  unfolding load_sums start_sums
  listing_sums =
      all b.id b.links a.counts.few (replicate 64 zero_wrench) (stored b) apart
      (λ i m. get_or-replicate 64 (get_or (stored b) i no_stored).link zero_wrench no_wrench (omega (arith, (apart.fine i m).inside, a.counts.few)))
      ∙ ap good
      (ext_get_or no_wrench (filled (replicate 64 zero_wrench) (stored b)) (table 64 (sum_of zero_wrench (stored b)))
      (long ∙ sym (length_table 64 (sum_of zero_wrench (stored b))))
      (λ l m. filled_at b.links (replicate 64 zero_wrench) (stored b) l apart (omega (arith, long))
      ∙ ap (λ (w : Wrench). sum_of w (stored b) l) (get_or-replicate 64 l zero_wrench no_wrench (omega (arith, long)))
      ∙ sym (table_at 64 l (sum_of zero_wrench (stored b)) no_wrench (omega (arith, long)))))
    where
      long : length (filled (replicate 64 zero_wrench) (stored b)) ≡ 64
      long = filled_length (replicate 64 zero_wrench) (stored b) ∙ length-replicate 64 zero_wrench
