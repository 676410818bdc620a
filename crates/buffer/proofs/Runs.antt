-- A run of calls answers as the map would.
use mathlib.Core.Path.{◌≡◌, refl, sym, ap, ◌∙◌}
use mathlib.Core.Logic.{⊎_elim}
use mathlib.Core.List.{List, [], ◌∷◌}
use Prim.Native.Nat.{ℕ, zero, suc, ◌<◌}
use native.Mathlib.Omega.{arith}
use lib.ListN.{length, length-set, length-replicate, get_or-replicate}
use borrow.Author.Tests.{eq-eqb, ne_eqb, lt-ltb, le-ltb}
use mathlib.Core.Bool.{true}
use Rattle.fit.specs.Finite.{all_finite, wrench_numbers}
use Rattle.spatial.specs.declared.Wrench.{Wrench}
use Rattle.buffer.specs.declared.Stored.{Stored}
use Rattle.buffer.specs.declared.LoadBuffer.{LoadBuffer}
use Rattle.std.proofs.Common.{Ok, Err}
use Rattle.refusal.specs.declared.Refusal.{Refusal}
use Rattle.refusal.specs.declared.Refusal.TheVariants.{CorruptBuffer}
use Rattle.refusal.specs.Numbers.{number}
use Rattle.refusal.proofs.Unique as Unique
use Rattle.loads.specs.Checks.{or_else, accepted, links_checked, link_checked, wrench_checked, sum_checked}
use Rattle.buffer.specs.Agree.{MAX, cleared, no_stored, at, mark, Sized, Agree, tables}
use Rattle.buffer.specs.Calls.{put_of, added_of, drop_of, set_of, add_of, remove_of, clear_of, len_of, is_empty_of, empty_buffer, new_of, stored, listed_in, list_of}
use Rattle.buffer.specs.Map.{place_of, map_set, map_added, map_remove, buffer_of}
use Rattle.buffer.specs.Runs.{Call, answer_of, after_of, answers_of, last_of, set_refused, add_refused, remove_refused, map_answer, map_after, map_answers, map_last}
use Rattle.spatial.proofs.BoolLaws.{same_or_not}
use Rattle.loads.proofs.CheckLaws.{known_link, finite_wrench, finite_sum}
use Rattle.buffer.proofs.AgreeLaws.{true_sound, allowed_few, allowed_some, allowed_if, corrupt_links}
use Rattle.buffer.proofs.Decided.{here, decided}
use Rattle.buffer.proofs.MapPut.{stored_length, stored_at, put_map, put_agrees}
use Rattle.buffer.proofs.MapRemove.{present, absent, drop_map, drop_agrees}
use Rattle.buffer.proofs.Determined.{determined}

-- ---- a number that is 0

or_left : (m n : ℕ) → or_else m n ≡ 0 → m ≡ 0
or_left zero n e = refl
or_left (suc m) n e = e

or_right : (m n : ℕ) → or_else m n ≡ 0 → n ≡ 0
or_right zero n e = e
or_right (suc m) n e = absurd (omega arith)

or_same : (m n n' : ℕ) → (m ≡ 0 → n ≡ n') → or_else m n ≡ or_else m n'
or_same zero n n' h = h refl
or_same (suc m) n n' h = refl

-- ---- one call

-- what a call leaves of a buffer: its id and link count, tables that agree, and the map ss
pub record After (b : LoadBuffer) (ss : List Stored) (next : LoadBuffer) : Type 0 where
  pub id : next.id ≡ b.id
  pub links : next.links ≡ b.links
  pub sized : Sized next
  pub agree : Agree next
  pub map : stored next ≡ ss

module _ (b : LoadBuffer) (z : Sized b) (a : Agree b) where
  -- "check 11" passes
  pub passes : tables b ≡ Ok tt
  passes = true_sound b (decided b a)

  same : After b (stored b) b
  same = record { id = refl; links = refl; sized = z; agree = a; map = refl }

  chosen : (n : ℕ) (ss : List Stored) (next : LoadBuffer) → (n ≡ 0 → After b ss next) → After b (accepted n ss (stored b)) (accepted n next b)
  chosen zero ss next h = h refl
  chosen (suc n) ss next h = same

  put_after : (l : ℕ) (w : Wrench) → l < b.links → all_finite (wrench_numbers w) ≡ true → After b (map_set l w (stored b)) (put_of b l w)
  unfolding put_of
  put_after l w k f = record {
    id = ⊎_elim (λ e. rw (eq-eqb (mark b l) MAX e)) (λ e. rw (ne_eqb (mark b l) MAX e)) (same_or_not (mark b l) MAX);
    links = ⊎_elim (λ e. rw (eq-eqb (mark b l) MAX e)) (λ e. rw (ne_eqb (mark b l) MAX e)) (same_or_not (mark b l) MAX);
    sized = ⊎_elim (λ e. rw (eq-eqb (mark b l) MAX e) (record { marks = simp length-set z.marks; places = simp length-set z.places }))
        (λ e. rw (ne_eqb (mark b l) MAX e) (record { marks = z.marks; places = simp length-set z.places })) (same_or_not (mark b l) MAX);
    agree = put_agrees b z a l w k f;
    map = put_map b z a l w k;
  }

  set_after : (id l : ℕ) (w : Wrench) → After b (map_after b.id b.links (stored b) (Call.set id l w)) (set_of b id l w).buffer
  unfolding set_of map_after
  set_after id l w =
      rw passes
      (chosen (set_refused b.id b.links id l w) (map_set l w (stored b)) (put_of b l w)
      (λ e. put_after l w (known_link _ _ _ _ (Unique.accepted (link_checked b.id b.links id l) (or_left _ _ e))) (finite_wrench w (Unique.accepted (wrench_checked w) (or_right (number (link_checked b.id b.links id l)) _ e)))))

  added_is : (l : ℕ) (w : Wrench) → l < b.links → added_of b l w ≡ map_added l w (stored b)
  unfolding added_of map_added
  added_is l w k = ⊎_elim new old (same_or_not (mark b l) MAX)
    where
      new : mark b l ≡ MAX → added_of b l w ≡ map_added l w (stored b)
      new e = rw (eq-eqb (mark b l) MAX e, le-ltb (place_of l (stored b)) (length (stored b)) (omega (arith, absent b z a l e, stored_length b z a)))

      old : (mark b l ≡ MAX → ⊥) → added_of b l w ≡ map_added l w (stored b)
      old e =
          let its : (mark b l < b.count) × ((at b (mark b l)).link ≡ l) = here b (decided b a) l k e in
          rw (ne_eqb (mark b l) MAX e, present b z a l its, lt-ltb (mark b l) (length (stored b)) (omega (arith, its.0, stored_length b z a)), stored_at b z a (mark b l) its.0)

  known : (id l : ℕ) (w : Wrench) → set_refused b.id b.links id l w ≡ 0 → l < b.links
  known id l w e = known_link _ _ _ _ (Unique.accepted (link_checked b.id b.links id l) (or_left _ _ e))

  add_number : (id l : ℕ) (w : Wrench) → or_else (set_refused b.id b.links id l w) (number (sum_checked (added_of b l w))) ≡ add_refused b.id b.links (stored b) id l w
  add_number id l w = or_same (set_refused b.id b.links id l w) _ _ (λ e. ap (λ (v : Wrench). number (sum_checked v)) (added_is l w (known id l w e)))

  add_after : (id l : ℕ) (w : Wrench) → After b (map_after b.id b.links (stored b) (Call.add id l w)) (add_of b id l w).buffer
  unfolding add_of map_after
  add_after id l w =
      rw (passes, add_number id l w)
      (chosen (add_refused b.id b.links (stored b) id l w) (map_set l (map_added l w (stored b)) (stored b)) (put_of b l (added_of b l w)) taken)
    where
      taken : add_refused b.id b.links (stored b) id l w ≡ 0 → After b (map_set l (map_added l w (stored b)) (stored b)) (put_of b l (added_of b l w))
      taken e =
          let k : l < b.links = known id l w (or_left _ _ e) in
          rw (added_is l w k) (put_after l (map_added l w (stored b)) k (finite_sum _ (Unique.accepted _ (or_right (set_refused b.id b.links id l w) _ e))))

  drop_after : (l : ℕ) → l < b.links → After b (map_remove l (stored b)) (drop_of b l)
  unfolding drop_of
  drop_after l k = record {
    id = ⊎_elim (λ e. rw (eq-eqb (mark b l) MAX e)) (λ e. rw (ne_eqb (mark b l) MAX e)) (same_or_not (mark b l) MAX);
    links = ⊎_elim (λ e. rw (eq-eqb (mark b l) MAX e)) (λ e. rw (ne_eqb (mark b l) MAX e)) (same_or_not (mark b l) MAX);
    sized = ⊎_elim (λ e. rw (eq-eqb (mark b l) MAX e) z)
        (λ e. rw (ne_eqb (mark b l) MAX e) (record { marks = simp length-set z.marks; places = simp length-set z.places })) (same_or_not (mark b l) MAX);
    agree = drop_agrees b z a l k;
    map = drop_map b z a l k;
  }

  remove_after : (id l : ℕ) → After b (map_after b.id b.links (stored b) (Call.remove id l)) (remove_of b id l).buffer
  unfolding remove_of map_after
  remove_after id l =
      rw passes
      (chosen (remove_refused b.id b.links id l) (map_remove l (stored b)) (drop_of b l)
      (λ e. drop_after l (known_link _ _ _ _ (Unique.accepted (link_checked b.id b.links id l) e))))

-- a new buffer holds the empty map
module _ (id links : ℕ) (h : links_checked links ≡ Ok tt) where
  pub new_sized : Sized (empty_buffer id links)
  unfolding empty_buffer
  new_sized = record { marks = length-replicate 64 MAX; places = length-replicate 64 cleared }

  pub new_agrees : Agree (empty_buffer id links)
  unfolding empty_buffer
  new_agrees = record {
    counts = record { some = allowed_some links h; few = allowed_few links h; fit = omega arith };
    kept = λ i m. absurd (omega arith);
    others = λ l k none. get_or-replicate 64 l MAX 0 k;
    free = λ i m k. get_or-replicate 64 i cleared no_stored k;
  }

-- ---- each call on tables that agree is the map's step, and leaves them agreeing

module _ (b : LoadBuffer) (z : Sized b) (a : Agree b) where
  empty_after : After b [] (empty_buffer b.id b.links)
  unfolding empty_buffer
  empty_after =
      let h : links_checked b.links ≡ Ok tt = allowed_if b.links a.counts.some a.counts.few in
      record { id = refl; links = refl; sized = new_sized b.id b.links h; agree = new_agrees b.id b.links h; map = refl }

  clear_after : After b [] (clear_of b).buffer
  unfolding clear_of
  clear_after = rw (passes b z a) empty_after

  pub step_after : (c : Call) → After b (map_after b.id b.links (stored b) c) (after_of b c)
  unfolding after_of map_after
  step_after (Call.set id l w) = set_after b z a id l w
  step_after (Call.add id l w) = add_after b z a id l w
  step_after (Call.remove id l) = remove_after b z a id l
  step_after Call.clear = clear_after
  step_after Call.len = same b z a
  step_after Call.is_empty = same b z a
  step_after (Call.list places) = same b z a

  pub step_answer : (c : Call) → answer_of b c ≡ map_answer b.id b.links (stored b) c
  unfolding answer_of map_answer set_of add_of remove_of clear_of len_of is_empty_of list_of listed_in
  step_answer (Call.set id l w) = rw (passes b z a)
  step_answer (Call.add id l w) = rw (passes b z a, add_number b z a id l w)
  step_answer (Call.remove id l) = rw (passes b z a)
  step_answer Call.clear = rw (passes b z a)
  step_answer Call.len = rw (passes b z a, stored_length b z a)
  step_answer Call.is_empty = rw (passes b z a, stored_length b z a)
  step_answer (Call.list places) = rw (passes b z a, stored_length b z a)

-- ---- a run from tables that agree

pub run_answers : (b : LoadBuffer) → Sized b → Agree b → (cs : List Call) → answers_of b cs ≡ map_answers b.id b.links (stored b) cs
unfolding answers_of map_answers
run_answers b z a [] = refl
run_answers b z a (c ∷ cs) =
    let t : After b (map_after b.id b.links (stored b) c) (after_of b c) = step_after b z a c in
    rw (step_answer b z a c, run_answers (after_of b c) t.sized t.agree cs, t.id, t.links, t.map)

pub run_after : (b : LoadBuffer) → Sized b → Agree b → (cs : List Call) → After b (map_last b.id b.links (stored b) cs) (last_of b cs)
unfolding last_of map_last
run_after b z a [] = same b z a
run_after b z a (c ∷ cs) =
    let t : After b (map_after b.id b.links (stored b) c) (after_of b c) = step_after b z a c in
    let u : After (after_of b c) (map_last (after_of b c).id (after_of b c).links (stored (after_of b c)) cs) (last_of (after_of b c) cs) = run_after (after_of b c) t.sized t.agree cs in
    record { id = u.id ∙ t.id; links = u.links ∙ t.links; sized = u.sized; agree = u.agree; map = u.map ∙ rw (t.id, t.links, t.map) }

-- ---- from a new buffer

module _ (id links : ℕ) (h : links_checked links ≡ Ok tt) (cs : List Call) where
  new_after : After (new_of id links).buffer (map_last id links [] cs) (last_of (new_of id links).buffer cs)
  unfolding new_of empty_buffer
  new_after = run_after (empty_buffer id links) (new_sized id links h) (new_agrees id links h) cs

  -- any run of calls answers as the map would
  pub run_as_map : answers_of (new_of id links).buffer cs ≡ map_answers id links [] cs
  unfolding new_of empty_buffer
  run_as_map = run_answers (empty_buffer id links) (new_sized id links h) (new_agrees id links h) cs

  -- its tables are those of the map
  pub run_tables : last_of (new_of id links).buffer cs ≡ buffer_of id links (map_last id links [] cs)
  unfolding new_of empty_buffer
  run_tables =
      determined (last_of (new_of id links).buffer cs) new_after.sized new_after.agree
      ∙ rw (new_after.id, new_after.links, new_after.map)

  -- check 11 never fires
  pub run_passes : tables (last_of (new_of id links).buffer cs) ≡ Ok tt
  run_passes = passes (last_of (new_of id links).buffer cs) new_after.sized new_after.agree

-- after a refused `new` it fires at once
pub new_refused : (id links : ℕ) (e : Refusal) → links_checked links ≡ Err e → tables (new_of id links).buffer ≡ Err CorruptBuffer
unfolding new_of empty_buffer
new_refused id links e h = sym (corrupt_links (new_of id links).buffer e h)
