-- One load more, by what its checks find; and a table's loads one by one.
use Prim.Native.Nat.{ℕ, zero, suc, ◌+◌, ◌<◌, ◌≤◌}
use mathlib.Core.Path.{◌≡◌, refl, sym, ◌∙◌, ap}
use mathlib.Core.List.{List, [], ◌∷◌, ◌++◌}
use mathlib.Core.Logic.{⊎_elim}
use native.Mathlib.Omega.{arith}
use native.Mathlib.Numerals.{add-one}
use lib.Ieee.{Float}
use Rattle.std.proofs.Common.{Result, Ok, Err}
use lib.ListN.{length, get_or, set, take, drop, length-append, take-append-drop}
use lib.Seq.{take_all, take-suc}
use Rattle.spatial.proofs.BoolLaws.{upto}
use Rattle.spatial.specs.declared.Wrench.{Wrench}
use Rattle.loads.specs.declared.Load.{Load}
use Rattle.loads.specs.Sums.{LoadSums}
use Rattle.refusal.specs.declared.Refusal.{Refusal}
use Rattle.refusal.specs.Numbers.{number_of}
use Rattle.refusal.proofs.Unique.{refused}
use Rattle.loads.specs.Checks.{link_checked, wrench_checked, sum_checked, table_checked, amount_checked}
use Rattle.loads.proofs.CheckLaws.{stands, left_alone}
use Rattle.loads.specs.Sums.{summed, start_sums, sum_at, sum_step, sum_from, load_sums, prepared_sums, no_load, before, load_at, table_loads, flat_sums}

-- a refusal number in place of another
abbrev pub numbered : ℕ → LoadSums → LoadSums
numbered n s = record { number = n; sums = s.sums }

module _ (id links : ℕ) (s : LoadSums) (l : Load) where
  kept_at : (n : ℕ) → s.number ≡ suc n → sum_step id links s l ≡ s
  unfolding sum_step
  kept_at n e = rw e (cc)

  -- after a refusal nothing more changes
  pub step_kept : (s.number ≡ 0 → ⊥) → sum_step id links s l ≡ s
  step_kept h = go s.number refl
    where
      go : (n : ℕ) → s.number ≡ n → sum_step id links s l ≡ s
      go zero e = absurd (h e)
      go (suc n) e = kept_at n e

  module _ (e : s.number ≡ 0) where
    pub step_unknown : (r : Refusal) → link_checked id links l.id l.link ≡ Err r → sum_step id links s l ≡ numbered (number_of r) s
    unfolding sum_step
    step_unknown r h = simp (e, h, stands, left_alone)

    module _ (k : link_checked id links l.id l.link ≡ Ok tt) where
      pub step_infinite : (r : Refusal) → wrench_checked l.wrench ≡ Err r → sum_step id links s l ≡ numbered (number_of r) s
      unfolding sum_step
      step_infinite r h = simp (e, k, h, stands, left_alone)

      module _ (f : wrench_checked l.wrench ≡ Ok tt) where
        pub step_failed : (r : Refusal) → sum_checked (sum_at s l) ≡ Err r → sum_step id links s l ≡ numbered (number_of r) s
        unfolding sum_step
        step_failed r h = simp (e, k, f, h, left_alone)

        pub step_taken : sum_checked (sum_at s l) ≡ Ok tt → sum_step id links s l ≡ record { number = s.number; sums = set s.sums l.link (sum_at s l) }
        unfolding sum_step
        step_taken h = simp (e, k, f, h)

before_some : (n : ℕ) (s : LoadSums) → (n ≡ 0 → ⊥) → before n s ≡ numbered n start_sums
before_some zero s h = absurd (h refl)
before_some (suc n) s h = refl

before_refused : (r : Refusal) (s : LoadSums) → before (number_of r) s ≡ numbered (number_of r) start_sums
before_refused r s = before_some (number_of r) s (refused r)

pub start_number : start_sums.number ≡ 0
unfolding start_sums
start_number = refl

-- sums that nothing is added to yet
pub begun : (sums : List Wrench) → sums ≡ start_sums.sums → summed (Ok tt) sums ≡ start_sums
unfolding start_sums
begun sums e = rw e refl

pub sum_append : (id links : ℕ) (s : LoadSums) (ls : List Load) (l : Load) → sum_from id links s (ls ++ (l ∷ [])) ≡ sum_step id links (sum_from id links s ls) l
unfolding sum_from
sum_append id links s [] l = refl
sum_append id links s (k ∷ ls) l = sum_append id links (sum_step id links s k) ls l

module _ (id count : ℕ) (ids links : List ℕ) (ws : List Float) where
  -- the sums of the first n loads
  abbrev pub swept : ℕ → LoadSums
  swept n = sum_from id count start_sums (table_loads ids links ws n)

  pub swept_none : swept 0 ≡ start_sums
  unfolding table_loads sum_from
  swept_none = refl

  swept_suc : (n : ℕ) → swept (suc n) ≡ sum_step id count (swept n) (load_at ids links ws n)
  unfolding table_loads
  swept_suc n = sum_append id count start_sums (table_loads ids links ws n) (load_at ids links ws n)

  pub swept_more : (n : ℕ) → swept (n + 1) ≡ sum_step id count (swept n) (load_at ids links ws n)
  swept_more n = rw add-one (swept_suc n)

  -- the load that is refused decides
  pub swept_stops : (i n : ℕ) (s : LoadSums) → i < n → swept (i + 1) ≡ s → (s.number ≡ 0 → ⊥) → swept n ≡ s
  swept_stops i zero s l e h = absurd (omega arith)
  swept_stops i (suc n) s l e h =
      ⊎_elim (λ q. ap swept (sym (add-one n)) ∙ ap (λ (k : ℕ). swept (k + 1)) (sym q) ∙ e)
      (λ m. swept_suc n ∙ rw (swept_stops i n s m e h) (step_kept id count s (load_at ids links ws n) h)) (upto n i l)

  length_table : (n : ℕ) → length (table_loads ids links ws n) ≡ n
  unfolding table_loads
  length_table zero = refl
  length_table (suc n) = length-append (table_loads ids links ws n) (load_at ids links ws n ∷ []) ∙ rw (length_table n) (add-one n)

  pub flat_wrong : (r : Refusal) → table_checked (length ids) (length links) (length ws) ≡ Err r → flat_sums id count ids links ws ≡ numbered (number_of r) start_sums
  unfolding flat_sums
  flat_wrong r h = simp (h, before_refused)

  module _ (h : table_checked (length ids) (length links) (length ws) ≡ Ok tt) where
    pub flat_many : (r : Refusal) → amount_checked (length ids) ≡ Err r → flat_sums id count ids links ws ≡ numbered (number_of r) start_sums
    unfolding flat_sums prepared_sums
    flat_many r m = simp (h, length_table, m, before_refused)

    pub flat_swept : amount_checked (length ids) ≡ Ok tt → flat_sums id count ids links ws ≡ swept (length ids)
    unfolding flat_sums prepared_sums load_sums
    flat_swept m = simp (h, length_table, m)

    -- one load of the table, after sums s of those before it
    module _ (m : amount_checked (length ids) ≡ Ok tt) (i : ℕ) (inside : i < length ids) (s : LoadSums) (same : s ≡ swept i) where
      abbrev l : Load
      l = load_at ids links ws i

      -- it is refused
      pub flat_stops : (r : Refusal) (sums : List Wrench) → summed (Err r) sums ≡ sum_step id count s l → summed (Err r) sums ≡ flat_sums id count ids links ws
      flat_stops r sums e =
          sym
          (flat_swept m
          ∙ swept_stops i (length ids) (summed (Err r) sums) inside (swept_more i ∙ ap (λ (t : LoadSums). sum_step id count t l) (sym same) ∙ sym e) (refused r))

  -- an accepted table's sums are those of the loads that it means
  pub flat_prepared : (flat_sums id count ids links ws).number ≡ 0 → flat_sums id count ids links ws ≡ prepared_sums id count (table_loads ids links ws (length ids))
  unfolding flat_sums
  flat_prepared e = go (table_checked (length ids) (length links) (length ws)) refl
    where
      go : (a : Result Unit Refusal) → table_checked (length ids) (length links) (length ws) ≡ a → flat_sums id count ids links ws ≡ prepared_sums id count (table_loads ids links ws (length ids))
      go (Ok u) h = rw h
      go (Err r) h = absurd (refused r (sym (ap (λ (t : LoadSums). t.number) (flat_wrong r h)) ∙ e))

-- ---- a list that is not too long

pub many_loads : (id links : ℕ) (ls : List Load) (r : Refusal) → amount_checked (length ls) ≡ Err r → prepared_sums id links ls ≡ numbered (number_of r) start_sums
unfolding prepared_sums
many_loads id links ls r h = simp (h, before_refused)

pub walked : (id links : ℕ) (ls : List Load) (i : ℕ) → amount_checked (length ls) ≡ Ok tt → length ls ≤ i → sum_from id links start_sums (take i ls) ≡ prepared_sums id links ls
unfolding prepared_sums load_sums
walked id links ls i h e = rw (h, take_all i ls e) refl

-- the sums of a list's first loads
pub summed_none : (id links : ℕ) (s : LoadSums) → sum_from id links s [] ≡ s
unfolding sum_from
summed_none id links s = refl

pub summed_more : (id links : ℕ) (s : LoadSums) (ls : List Load) (i : ℕ) → i < length ls → sum_from id links s (take (i + 1) ls) ≡ sum_step id links (sum_from id links s (take i ls)) (get_or ls i no_load)
summed_more id links s ls i h = rw add-one (ap (sum_from id links s) (take-suc ls i no_load h) ∙ sum_append id links s (take i ls) (get_or ls i no_load))

-- the load that is refused decides
kept_on : (id links : ℕ) (s : LoadSums) (ls : List Load) → (s.number ≡ 0 → ⊥) → sum_from id links s ls ≡ s
unfolding sum_from
kept_on id links s [] h = refl
kept_on id links s (l ∷ ls) h = rw (step_kept id links s l h) (kept_on id links s ls h)

sum_both : (id links : ℕ) (s : LoadSums) (ls ms : List Load) → sum_from id links s (ls ++ ms) ≡ sum_from id links (sum_from id links s ls) ms
unfolding sum_from
sum_both id links s [] ms = refl
sum_both id links s (l ∷ ls) ms = sum_both id links (sum_step id links s l) ls ms

pub walk_stops : (id links : ℕ) (ls : List Load) (i : ℕ) (s : LoadSums) (r : Refusal) (sums : List Wrench) → amount_checked (length ls) ≡ Ok tt → i < length ls → s ≡ sum_from id links start_sums (take i ls) → summed (Err r) sums ≡ sum_step id links s (get_or ls i no_load) → summed (Err r) sums ≡ prepared_sums id links ls
unfolding prepared_sums load_sums
walk_stops id links ls i s r sums h l same e =
    let t : LoadSums = summed (Err r) sums in
    let here : sum_from id links start_sums (take (i + 1) ls) ≡ t =
    summed_more id links start_sums ls i l ∙ ap (λ (x : LoadSums). sum_step id links x (get_or ls i no_load)) (sym same) ∙ sym e in
    let whole : sum_from id links start_sums ls ≡ t =
    ap (sum_from id links start_sums) (sym (take-append-drop (i + 1) ls))
    ∙ sum_both id links start_sums (take (i + 1) ls) (drop (i + 1) ls)
    ∙ ap (λ (x : LoadSums). sum_from id links x (drop (i + 1) ls)) here
    ∙ kept_on id links t (drop (i + 1) ls) (refused r) in
    rw h (sym whole)
