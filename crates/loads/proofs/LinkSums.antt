-- The sum at a link is the sum of its own loads' wrenches, in list order, from +0.
use Prim.Native.Nat.{ℕ, zero, suc, ◌<◌}
use mathlib.Core.Bool.{cond}
use mathlib.Core.List.{List, [], ◌∷◌, flat_map, foldl, foldl-append}
use mathlib.Core.Logic.{⊎_elim}
use mathlib.Core.Path.{◌≡◌, refl, sym, ap, ◌∙◌}
use native.Mathlib.Omega.{arith}
use lib.Dec.{eqb, leb}
use lib.ListN.{length, get_or, set, length-set, length-replicate, get_or-replicate}
use lib.Seq.{get_or-set_same, get_or-set_other}
use borrow.Author.Tests.{eq-eqb, ne_eqb}
use Rattle.spatial.specs.declared.Wrench.{Wrench}
use Rattle.spatial.specs.Constants.{zero_wrench}
use Rattle.spatial.specs.Past.{no_wrench}
use Rattle.spatial.specs.Wrenches.{wrench_sum}
use Rattle.spatial.proofs.BoolLaws.{by_bool, same_or_not}
use Rattle.loads.specs.declared.Load.{Load}
use Rattle.loads.specs.Sums.{LoadSums}
use Rattle.loads.specs.Checks.{accepted, amount_checked}
use Rattle.loads.specs.Sums.{start_sums, sum_at, sum_step, sum_from, load_sums, prepared_sums}
use Rattle.loads.proofs.When.{stays}

module _ (id links l : ℕ) where
  -- a load's wrench, where it is on link l
  abbrev here : Load → List Wrench
  here k = cond (eqb k.link l) (k.wrench ∷ []) []

  abbrev sum : LoadSums → Wrench
  sum s = get_or s.sums l no_wrench

  step_taken : (s : LoadSums) (k : Load) → (sum_step id links s k).number ≡ 0 → (sum_step id links s k).sums ≡ set s.sums k.link (sum_at s k)
  unfolding sum_step
  step_taken s k e = ap (λ (n : ℕ). accepted n (set s.sums k.link (sum_at s k)) s.sums) e

  set_sum : (s : LoadSums) (k : Load) → l < length s.sums → get_or (set s.sums k.link (sum_at s k)) l no_wrench ≡ foldl wrench_sum (sum s) (here k)
  set_sum s k h =
      ⊎_elim
      (λ e. rw (eq-eqb k.link l e, e) (get_or-set_same s.sums l (wrench_sum (sum s) k.wrench) no_wrench h))
      (λ d. rw (ne_eqb k.link l d) (get_or-set_other s.sums k.link l (sum_at s k) no_wrench (λ e. d (sym e))))
      (same_or_not k.link l)

  accepted_before : (ls : List Load) (s : LoadSums) → (sum_from id links s ls).number ≡ 0 → s.number ≡ 0
  accepted_before ls s e = go s.number refl
    where
      go : (n : ℕ) → s.number ≡ n → s.number ≡ 0
      go zero q = q
      go (suc n) q = absurd (omega (arith, stays id links n ls s q))

  sum_from_folds : (ls : List Load) (s : LoadSums) → l < length s.sums → (sum_from id links s ls).number ≡ 0 → sum (sum_from id links s ls) ≡ foldl wrench_sum (sum s) (flat_map here ls)
  unfolding sum_from flat_map
  sum_from_folds [] s h e = refl
  sum_from_folds (k ∷ ls) s h e =
      let taken : (sum_step id links s k).sums ≡ set s.sums k.link (sum_at s k) = step_taken s k (accepted_before ls (sum_step id links s k) e) in
      sum_from_folds ls (sum_step id links s k) (rw taken (simp length-set h)) e
      ∙ ap (λ (w : Wrench). foldl wrench_sum w (flat_map here ls)) (ap (λ (ws : List Wrench). get_or ws l no_wrench) taken ∙ set_sum s k h)
      ∙ sym (foldl-append wrench_sum (sum s) (here k) (flat_map here ls))

  start_sum : l < 64 → (ls : List Load) → (load_sums id links ls).number ≡ 0 → sum (load_sums id links ls) ≡ foldl wrench_sum zero_wrench (flat_map here ls)
  unfolding load_sums start_sums
  start_sum h ls e =
      sum_from_folds ls start_sums (omega (arith, length-replicate 64 zero_wrench)) e
      ∙ ap (λ (w : Wrench). foldl wrench_sum w (flat_map here ls)) (get_or-replicate 64 l zero_wrench no_wrench h)

-- "Load sums start at +0 and go in list order, link by link"
pub link_sum : (id links : ℕ) (ls : List Load) → (prepared_sums id links ls).number ≡ 0 → (l : ℕ) → l < 64 → get_or (prepared_sums id links ls).sums l no_wrench ≡ foldl wrench_sum zero_wrench (flat_map (λ (k : Load). cond (eqb k.link l) (k.wrench ∷ []) []) ls)
unfolding prepared_sums amount_checked
link_sum id links ls e l h =
    ⊎_elim
    (λ few. rw few (start_sum id links l h ls (rw few at e)))
    (λ many. absurd (let q = rw many at e in omega arith))
    (by_bool (leb (length ls) 256))
