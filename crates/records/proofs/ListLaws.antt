-- A list f 0, f 1, .. and the front of a table filled with them; the sums of loads so listed.
use Prim.Native.Nat.{ℕ, zero, suc, ◌+◌, ◌<◌, ◌≤◌}
use mathlib.Core.Logic.{⊎_elim}
use Rattle.std.specs.Prelude.{Ok, Err}
use Rattle.refusal.specs.declared.Refusal.{Refusal}
use Rattle.refusal.proofs.Unique.{refused}
use Rattle.spatial.specs.declared.Wrench.{Wrench}
use Rattle.spatial.proofs.BoolLaws.{upto}
use mathlib.Core.Path.{◌≡◌, refl, ap, sym, ◌∙◌}
use mathlib.Core.List.{List, [], ◌∷◌, ◌++◌}
use native.Mathlib.Numerals.{add-one}
use native.Mathlib.Omega.{arith}
use lib.ListN.{length, take, replicate, length-set, length-replicate}
use lib.Seq.{take-suc-set}
use borrow.Author.Tests.{le-leb}
use Rattle.spatial.specs.Listed.{list_of}
use Rattle.spatial.proofs.ListedLaws.{length_list_of}
use Rattle.wire.specs.Fill.{fill}
use Rattle.loads.specs.Checks.{amount_checked}
use Rattle.loads.specs.Sums.{summed, start_sums, sum_step, sum_from, load_sums, prepared_sums}
use Rattle.loads.specs.declared.Load.{Load}
use Rattle.loads.specs.Sums.{LoadSums}
use Rattle.loads.proofs.SumLaws.{sum_append, step_kept}

length_fill : {A : Type 0} (f : ℕ → A) (base : List A) (n : ℕ) → length (fill f base n) ≡ length base
unfolding fill
length_fill f base zero = refl
length_fill f base (suc n) = length-set (fill f base n) n (f n) ∙ length_fill f base n

-- the front of a filled table
take_fill : {A : Type 0} (f : ℕ → A) (base : List A) (n : ℕ) → n ≤ length base → take n (fill f base n) ≡ list_of n f
unfolding fill list_of
take_fill f base zero h = refl
take_fill f base (suc n) h =
    take-suc-set (fill f base n) n (f n) (omega (arith, length_fill f base n, h)) ∙ ap (λ (xs : List _). xs ++ (f n ∷ [])) (take_fill f base n (omega arith))

pub front_is : {A : Type 0} (f : ℕ → A) (size n : ℕ) (z : A) (xs : List A) → xs ≡ fill f (replicate size z) n → n ≤ size → take n xs ≡ list_of n f
front_is f size n z xs e h = rw e (take_fill f (replicate size z) n (omega (arith, length-replicate size z)))

-- ---- load sums: a loop's start, a turn, a load that is refused, its end

pub sums_start : (id links : ℕ) (f : ℕ → Load) (sums : List Wrench) → sums ≡ start_sums.sums → summed (Ok tt) sums ≡ load_sums id links (list_of 0 f)
unfolding load_sums sum_from list_of start_sums
sums_start id links f sums e = rw e refl

sums_suc : (id links n : ℕ) (f : ℕ → Load) → load_sums id links (list_of (suc n) f) ≡ sum_step id links (load_sums id links (list_of n f)) (f n)
unfolding load_sums list_of
sums_suc id links n f = sum_append id links start_sums (list_of n f) (f n)

pub sums_turn : (id links n : ℕ) (f : ℕ → Load) (s t : LoadSums) → s ≡ load_sums id links (list_of n f) → t ≡ sum_step id links s (f n) → t ≡ load_sums id links (list_of (n + 1) f)
sums_turn id links n f s t e q = q ∙ ap (λ (x : LoadSums). sum_step id links x (f n)) e ∙ rw add-one (sym (sums_suc id links n f))

stays : (id links i n : ℕ) (f : ℕ → Load) (t : LoadSums) → i < n → load_sums id links (list_of (i + 1) f) ≡ t → (t.number ≡ 0 → ⊥) → load_sums id links (list_of n f) ≡ t
stays id links i zero f t l e h = absurd (omega arith)
stays id links i (suc n) f t l e h =
    ⊎_elim
    (λ q. ap (λ (k : ℕ). load_sums id links (list_of k f)) (sym (add-one n)) ∙ ap (λ (k : ℕ). load_sums id links (list_of (k + 1) f)) (sym q) ∙ e)
    (λ m. sums_suc id links n f ∙ rw (stays id links i n f t m e h) (step_kept id links t (f n) h))
    (upto n i l)

few : (id links k : ℕ) (f : ℕ → Load) → k ≤ 256 → prepared_sums id links (list_of k f) ≡ load_sums id links (list_of k f)
unfolding prepared_sums amount_checked
few id links k f h = rw (length_list_of k f, le-leb k 256 h) refl

pub sums_stop : (id links i k : ℕ) (f : ℕ → Load) (s : LoadSums) (e : Refusal) (sums : List Wrench) → i < k → k ≤ 256 → s ≡ load_sums id links (list_of i f) → summed (Err e) sums ≡ sum_step id links s (f i) → summed (Err e) sums ≡ prepared_sums id links (list_of k f)
sums_stop id links i k f s e sums l h q t =
    sym (few id links k f h ∙ stays id links i k f (summed (Err e) sums) l (sym (sums_turn id links i f s (summed (Err e) sums) q t)) (refused e))

pub sums_end : (id links n k : ℕ) (f : ℕ → Load) (s : LoadSums) → s ≡ load_sums id links (list_of n f) → n ≡ k → k ≤ 256 → s ≡ prepared_sums id links (list_of k f)
sums_end id links n k f s e q h = e ∙ ap (λ (i : ℕ). load_sums id links (list_of i f)) q ∙ sym (few id links k f h)
