-- A layout is kept just when all that `Laid` names holds.
use Prim.Native.Nat.{ℕ, ◌+◌}
use Rattle.std.proofs.Common.{Ok}
use mathlib.Core.Path.{◌≡◌, sym}
use mathlib.Core.Bool.{true, false, ◌&&◌}
use mathlib.Core.List.{List}
use mathlib.Core.Logic.{⊎_elim}
use lib.Dec.{eqb, leb}
use lib.ListN.{length}
use borrow.Author.Tests.{leb-true, eqb-true, le-leb, eq-eqb}
use Rattle.spatial.proofs.BoolLaws.{and_left, and_right, and_both, by_bool}
use Rattle.records.specs.Places.{link_count, moving, call_place, call_length, load_count}
use Rattle.records.specs.Layout.{counted, model_laid, call_laid, laid, layout_checked, LaidBytes}

pub laid_says : (s : List ℕ) → laid s ≡ true → LaidBytes s
unfolding laid counted
laid_says s h =
    let n = link_count s in
    let m = moving s in
    let c = call_place n in
    let k = load_count s c in
    let a = counted n m k in
    let b = eqb (length s) (c + (4 + call_length m k)) in
    let p = model_laid s n && call_laid s c m k in
    let counts = and_left a (b && p) h in
    let rest = and_right a (b && p) h in
    let c2 = and_right (leb 1 n) _ counts in
    let c3 = and_right (leb n 64) _ c2 in
    let q = and_right b p rest in
    record {
      some = leb-true 1 n (and_left (leb 1 n) _ counts);
      few = leb-true n 64 (and_left (leb n 64) _ c2);
      moves = leb-true m 63 (and_left (leb m 63) _ c3);
      loads = leb-true k 256 (and_right (leb m 63) _ c3);
      size = eqb-true (length s) _ (and_left b p rest);
      model = and_left (model_laid s n) _ q;
      call = and_right (model_laid s n) _ q;
    }

pub says_laid : (s : List ℕ) → LaidBytes s → laid s ≡ true
unfolding laid counted
says_laid s h =
    and_both _ _ (and_both _ _ (le-leb _ _ h.some) (and_both _ _ (le-leb _ _ h.few) (and_both _ _ (le-leb _ _ h.moves) (le-leb _ _ h.loads))))
    (and_both _ _ (eq-eqb _ _ h.size) (and_both _ _ h.model h.call))

pub unlaid : (s : List ℕ) → (LaidBytes s → ⊥) → false ≡ laid s
unlaid s h = ⊎_elim (λ e. absurd (h (laid_says s e))) sym (by_bool (laid s))

pub told_laid : (s : List ℕ) (u : Unit) → layout_checked s ≡ Ok u → LaidBytes s
told_laid s u h = ⊎_elim (laid_says s) (λ e. let z = rw e at h in cc) (by_bool (laid s))
