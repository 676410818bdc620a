-- What the pass over the places finds.
use mathlib.Core.Path.{◌≡◌, refl, sym, ap}
use mathlib.Core.Bool.{Bool, true, false, ◌&&◌}
use Prim.Native.Nat.{ℕ, ◌<◌, ◌≤◌}
use lib.Dec.{leb}
use borrow.Author.Tests.{leb-true, le-leb, lt-leb}
use Rattle.buffer.specs.declared.LoadBuffer.{LoadBuffer}
use Rattle.std.proofs.Common.{Result, Ok, Err}
use Rattle.refusal.specs.declared.Refusal.{Refusal}
use Rattle.refusal.specs.declared.Refusal.TheVariants.{CorruptBuffer}
use Rattle.refusal.specs.Numbers.{unless}
use Rattle.loads.specs.Checks.{links_checked}
use Rattle.loads.proofs.CheckLaws.{passed}
use Rattle.buffer.specs.Agree.{place_agrees, counts_agree, tables_agree, tables}
use Rattle.spatial.proofs.BoolLaws.{and_left, and_right, and_both, and_false}
use Rattle.spatial.specs.All.{all}
use Rattle.spatial.proofs.AllLaws.{all_false}

pub allowed_few : (n : ℕ) → links_checked n ≡ Ok tt → n ≤ 64
unfolding links_checked
allowed_few n h = leb-true n 64 (and_right (leb 1 n) (leb n 64) (passed (leb 1 n && leb n 64) _ h))

pub allowed_some : (n : ℕ) → links_checked n ≡ Ok tt → 1 ≤ n
unfolding links_checked
allowed_some n h = leb-true 1 n (and_left (leb 1 n) (leb n 64) (passed (leb 1 n && leb n 64) _ h))

pub allowed_if : (n : ℕ) → 1 ≤ n → n ≤ 64 → links_checked n ≡ Ok tt
unfolding links_checked
allowed_if n h k = simp (le-leb 1 n h, le-leb n 64 k)

failed : (t : Bool) (r e : Refusal) → unless t r ≡ Err e → t ≡ false
failed true r e h = cc
failed false r e h = refl

pub sound_true : (b : LoadBuffer) → tables b ≡ Ok tt → tables_agree b ≡ true
unfolding tables
sound_true b e = passed (tables_agree b) _ e

pub true_sound : (b : LoadBuffer) → tables_agree b ≡ true → tables b ≡ Ok tt
unfolding tables
true_sound b e = ap (λ (t : Bool). unless t CorruptBuffer) e

module _ (b : LoadBuffer) where
  pub corrupt_links : (e : Refusal) → links_checked b.links ≡ Err e → Err CorruptBuffer ≡ tables b
  unfolding links_checked tables tables_agree counts_agree
  corrupt_links e h = simp (failed (leb 1 b.links && leb b.links 64) _ e h)

  pub corrupt_count : b.links < b.count → Err CorruptBuffer ≡ tables b
  unfolding tables tables_agree counts_agree
  corrupt_count h = simp (and_false (leb 1 b.links && leb b.links 64) (leb b.count b.links) (lt-leb _ _ h))

  pub corrupt_at : (i : ℕ) → i < 64 → place_agrees b i ≡ false → Err CorruptBuffer ≡ tables b
  unfolding tables tables_agree
  corrupt_at i l h = ap (λ (t : Bool). let r : Result Unit Refusal = unless t CorruptBuffer in r) (sym (and_false (counts_agree b) _ (all_false 64 i (place_agrees b) l h)))

  pub sound_all : links_checked b.links ≡ Ok tt → b.count ≤ b.links → all 64 (place_agrees b) ≡ true → Ok tt ≡ tables b
  unfolding links_checked tables tables_agree counts_agree
  sound_all h l e = ap (λ (t : Bool). let r : Result Unit Refusal = unless t CorruptBuffer in r) (sym (and_both _ _ (and_both _ _ (passed (leb 1 b.links && leb b.links 64) _ h) (le-leb _ _ l)) e))
