-- What a passed check says, and a failed one.
use Prim.Native.Nat.{ℕ, zero, suc, ◌*◌, ◌<◌, ◌≤◌}
use mathlib.Core.Path.{◌≡◌, refl}
use mathlib.Core.Bool.{Bool, true, false, ◌&&◌}
use lib.Dec.{ltb, leb, eqb}
use Rattle.std.proofs.Common.{Ok}
use borrow.Author.Tests.{ltb-true, leb-true, eqb-true, lt-ltb, eq-eqb}
use Rattle.refusal.specs.declared.Refusal.{Refusal}
use Rattle.refusal.specs.Numbers.{number_of, unless}
use Rattle.refusal.proofs.Unique.{refused}
use Rattle.spatial.proofs.BoolLaws.{and_left, and_right}
use Rattle.spatial.specs.declared.Wrench.{Wrench}
use Rattle.fit.specs.Finite.{all_finite, wrench_numbers}
use Rattle.loads.specs.Checks.{or_else, accepted, link_checked, wrench_checked, sum_checked, table_checked, list_checked, amount_checked}

pub passed : (t : Bool) (r : Refusal) → unless t r ≡ Ok tt → t ≡ true
passed true r e = refl
passed false r e = cc

module _ (own links id link : ℕ) (h : link_checked own links id link ≡ Ok tt) where
  tests : eqb id own && (ltb link links && ltb link 64) ≡ true
  unfolding link_checked
  tests = passed _ _ h

  pub known_link : link < links
  known_link = ltb-true link links (and_left (ltb link links) _ (and_right (eqb id own) _ tests))

  pub known_small : link < 64
  known_small = ltb-true link 64 (and_right (ltb link links) _ (and_right (eqb id own) _ tests))

pub known_if : (own links link : ℕ) → link < links → link < 64 → link_checked own links own link ≡ Ok tt
unfolding link_checked
known_if own links link h k = simp (eq-eqb own own refl, lt-ltb link links h, lt-ltb link 64 k)

pub wrench_finite : (w : Wrench) → all_finite (wrench_numbers w) ≡ true → wrench_checked w ≡ Ok tt
unfolding wrench_checked
wrench_finite w h = simp h

pub finite_wrench : (w : Wrench) → wrench_checked w ≡ Ok tt → all_finite (wrench_numbers w) ≡ true
unfolding wrench_checked
finite_wrench w h = passed (all_finite (wrench_numbers w)) _ h

-- a load sum has the same test
pub sum_finite : (w : Wrench) → all_finite (wrench_numbers w) ≡ true → sum_checked w ≡ Ok tt
unfolding sum_checked
sum_finite w h = simp h

pub finite_sum : (w : Wrench) → sum_checked w ≡ Ok tt → all_finite (wrench_numbers w) ≡ true
unfolding sum_checked
finite_sum w h = passed (all_finite (wrench_numbers w)) _ h

module _ (ids links numbers : ℕ) (h : table_checked ids links numbers ≡ Ok tt) where
  parts : eqb links ids && eqb numbers (6 * ids) ≡ true
  unfolding table_checked
  parts = passed _ _ h

  pub right_links : links ≡ ids
  right_links = eqb-true links ids (and_left (eqb links ids) _ parts)

  pub right_numbers : numbers ≡ 6 * ids
  right_numbers = eqb-true numbers (6 * ids) (and_right (eqb links ids) _ parts)

pub right_list : (count places : ℕ) → list_checked count places ≡ Ok tt → count ≤ places
unfolding list_checked
right_list count places h = leb-true count places (passed (leb count places) _ h)

pub few_loads : (n : ℕ) → amount_checked n ≡ Ok tt → n ≤ 256
unfolding amount_checked
few_loads n h = leb-true n 256 (passed (leb n 256) _ h)

-- ---- a refusal's number is not 0, so it stands, and what it refused is left alone

first_of : (m n : ℕ) → (m ≡ 0 → ⊥) → or_else m n ≡ m
first_of zero n h = absurd (h refl)
first_of (suc m) n h = refl

pub stands : (r : Refusal) (n : ℕ) → or_else (number_of r) n ≡ number_of r
stands r n = first_of (number_of r) n (refused r)

old_of : {A : Type 0} (m : ℕ) (new old : A) → (m ≡ 0 → ⊥) → accepted m new old ≡ old
old_of zero new old h = absurd (h refl)
old_of (suc m) new old h = refl

pub left_alone : {A : Type 0} (r : Refusal) (new old : A) → accepted (number_of r) new old ≡ old
left_alone r new old = old_of (number_of r) new old (refused r)
