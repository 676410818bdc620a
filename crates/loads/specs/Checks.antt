-- What each check of a load or of a list of loads answers, and how refusal numbers follow one another.
use Rattle.std.specs.Prelude.{ℕ, zero, suc, ◌*◌, ◌&&◌, ltb, leb, eqb, Result}
use Rattle.refusal.specs.declared.Refusal.{Refusal}
use Rattle.refusal.specs.declared.Refusal.TheVariants.{InvalidModel, WrongLength, NonFiniteInput, InvalidLinkId, NonFiniteLoadSum, TooManyLoads}
use Rattle.refusal.specs.Numbers.{unless}
use Rattle.spatial.specs.declared.Wrench.{Wrench}
use Rattle.fit.specs.Finite.{all_finite, wrench_numbers}

-- the first of two refusals; 0 is none
abbrev pub or_else : ℕ → ℕ → ℕ
or_else zero n = n
or_else (suc m) n = suc m

-- what stands after a call: the one value where nothing was refused, else the other
abbrev pub accepted : {A : Type 0} → ℕ → A → A → A
accepted zero new old = new
accepted (suc n) new old = old

-- "1: a new buffer's link count is not 1 to 64"
unfoldable pub links_checked : ℕ → Result Unit Refusal
links_checked n = unless (leb 1 n && leb n 64) InvalidModel

-- "6: a load's id or link is not the model's": a link is a model's where it is below the link count, which is at most 64
unfoldable pub link_checked : ℕ → ℕ → ℕ → ℕ → Result Unit Refusal
link_checked own links id link = unless (eqb id own && (ltb link links && ltb link 64)) InvalidLinkId

-- "5: a position, speed, acceleration or load is not finite"
unfoldable pub wrench_checked : Wrench → Result Unit Refusal
wrench_checked w = unless (all_finite (wrench_numbers w)) NonFiniteInput

-- "7: a load sum is not finite"
unfoldable pub sum_checked : Wrench → Result Unit Refusal
sum_checked w = unless (all_finite (wrench_numbers w)) NonFiniteLoadSum

-- "3: a list, output or lent table has the wrong length": a load table in three parts has as many links as ids, and six numbers each
unfoldable pub table_checked : ℕ → ℕ → ℕ → Result Unit Refusal
table_checked ids links numbers = unless (eqb links ids && eqb numbers (6 * ids)) WrongLength

-- and a lent table has a place for each load
unfoldable pub list_checked : ℕ → ℕ → Result Unit Refusal
list_checked count places = unless (leb count places) WrongLength

-- "10: more than 256 loads"
unfoldable pub amount_checked : ℕ → Result Unit Refusal
amount_checked n = unless (leb n 256) TooManyLoads
