-- 01, Refusal numbers and their order: when a list of loads gets each number, "10; loads in turn, each 6, 5, 7".
use Rattle.std.specs.Prelude.{ℕ, ◌*◌, ◌<◌, ◌≤◌, true, false, List, ◌⊎◌, ◌≡◌, Float, length, get_or, take}
use Rattle.fit.specs.Finite.{all_finite, wrench_numbers}
use Rattle.loads.specs.declared.Load.{Load}
use Rattle.loads.specs.Sums.{no_load, sum_at, load_sums}

-- "10: more than 256 loads"
abbrev pub TooMany : List Load → Type 0
TooMany ls = 256 < length ls

abbrev pub load_in : List Load → ℕ → Load
load_in ls i = get_or ls i no_load

-- "loads in turn": those before load i are accepted
pub record Turn (id links : ℕ) (ls : List Load) (i : ℕ) : Type 0 where
  pub few : length ls ≤ 256
  pub inside : i < length ls
  pub before : (load_sums id links (take i ls)).number ≡ 0

-- its id and its link are the model's, which has at most 64 links
pub record OfModel (id links : ℕ) (l : Load) : Type 0 where
  pub same : l.id ≡ id
  pub below : l.link < links
  pub small : l.link < 64

-- "6: a load's id or link is not the model's"
pub record Unknown (id links : ℕ) (ls : List Load) : Type 0 where
  pub at : ℕ
  pub turn : Turn id links ls at
  pub broken : OfModel id links (load_in ls at) → ⊥

-- "5: a .. load is not finite"
pub record NotFinite (id links : ℕ) (ls : List Load) : Type 0 where
  pub at : ℕ
  pub turn : Turn id links ls at
  pub known : OfModel id links (load_in ls at)
  pub broken : all_finite (wrench_numbers (load_in ls at).wrench) ≡ false

-- "7: a load sum is not finite"
pub record SumNotFinite (id links : ℕ) (ls : List Load) : Type 0 where
  pub at : ℕ
  pub turn : Turn id links ls at
  pub known : OfModel id links (load_in ls at)
  pub finite : all_finite (wrench_numbers (load_in ls at).wrench) ≡ true
  pub broken : all_finite (wrench_numbers (sum_at (load_sums id links (take at ls)) (load_in ls at))) ≡ false

-- "3: a .. lent table has the wrong length", of a table in three parts, six numbers a load
pub record Fitting (ids links : List ℕ) (numbers : List Float) : Type 0 where
  pub each : length links ≡ length ids
  pub sixes : length numbers ≡ 6 * length ids

-- the numbers that loads can get, 0 for none
abbrev pub LoadsNumber : ℕ → Type 0
LoadsNumber n = (n ≡ 0) ⊎ ((n ≡ 3) ⊎ ((n ≡ 5) ⊎ ((n ≡ 6) ⊎ ((n ≡ 7) ⊎ (n ≡ 10)))))
