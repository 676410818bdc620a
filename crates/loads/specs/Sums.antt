-- 01: "Load sums start at +0 and go in list order, link by link"; "loads in turn, each 6, 5, 7".
use Rattle.std.specs.Prelude.{ℕ, zero, suc, List, [], ◌∷◌, ◌++◌, Float, length, get_or, set, replicate, Result}
use Rattle.spatial.specs.declared.Wrench.{Wrench}
use Rattle.spatial.specs.Constants.{zero_wrench}
use Rattle.spatial.specs.Past.{no_wrench}
use Rattle.spatial.specs.Tables.{wrench_at}
use Rattle.spatial.specs.Wrenches.{wrench_sum}
use Rattle.loads.specs.declared.Load.{Load}
use Rattle.refusal.specs.Numbers.{number}
use Rattle.refusal.specs.declared.Refusal.{Refusal}
use Rattle.loads.specs.Checks.{or_else, accepted, link_checked, wrench_checked, sum_checked, amount_checked, table_checked}

-- a refusal number, 0 for none, and each link's load sum
pub record LoadSums : Type 0 where
  pub number : ℕ
  pub sums : List Wrench

-- what adding loads answers, and the sums after it
abbrev pub summed : Result Unit Refusal → List Wrench → LoadSums
summed answer sums = record { number = number answer; sums = sums }

-- "starting at +0", all 64 places, nothing refused
unfoldable pub start_sums : LoadSums
start_sums = record { number = 0; sums = replicate 64 zero_wrench }

-- what stands past a list's end
abbrev pub no_load : Load
no_load = record { id = 0; link = 0; wrench = no_wrench }

-- the sum that a load makes at its link
abbrev pub sum_at : LoadSums → Load → Wrench
sum_at s l = wrench_sum (get_or s.sums l.link no_wrench) l.wrench

-- "each 6, 5, 7", after an earlier load's refusal
abbrev pub step_number : ℕ → ℕ → LoadSums → Load → ℕ
step_number id links s l =
    or_else s.number
    (or_else (number (link_checked id links l.id l.link)) (or_else (number (wrench_checked l.wrench)) (number (sum_checked (sum_at s l)))))

-- one load more; a refusal changes no sum
unfoldable pub sum_step : ℕ → ℕ → LoadSums → Load → LoadSums
sum_step id links s l =
    record {
      number = step_number id links s l;
      sums = accepted (step_number id links s l) (set s.sums l.link (sum_at s l)) s.sums;
    }

unfoldable pub sum_from : ℕ → ℕ → LoadSums → List Load → LoadSums
sum_from id links s [] = s
sum_from id links s (l ∷ ls) = sum_from id links (sum_step id links s l) ls

-- the first refusal among the loads, and the sums of all links
unfoldable pub load_sums : ℕ → ℕ → List Load → LoadSums
load_sums id links ls = sum_from id links start_sums ls

-- a refusal before any load is looked at
abbrev pub before : ℕ → LoadSums → LoadSums
before zero s = s
before (suc n) s = record { number = suc n; sums = start_sums.sums }

-- "10; loads in turn"
unfoldable pub prepared_sums : ℕ → ℕ → List Load → LoadSums
prepared_sums id links ls = before (number (amount_checked (length ls))) (load_sums id links ls)

abbrev pub load_at : List ℕ → List ℕ → List Float → ℕ → Load
load_at ids links ws i = record { id = get_or ids i 0; link = get_or links i 0; wrench = wrench_at ws i }

-- the loads that three tables mean, the first n
unfoldable pub table_loads : List ℕ → List ℕ → List Float → ℕ → List Load
table_loads ids links ws zero = []
table_loads ids links ws (suc n) = table_loads ids links ws n ++ (load_at ids links ws n ∷ [])

-- the sums of a table in three parts: 3 before 10
unfoldable pub flat_sums : ℕ → ℕ → List ℕ → List ℕ → List Float → LoadSums
flat_sums id count ids links ws =
    before (number (table_checked (length ids) (length links) (length ws)))
    (prepared_sums id count (table_loads ids links ws (length ids)))
