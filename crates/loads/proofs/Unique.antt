-- Two results of adding loads in a lent table of sums, or of clearing it, that meet its promise are equal.
use Rattle.std.proofs.Common.{◌≡◌, List, ap, Result}
use Rattle.refusal.specs.declared.Refusal.{Refusal}
use Rattle.refusal.proofs.Unique.{one_answer}
use Rattle.spatial.specs.declared.Wrench.{Wrench}
use Rattle.spatial.proofs.Unique.{unique}
use Rattle.loads.specs.Sums.{LoadSums, start_sums, summed}

pub summed_unique : (x : LoadSums) (r r' : Result Unit Refusal) (s s' : List Wrench) → summed r s ≡ x → summed r' s' ≡ x → (r ≡ r') × (s ≡ s')
summed_unique x r r' s s' m m' =
    (one_answer r r' (ap (λ (y : LoadSums). y.number) (unique m m')), ap (λ (y : LoadSums). y.sums) (unique m m'))

pub cleared_unique : (s s' : List Wrench) → s ≡ start_sums.sums → s' ≡ start_sums.sums → s ≡ s'
cleared_unique s s' = unique
