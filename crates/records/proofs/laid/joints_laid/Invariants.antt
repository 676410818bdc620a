use mathlib.Core.Path.{◌≡◌}
use Rattle.spatial.specs.All.{all}
use Rattle.records.specs.Places.{joint_place}
use Rattle.records.specs.Layout.{joint_laid}
use Rattle.records.proofs.laid.joints_laid.Given as goal

abbrev pub invariant-loop-j : goal.invariant-loop-j
invariant-loop-j l = l.good ≡ all l.j (λ i. joint_laid l.s (joint_place l.n i))
