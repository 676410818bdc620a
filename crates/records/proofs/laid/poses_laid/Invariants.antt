use mathlib.Core.Path.{◌≡◌}
use Rattle.spatial.specs.All.{all}
use Rattle.records.specs.Places.{pose_place}
use Rattle.records.specs.Layout.{pose_laid}
use Rattle.records.proofs.laid.poses_laid.Given as goal

abbrev pub invariant-loop-i : goal.invariant-loop-i
invariant-loop-i l = l.good ≡ all l.i (λ k. pose_laid l.s (pose_place l.c k))
