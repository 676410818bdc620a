use Rattle.std.proofs.Common.{◌≡◌, [], get_or, length}
use Rattle.model.proofs.WalkLaws.{Walked}
use Rattle.dynamics.specs.Run.{Fit}
use Rattle.dynamics.specs.Runs.{run_of}
use Rattle.sweeps.specs.Swept.{Swept, steps_of}
use Rattle.sweeps.proofs.outward.outward.Given as goal

abbrev pub invariant-loop-j : goal.invariant-loop-j
invariant-loop-j g l =
    let kernel = g.K.Kernel in
    let run = run_of l.model l.positions [] [] [] in
    (length l.frames ≡ 63)
    × (length l.values ≡ 64)
    × Walked l.model l.positions l.good l.zero l.next l.j
    × (Fit (run_of l.model [] [] [] []) l.model.moving
    → Swept run (get_or l.initial.values 0 kernel.none) (steps_of (kernel.step l.kernel) run) kernel.none l.frames l.values l.j)
