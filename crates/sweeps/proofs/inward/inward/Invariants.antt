use Rattle.std.proofs.Common.{◌≡◌, ◌-◌, get_or, length}
use Rattle.model.specs.Tables.{joint_at, link_at}
use Rattle.sweeps.proofs.KernelLaws.{Inner}
use Rattle.sweeps.proofs.inward.inward.Given as goal

abbrev pub invariant-loop-j : goal.invariant-loop-j
invariant-loop-j g l =
    let kernel = g.K.Kernel in
    (length l.sums ≡ 64)
    × Inner (l.model.count - 1) (joint_at l.model) l.frames (λ k. kernel.own (link_at l.model k) (get_or l.values k kernel.none)) l.initial.sums l.sums l.output l.j
