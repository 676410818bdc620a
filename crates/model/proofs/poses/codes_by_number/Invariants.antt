use Rattle.std.proofs.Common.{◌≡◌, length}
use Rattle.model.specs.Marks.{numbering_to, kind_in, Coded}
use Rattle.model.proofs.poses.codes_by_number.Given as goal

abbrev pub invariant-loop-j : goal.invariant-loop-j
invariant-loop-j l = (length l.codes ≡ 64) × Coded (numbering_to l.model l.count) (kind_in l.model) l.j l.codes
