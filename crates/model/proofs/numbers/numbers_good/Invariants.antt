use Rattle.std.proofs.Common.{◌≡◌, length}
use Rattle.spatial.specs.All.{all}
use Rattle.model.specs.Marks.{numbering_to}
use Rattle.model.specs.Numbers.{numbered_at}
use Rattle.model.proofs.NumberLaws.{Marked}
use Rattle.model.proofs.numbers.numbers_good.Given as goal

abbrev pub invariant-loop-j : goal.invariant-loop-j
invariant-loop-j l =
    let t = numbering_to l.model l.count in
    (length l.held ≡ 64) × (l.good ≡ all l.j (numbered_at t)) × Marked t l.j l.held
