use Rattle.std.proofs.Common.{arith}
use Rattle.model.proofs.GoodLaws.{good_counts}
use Rattle.outcome.proofs.checks.check_start.Goals as goal

pub overflow_sub-model : goal.overflow_sub-model
overflow_sub-model c =
    let known = good_counts _ c.in_ok-check_model.ensures in
    omega (arith, known.some)

pub check_positions-requires : goal.check_positions-requires
check_positions-requires c =
    let known = good_counts _ c.in_ok-check_model.ensures in
    (omega (arith, known.some, known.few), omega (arith, known.least, known.few))
