use mathlib.Core.Path.{sym}
use Rattle.records.proofs.LaidLaws.{told_laid}
use Rattle.turns.proofs.fatonjuki_checks.Goals as goal

pub check_laid-requires : goal.check_laid-requires
check_laid-requires c = told_laid _ _ (sym c.in_default.ensures)
