use mathlib.Core.Path.{sym}
use Rattle.records.proofs.LaidLaws.{told_laid}
use Rattle.turns.proofs.fatonjuki_turns.Goals as goal

pub turn_laid-requires : goal.turn_laid-requires
turn_laid-requires c = told_laid _ _ (sym c.in_default.ensures)
