use mathlib.Core.Path.{refl}
use lib.Ieee.{of_bits}
use Rattle.fit.specs.Unit.{is_unit}
use Rattle.fit.proofs.unit.is_unit.Goals as goal

pub returns : goal.returns
unfolding is_unit of_bits
returns c = refl
