use mathlib.Core.Path.{refl}
use lib.Ieee.{of_bits}
use Rattle.spatial.specs.Constants.{standard_gravity}
use Rattle.spatial.proofs.constants.standard_gravity.Goals as goal

pub returns : goal.returns
unfolding standard_gravity of_bits
returns c = refl
