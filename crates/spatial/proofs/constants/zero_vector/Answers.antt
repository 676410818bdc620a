use mathlib.Core.Path.{refl}
use lib.Ieee.{of_bits}
use Rattle.spatial.specs.Constants.{zero_vector}
use Rattle.spatial.proofs.constants.zero_vector.Goals as goal

pub returns : goal.returns
unfolding zero_vector of_bits
returns c = refl
