use lib.Ieee.{of_bits}
use Rattle.dynamics.specs.Motions.{sliding}
use Rattle.dynamics.proofs.motions.sliding.Goals as goal

pub returns : goal.returns
unfolding sliding of_bits
returns c = cc
