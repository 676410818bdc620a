use lib.Ieee.{of_bits}
use Rattle.spatial.specs.Rotations.{rotated}
use Rattle.spatial.proofs.rotations.rotate.Goals as goal

pub returns : goal.returns
unfolding rotated of_bits
returns c = cc
