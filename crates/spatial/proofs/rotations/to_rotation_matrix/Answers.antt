use mathlib.Core.Path.{refl}
use lib.Ieee.{of_bits}
use Rattle.spatial.specs.Rotations.{matrix_of}
use Rattle.spatial.proofs.rotations.to_rotation_matrix.Goals as goal

pub returns : goal.returns
unfolding matrix_of of_bits
returns c = refl
