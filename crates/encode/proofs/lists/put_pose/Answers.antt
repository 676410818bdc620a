use lib.Ieee.{of_bits}
use Rattle.encode.proofs.lists.put_pose.Goals as goal

pub returns-in-Half : goal.returns-in-Half
returns-in-Half c = rw c.in-Half.is c.put_pair.ensures

pub returns-in-Slide : goal.returns-in-Slide
unfolding of_bits
returns-in-Slide c = rw c.in-Slide.is c.put_pair-in-Slide.ensures
