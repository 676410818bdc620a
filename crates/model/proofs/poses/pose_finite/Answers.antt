use Rattle.fit.proofs.FiniteLaws.{all_one, all_two}
use Rattle.model.proofs.poses.pose_finite.Goals as goal

pub returns-in-Half : goal.returns-in-Half
returns-in-Half c = rw (c.in-Half.is, ← all_two) (cc)

pub returns-in-Slide : goal.returns-in-Slide
returns-in-Slide c = rw (c.in-Slide.is, all_one) (cc)
