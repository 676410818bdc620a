-- 01, Tables and their limits: what a good joint is, but for its number.
use Rattle.std.specs.Prelude.{ℕ, ◌≤◌, ◌≡◌, Bool, true, not, ◌&&◌, ◌||◌, List, ◌++◌, leb, Float}
use Rattle.fit.specs.Finite.{all_finite, vector_numbers, frame_numbers}
use Rattle.fit.specs.Unit.{unit_vector, unit_quaternion}
use Rattle.model.specs.declared.Joint.{Joint}
use Rattle.model.specs.View.{moves}

abbrev pub joint_numbers : Joint → List Float
joint_numbers t = frame_numbers t.origin ++ vector_numbers t.axis

-- joint j, whose kind the table gives as a number: "its parent link is at most j"; "each origin rotation and each moving
-- joint's axis passes the unit test"
pub record GoodJoint (j code : ℕ) (t : Joint) : Type 0 where
  pub kind : code ≤ 2
  pub parent : t.parent ≤ j
  pub finite : all_finite (joint_numbers t) ≡ true
  pub rotation : unit_quaternion t.origin.rotation ≡ true
  pub axis : moves t.kind ≡ true → unit_vector t.axis ≡ true

-- ---- decided

-- a fixed joint's axis may have any length
unfoldable pub axis_fits : Joint → Bool
axis_fits t = not (moves t.kind) || unit_vector t.axis

-- all but that the numbers are finite
unfoldable pub fits : ℕ → ℕ → Joint → Bool
fits j code t = ((leb code 2 && leb t.parent j) && unit_quaternion t.origin.rotation) && axis_fits t

unfoldable pub good_joint : ℕ → ℕ → Joint → Bool
good_joint j code t = all_finite (joint_numbers t) && fits j code t
