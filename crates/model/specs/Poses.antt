-- 01, Tables and their limits: "The pair (s, c) belongs to a revolute joint and passes the unit test; the distance belongs to a
-- prismatic one." And the order: positions 3, then entry by entry 5 before 4.
use Rattle.std.specs.Prelude.{ℕ, zero, suc, Bool, true, false, cond, List, [], ◌∷◌, ◌≡◌, eqb, get_or, Float, Result, Ok}
use Rattle.std.specs.Float.{nan}
use Rattle.fit.specs.Finite.{all_finite}
use Rattle.fit.specs.Unit.{unit_pair}
use Rattle.model.specs.declared.JointType.{JointType}
use Rattle.model.specs.declared.JointType.TheVariants.{Fixed, Revolute, Prismatic}
use Rattle.model.specs.declared.Pose.{Pose}
use Rattle.model.specs.declared.Pose.TheVariants.{Half, Slide}
use Rattle.refusal.specs.declared.Refusal.{Refusal}
use Rattle.refusal.specs.declared.Refusal.TheVariants.{WrongLength, InvalidPose, NonFiniteInput}
use Rattle.refusal.specs.Numbers.{or_else, unless}
use Rattle.model.specs.Numbers.{Numbering, holds}

-- s before c
abbrev pub pose_numbers : Pose → List Float
pose_numbers (Half s c) = s ∷ c ∷ []
pose_numbers (Slide x) = x ∷ []

-- of its joint's kind, and of unit length
abbrev pub pose_fits : JointType → Pose → Bool
pose_fits Fixed (Half s c) = false
pose_fits Fixed (Slide x) = false
pose_fits Revolute (Half s c) = unit_pair s c
pose_fits Revolute (Slide x) = false
pose_fits Prismatic (Half s c) = false
pose_fits Prismatic (Slide x) = true

-- a pose entry that is good at a joint of this kind
pub record GoodPose (kind : JointType) (p : Pose) : Type 0 where
  pub finite : all_finite (pose_numbers p) ≡ true
  pub fits : pose_fits kind p ≡ true

-- ---- decided

-- "5 before 4"
unfoldable pub pose_checked : JointType → Pose → Result Unit Refusal
pose_checked kind p = or_else (unless (all_finite (pose_numbers p)) NonFiniteInput) (unless (pose_fits kind p) InvalidPose)

-- the first refusal below n
unfoldable pub first : ℕ → (ℕ → Result Unit Refusal) → Result Unit Refusal
first zero f = Ok tt
first (suc n) f = or_else (first n f) (f n)

-- the kind of the joint that holds n, of those before j; fixed where none does
unfoldable pub kind_of_number : Numbering → (ℕ → JointType) → ℕ → ℕ → JointType
kind_of_number t kind zero n = Fixed
kind_of_number t kind (suc j) n = cond (holds t n j) (kind j) (kind_of_number t kind j n)

-- what stands past an array's end
abbrev pub no_pose : Pose
no_pose = Half nan nan

-- a list of count entries, for joints of these kinds
unfoldable pub positions_checked : Numbering → (ℕ → JointType) → List Pose → ℕ → Result Unit Refusal
positions_checked t kind ps count =
    or_else (unless (eqb count t.moving) WrongLength) (first t.moving (λ n. pose_checked (kind_of_number t kind t.count n) (get_or ps n no_pose)))
