-- 01, Tables and their limits: "A base state is a rotation passing the unit test, a translation, a velocity and an acceleration
-- (angular, then linear), all finite."
use Rattle.std.specs.Prelude.{◌≡◌, Bool, true, ◌&&◌, List, ◌++◌, Float, Result}
use Rattle.fit.specs.Finite.{all_finite, frame_numbers, twist_numbers}
use Rattle.fit.specs.Unit.{unit_quaternion}
use Rattle.model.specs.declared.BaseState.{BaseState}
use Rattle.refusal.specs.declared.Refusal.{Refusal}
use Rattle.refusal.specs.declared.Refusal.TheVariants.{InvalidBaseState}
use Rattle.refusal.specs.Numbers.{unless}

abbrev pub base_numbers : BaseState → List Float
base_numbers b = frame_numbers b.frame ++ (twist_numbers b.velocity ++ twist_numbers b.acceleration)

pub record GoodBase (b : BaseState) : Type 0 where
  pub finite : all_finite (base_numbers b) ≡ true
  pub rotation : unit_quaternion b.frame.rotation ≡ true

-- ---- decided

unfoldable pub good_base : BaseState → Bool
good_base b = all_finite (base_numbers b) && unit_quaternion b.frame.rotation

-- "2: the base state breaks its rule"
abbrev pub base_checked : BaseState → Result Unit Refusal
base_checked b = unless (good_base b) InvalidBaseState
