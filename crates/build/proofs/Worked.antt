-- By computation: the models of 01's worked table are good, and for each clause of "good" a model that breaks that clause alone is not.
use Prim.Native.Nat.{ℕ}
use mathlib.Core.Bool.{Bool, true, false}
use mathlib.Core.List.{[], ◌∷◌}
use mathlib.Core.Path.{◌≡◌, refl}
use lib.ListN.{set, replicate}
use lib.IntN.{pos}
use lib.Ieee.{Float, nan, inf, fin, add, mul, le}
use Rattle.spatial.specs.All.{all}
use Rattle.spatial.specs.Constants.{plus_zero, zero_vector}
use Rattle.fit.specs.Finite.{is_finite, all_finite}
use Rattle.fit.specs.Unit.{is_unit, unit_vector, unit_quaternion}
use Rattle.spatial.specs.Vectors.{scaled, dotted}
use Rattle.spatial.specs.declared.Vector3.{Vector3}
use Rattle.spatial.specs.declared.Quaternion.{Quaternion}
use Rattle.model.specs.declared.Link.{Link}
use Rattle.model.specs.declared.Joint.{Joint}
use Rattle.model.specs.declared.JointType.{JointType}
use Rattle.model.specs.declared.JointType.TheVariants.{Fixed, Revolute, Prismatic}
use Rattle.model.specs.declared.Model.{Model}
use Rattle.model.specs.Numbers.{taken, numbered_at, numbered}
use Rattle.model.specs.Links.{weighs, good_link}
use Rattle.model.specs.Joints.{axis_fits, fits, good_joint}
use Rattle.model.specs.Tables.{entry_at, kind_of, view_of}
use Rattle.model.specs.Good.{counts_fit, good_model}
use Rattle.build.specs.Build.{blank_model, with_link, with_joint}

abbrev pub one : Float
one = fin false 1 (pos 0)

abbrev pub two : Float
two = fin false 1 (pos 1)

abbrev pub vector : Float → Float → Float → Vector3
vector x y z = record { x = x; y = y; z = z }

abbrev pub zero₃ : Vector3
zero₃ = vector plus_zero plus_zero plus_zero

-- a link of this mass and centre, with no inertia
abbrev pub link : Float → Vector3 → Link
link mass center = record { mass = mass; center = center; inertia = record { x = zero₃; y = zero₃; z = zero₃ } }

abbrev pub turned : Float → Quaternion
turned w = record { w = w; i = plus_zero; j = plus_zero; k = plus_zero }

-- a joint at its parent's origin
abbrev pub joint : JointType → ℕ → ℕ → Vector3 → Joint
joint kind parent number axis =
    record { kind = kind; parent = parent; number = number; origin = record { rotation = turned one; translation = zero₃ }; axis = axis }

abbrev pub y : Vector3
y = vector plus_zero one plus_zero

-- the root alone, and the root with one link of mass 2 and centre (1, 0, 0) on this joint
abbrev pub alone : Model
alone = blank_model 0 1 0

abbrev pub arm : ℕ → Joint → Model
arm m j = with_joint (with_link (blank_model 0 2 m) 1 (link two (vector one plus_zero plus_zero))) 0 j

-- m1 with a second such branch at the root
abbrev pub branches : Joint → Model
branches j = with_joint (with_link (with_joint (with_link (blank_model 0 3 2) 1 (link two (vector one plus_zero plus_zero))) 0 (joint Revolute 0 0 y)) 2 (link two (vector one plus_zero plus_zero))) 1 j

abbrev good : Model → Bool
good m = good_model (view_of m)

abbrev pub z : Vector3
z = vector plus_zero plus_zero one

-- W1, W2, W3, W6 and W7; W4; W5; W8; a mass of -0; a fixed joint whose axis has no length
pub good_models :
    good (arm 1 (joint Revolute 0 0 y))
    ∷ good (arm 1 (joint Prismatic 0 0 z))
    ∷ good (branches (joint Revolute 0 1 y))
    ∷ good alone
    ∷ good (with_link alone 0 (link (fin true 0 (pos 0)) zero₃))
    ∷ good (arm 0 (joint Fixed 0 65535 zero₃))
    ∷ []
    ≡ true ∷ true ∷ true ∷ true ∷ true ∷ true ∷ []
unfolding good_model counts_fit numbered numbered_at taken good_joint fits axis_fits good_link weighs all all_finite is_finite unit_quaternion unit_vector is_unit dotted scaled le add mul kind_of zero_vector blank_model with_link with_joint
good_models = refl

-- the largest double
abbrev pub largest : Float
largest = fin false 9007199254740991 (pos 971)

-- m1's joint with another origin
abbrev moved : Quaternion → Vector3 → Joint
moved rotation translation =
    record { kind = Revolute; parent = 0; number = 0; origin = record { rotation = rotation; translation = translation }; axis = y }

-- m1 with another kind in the table
abbrev kind : ℕ → Model
kind code = let m = arm 1 (joint Revolute 0 0 y) in record m { joints = set m.joints 0 (record (entry_at m 0) { kind = code }) }

-- no link; 65; a kind above 2; a parent that is no earlier link; a number that is not below m; one held twice; one held by none; a
-- fixed joint that holds one; an inertia, then a translation that is not finite; a mass below 0; a moment that is not finite; an
-- origin rotation, then an axis that is not of unit length
pub bad_models :
    good (blank_model 0 0 0)
    ∷ good (blank_model 0 65 0)
    ∷ good (kind 3)
    ∷ good (arm 1 (joint Revolute 1 0 y))
    ∷ good (arm 1 (joint Revolute 0 1 y))
    ∷ good (branches (joint Revolute 0 0 y))
    ∷ good (arm 2 (joint Revolute 0 0 y))
    ∷ good (arm 0 (joint Fixed 0 0 y))
    ∷ good (with_link alone 0 (record { mass = one; center = zero₃; inertia = record { x = zero₃; y = zero₃; z = vector plus_zero plus_zero nan } }))
    ∷ good (arm 1 (moved (turned one) (vector plus_zero (inf true) plus_zero)))
    ∷ good (with_link alone 0 (link (fin true 1 (pos 0)) zero₃))
    ∷ good (with_link alone 0 (link two (vector plus_zero plus_zero largest)))
    ∷ good (arm 1 (moved (turned two) zero₃))
    ∷ good (arm 1 (joint Revolute 0 0 (vector plus_zero two plus_zero)))
    ∷ []
    ≡ replicate 14 false
unfolding good_model counts_fit numbered numbered_at taken good_joint fits axis_fits good_link weighs all all_finite is_finite unit_quaternion unit_vector is_unit dotted scaled le add mul kind_of zero_vector blank_model with_link with_joint
bad_models = refl
