-- A quick test of a model and its positions, joint by joint. It is no rule of 01: what passes is good by 01's rules (WalkLaws).
use Rattle.std.specs.Prelude.{ℕ, ◌+◌, ◌≡◌, Bool, true, not, cond, ◌&&◌, List, eqb, leb, ltb, get_or, Ok}
use Rattle.std.specs.Float.Ieee.{le}
use Rattle.spatial.specs.declared.Vector3.{Vector3}
use Rattle.spatial.specs.Constants.{plus_zero}
use Rattle.spatial.specs.Vectors.{scaled}
use Rattle.fit.specs.Finite.{is_finite}
use Rattle.fit.specs.Unit.{unit_pair, unit_vector, unit_quaternion}
use Rattle.model.specs.declared.Link.{Link}
use Rattle.model.specs.declared.Joint.{Joint}
use Rattle.model.specs.declared.Model.{Model}
use Rattle.model.specs.declared.Pose.{Pose}
use Rattle.model.specs.declared.Pose.TheVariants.{Half, Slide}
use Rattle.model.specs.Tables.{joint_at, view_of}
use Rattle.model.specs.Good.{good_model}
use Rattle.model.specs.Numbers.{no_number}
use Rattle.model.specs.Poses.{no_pose, positions_checked}
use Rattle.model.specs.Products.{times_each}
use Rattle.model.specs.View.{numbering_of}

-- joint j hangs on a link before it, and has its place in lists of m numbers where it moves
unfoldable pub stays_in : ℕ → ℕ → Joint → ℕ → Bool
stays_in j code t moving = cond (eqb code 0) (leb t.parent j) (leb t.parent j && ltb t.number moving)

-- a moving joint's entry: a pair of unit length at a revolute joint, a finite distance at any other
abbrev pub entry_passes : ℕ → Pose → Bool
entry_passes code (Half s c) = eqb code 1 && unit_pair s c
entry_passes code (Slide x) = not (eqb code 1) && is_finite x

-- what is asked of every joint, and of the link that it leads to
unfoldable pub sound : ℕ → Joint → Link → Bool
sound code t l = (leb code 2 && le plus_zero l.mass) && unit_quaternion t.origin.rotation

-- a fixed joint has no number; a moving one has the next, an axis of unit length and its entry
unfoldable pub joint_passes : ℕ → Joint → Link → ℕ → List Pose → Bool
joint_passes code t l next positions =
    cond (eqb code 0)
    (sound code t l && eqb t.number no_number)
    (((sound code t l && eqb t.number next) && unit_vector t.axis) && entry_passes code (get_or positions t.number no_pose))

unfoldable pub next_after : ℕ → ℕ → ℕ
next_after code next = cond (eqb code 0) next (next + 1)

-- a product that stays 0 as long as it meets finite numbers: with a link's
unfoldable pub times_link : Vector3 → Link → Vector3
times_link zero l = times_each (times_each (times_each (times_each zero (scaled l.center l.mass)) l.inertia.x) l.inertia.y) l.inertia.z

-- and with a joint's
unfoldable pub times_joint : Vector3 → Joint → Vector3
times_joint zero t = times_each (times_each zero t.origin.translation) t.axis

-- what a walk past all joints shows: the model and m positions are good by the rules
pub record Passed (m : Model) (ps : List Pose) : Type 0 where
  pub model : good_model (view_of m) ≡ true
  pub positions : positions_checked (numbering_of (view_of m)) (λ j. (joint_at m j).kind) ps m.moving ≡ Ok tt
