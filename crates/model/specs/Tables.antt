-- How a model's tables are read: what the rules read of each entry.
use Rattle.std.specs.Prelude.{ℕ, cond, eqb, get_or}
use Rattle.std.specs.Float.{nan}
use Rattle.spatial.specs.Past.{no_vector, no_matrix, no_frame}
use Rattle.model.specs.declared.Link.{Link}
use Rattle.model.specs.declared.Joint.{Joint}
use Rattle.model.specs.declared.JointEntry.{JointEntry}
use Rattle.model.specs.declared.JointType.{JointType}
use Rattle.model.specs.declared.JointType.TheVariants.{Fixed, Revolute, Prismatic}
use Rattle.model.specs.declared.Model.{Model}
use Rattle.model.specs.View.{View}

-- "0 fixed, 1 revolute, 2 prismatic"
unfoldable pub kind_of : ℕ → JointType
kind_of code = cond (eqb code 0) Fixed (cond (eqb code 1) Revolute Prismatic)

abbrev pub code_of : JointType → ℕ
code_of Fixed = 0
code_of Revolute = 1
code_of Prismatic = 2

-- the joint that an entry means
abbrev pub joint_of : JointEntry → Joint
joint_of e = record { kind = kind_of e.kind; parent = e.parent; number = e.number; origin = e.origin; axis = e.axis }

-- what stands past the end of each table
abbrev pub no_link : Link
no_link = record { mass = nan; center = no_vector; inertia = no_matrix }

abbrev pub no_entry : JointEntry
no_entry = record { kind = 0; parent = 0; number = 0; origin = no_frame; axis = no_vector }

abbrev pub link_at : Model → ℕ → Link
link_at m l = get_or m.links l no_link

abbrev pub entry_at : Model → ℕ → JointEntry
entry_at m j = get_or m.joints j no_entry

abbrev pub joint_at : Model → ℕ → Joint
joint_at m j = joint_of (entry_at m j)

abbrev pub view_of : Model → View
view_of m = record { count = m.count; moving = m.moving; code = λ j. (entry_at m j).kind; joint = joint_at m; link = link_at m }
