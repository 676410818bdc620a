-- A model with one link or one joint set, in the layout of its tables.
use Rattle.std.specs.Prelude.{ℕ, cond, ltb, set, replicate}
use Rattle.spatial.specs.Constants.{plus_zero, zero_vector}
use Rattle.model.specs.declared.Link.{Link}
use Rattle.model.specs.declared.Joint.{Joint}
use Rattle.model.specs.declared.JointEntry.{JointEntry}
use Rattle.model.specs.declared.Model.{Model}
use Rattle.model.specs.Tables.{code_of}

-- ---- zeros

abbrev pub blank_link : Link
blank_link =
    record { mass = plus_zero; center = zero_vector; inertia = record { x = zero_vector; y = zero_vector; z = zero_vector } }

abbrev pub blank_entry : JointEntry
blank_entry =
    record {
      kind = 0;
      parent = 0;
      number = 0;
      origin = record { rotation = record { w = plus_zero; i = plus_zero; j = plus_zero; k = plus_zero }; translation = zero_vector };
      axis = zero_vector;
    }

-- tables of zeros
unfoldable pub blank_model : ℕ → ℕ → ℕ → Model
blank_model id count moving =
    record { id = id; count = count; moving = moving; links = replicate 64 blank_link; joints = replicate 63 blank_entry }

-- ---- one link or one joint set

-- a joint as its table has it
abbrev pub entry_of : Joint → JointEntry
entry_of t = record { kind = code_of t.kind; parent = t.parent; number = t.number; origin = t.origin; axis = t.axis }

-- a link past the table's end changes nothing
unfoldable pub with_link : Model → ℕ → Link → Model
with_link m l link = cond (ltb l 64) (record m { links = set m.links l link }) m

unfoldable pub with_joint : Model → ℕ → Joint → Model
with_joint m j joint = cond (ltb j 63) (record m { joints = set m.joints j (entry_of joint) }) m
