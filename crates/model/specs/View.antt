-- What the rules of 01 read of a model, however it is laid out.
use Rattle.std.specs.Prelude.{ℕ, ◌-◌, Bool, true, false}
use Rattle.model.specs.declared.Link.{Link}
use Rattle.model.specs.declared.Joint.{Joint}
use Rattle.model.specs.declared.JointType.{JointType}
use Rattle.model.specs.declared.JointType.TheVariants.{Fixed, Revolute, Prismatic}
use Rattle.model.specs.Numbers.{Numbering}

pub record View : Type 0 where
  -- links
  pub count : ℕ
  -- m
  pub moving : ℕ
  -- a joint's kind as the table has it: 0 fixed, 1 revolute, 2 prismatic
  pub code : ℕ → ℕ
  pub joint : ℕ → Joint
  pub link : ℕ → Link

-- "Joint j (from 0) leads to link j+1"
abbrev pub joint_count : View → ℕ
joint_count t = t.count - 1

abbrev pub moves : JointType → Bool
moves Fixed = false
moves Revolute = true
moves Prismatic = true

abbrev pub numbering_of : View → Numbering
numbering_of t =
    record { count = joint_count t; moving = t.moving; moves = λ j. moves (t.joint j).kind; number = λ j. (t.joint j).number }
