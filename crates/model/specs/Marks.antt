-- How the checks keep what they know of each number: one place a number below m, and place 63 for all others.
use Rattle.std.specs.Prelude.{ℕ, ◌<◌, ◌≡◌, cond, List, ltb, get_or}
use Rattle.model.specs.View.{moves}
use Rattle.model.specs.Tables.{kind_of, joint_at}
use Rattle.model.specs.Numbers.{Numbering}
use Rattle.model.specs.Poses.{kind_of_number}
use Rattle.model.specs.declared.JointType.{JointType}
use Rattle.model.specs.declared.Model.{Model}

-- the numbering of the first joints of a model
abbrev pub numbering_to : Model → ℕ → Numbering
numbering_to m count =
    record { count = count; moving = m.moving; moves = λ j. moves (joint_at m j).kind; number = λ j. (joint_at m j).number }

abbrev pub kind_in : Model → ℕ → JointType
kind_in m j = (joint_at m j).kind

unfoldable pub slot_of : ℕ → ℕ → ℕ
slot_of number moving = cond (ltb number moving) number 63

-- each number's place has the kind of the joint that holds it, of those before j
abbrev pub Coded : Numbering → (ℕ → JointType) → ℕ → List ℕ → Type 0
Coded t kind j codes = (n : ℕ) → n < t.moving → kind_of (get_or codes n 0) ≡ kind_of_number t kind j n
