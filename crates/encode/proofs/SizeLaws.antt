-- How long the parts of a model's record are.
use Prim.Native.Nat.{ℕ, ◌+◌, ◌-◌, ◌*◌}
use mathlib.Core.Path.{◌≡◌, refl}
use native.Mathlib.Omega.{arith}
use lib.ListN.{length, length-append}
use Rattle.wire.specs.Big.{bytes16, bytes32}
use Rattle.wire.proofs.BytesLaws.{length_float_bytes}
use Rattle.model.specs.Joints.{joint_numbers}
use Rattle.model.specs.Links.{link_numbers}
use Rattle.model.specs.Tables.{link_at, joint_of}
use Rattle.model.specs.declared.JointEntry.{JointEntry}
use Rattle.model.specs.declared.Model.{Model}
use Rattle.encode.specs.Joined.{joined}
use Rattle.encode.specs.Models.{model_head, link_bytes, entry_bytes, joint_bytes, model_bytes}
use Rattle.encode.proofs.JoinedLaws.{length_joined}

pub length_head : (n m : ℕ) → length (model_head n m) ≡ 10
unfolding model_head bytes32 bytes16
length_head n m = refl

pub length_link : (m : Model) (l : ℕ) → length (link_bytes m l) ≡ 104
unfolding link_bytes
length_link m l = length_float_bytes (link_numbers (link_at m l))

pub length_entry : (e : JointEntry) → length (entry_bytes e) ≡ 85
unfolding entry_bytes bytes16
length_entry e = omega (arith, length_float_bytes (joint_numbers (joint_of e)))

pub length_links : (m : Model) → length (joined m.count (link_bytes m)) ≡ 104 * m.count
length_links m = length_joined m.count 104 (link_bytes m) (λ l h. length_link m l)

pub length_joints : (m : Model) → length (joined (m.count - 1) (joint_bytes m)) ≡ 85 * (m.count - 1)
length_joints m = length_joined (m.count - 1) 85 (joint_bytes m) (λ j h. length_entry _)

pub length_model : (m : Model) → length (model_bytes m) ≡ 10 + 104 * m.count + 85 * (m.count - 1)
unfolding model_bytes
length_model m = simp length-append (omega (arith, length_head m.count m.moving, length_links m, length_joints m))
