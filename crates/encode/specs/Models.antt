-- 01, Byte records, kind 1: the record of a model.
use Rattle.std.specs.Prelude.{ℕ, ◌-◌, Bool, not, ◌&&◌, ◌||◌, List, ◌∷◌, ◌++◌, eqb, ltb, leb}
use Rattle.spatial.specs.All.{all}
use Rattle.model.specs.Joints.{joint_numbers}
use Rattle.model.specs.Links.{link_numbers}
use Rattle.model.specs.Tables.{joint_of, link_at, entry_at}
use Rattle.model.specs.declared.JointEntry.{JointEntry}
use Rattle.model.specs.declared.Model.{Model}
use Rattle.wire.specs.Big.{bytes16, bytes32, float_bytes}
use Rattle.records.specs.Places.{model_length}
use Rattle.encode.specs.Joined.{joined}

-- "a 4-byte length of what follows, then version byte 1, then kind"; "link count (2 bytes), m (2)"
unfoldable pub model_head : ℕ → ℕ → List ℕ
model_head n m = bytes32 (model_length n) ++ (1 ∷ 1 ∷ bytes16 n) ++ bytes16 m

-- "13 floats each (inertia by rows)"
unfoldable pub link_bytes : Model → ℕ → List ℕ
link_bytes m l = float_bytes (link_numbers (link_at m l))

-- "kind (1 ..), parent (2), moving number (2, 65535 when fixed), 10 floats"
unfoldable pub entry_bytes : JointEntry → List ℕ
entry_bytes e = (e.kind ∷ bytes16 e.parent) ++ bytes16 e.number ++ float_bytes (joint_numbers (joint_of e))

abbrev pub joint_bytes : Model → ℕ → List ℕ
joint_bytes m j = entry_bytes (entry_at m j)

-- "then all links .. then all joints"
unfoldable pub model_bytes : Model → List ℕ
model_bytes m = model_head m.count m.moving ++ joined m.count (link_bytes m) ++ joined (m.count - 1) (joint_bytes m)

-- "0 fixed, 1 revolute, 2 prismatic"; numbers of two bytes, a fixed joint's 65535
unfoldable pub joint_writable : JointEntry → Bool
joint_writable e = leb e.kind 2 && ((not (eqb e.kind 0) || eqb e.number 65535) && (ltb e.parent 65536 && ltb e.number 65536))

unfoldable pub joints_writable : Model → Bool
joints_writable m = all (m.count - 1) (λ j. joint_writable (entry_at m j))

-- "A link count of 0 or above 64, a model's m above 63 .. fits no layout"; "The id is 0"
unfoldable pub counts_writable : ℕ → ℕ → ℕ → Bool
counts_writable id n m = eqb id 0 && (leb 1 n && (leb n 64 && leb m 63))

-- any other model has no record
unfoldable pub writable : Model → Bool
writable m = counts_writable m.id m.count m.moving && joints_writable m
