use Rattle.std.proofs.Common.{refl}
use Rattle.wire.specs.Big.{bytes16}
use Rattle.wire.proofs.PlacedLaws.{placed_then}
use Rattle.encode.specs.Models.{entry_bytes}
use Rattle.encode.proofs.joints.put_joint.Goals as goal

pub returns : goal.returns
unfolding entry_bytes bytes16
returns c =
    placed_then _ _ _ _ _ _ _
    (placed_then _ _ _ _ _ _ _ (placed_then _ _ _ _ _ _ _ c.put_u8.ensures c.put_u16.ensures refl) c.put_u16-2.ensures refl)
    (rw (← c.joint_table.ensures) c.put_floats.ensures) refl
