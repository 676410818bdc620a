use mathlib.Core.Path.{refl}
use Rattle.wire.specs.Big.{bytes64, bytes32, bytes16}
use Rattle.wire.proofs.PlacedLaws.{placed_then}
use Rattle.wire.proofs.write.put_u64.Goals as goal

pub returns : goal.returns
unfolding bytes64 bytes32 bytes16
returns c = placed_then _ _ _ _ _ _ _ c.put_u32.ensures c.put_u32-2.ensures refl
