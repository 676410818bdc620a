use mathlib.Core.Path.{refl}
use Rattle.wire.specs.Big.{float_bytes, bytes64, bytes32, bytes16}
use Rattle.wire.proofs.PlacedLaws.{placed_then}
use Rattle.encode.proofs.lists.put_pair.Goals as goal

pub returns : goal.returns
unfolding float_bytes bytes64 bytes32 bytes16
returns c = placed_then _ _ _ _ _ _ _ (placed_then _ _ _ _ _ _ _ c.put_u8.ensures c.put_f64.ensures refl) c.put_f64-2.ensures refl
