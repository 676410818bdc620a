use mathlib.Core.Path.{refl}
use Rattle.wire.specs.Big.{bytes32, bytes16}
use Rattle.wire.proofs.PlacedLaws.{placed_then}
use Rattle.encode.specs.Models.{model_head}
use Rattle.encode.proofs.models.put_head.Goals as goal

pub returns : goal.returns
unfolding model_head bytes32 bytes16
returns c = placed_then _ _ _ _ _ _ _ (placed_then _ _ _ _ _ _ _ (placed_then _ _ _ _ _ _ _ (placed_then _ _ _ _ _ _ _ c.put_u32.ensures c.put_u8.ensures refl) c.put_u8-2.ensures refl) c.put_u16.ensures refl) c.put_u16-2.ensures refl
