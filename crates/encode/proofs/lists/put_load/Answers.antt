use Prim.Native.Nat.{◌+◌}
use mathlib.Core.Path.{refl, ◌∙◌}
use Rattle.wire.specs.Big.{bytes16}
use Rattle.wire.proofs.PlacedLaws.{placed_then}
use Rattle.encode.proofs.PartLaws.{part_placed}
use Rattle.encode.proofs.lists.put_load.Goals as goal

pub returns : goal.returns
unfolding bytes16
returns c = placed_then _ _ _ _ _ _ _ c.put_u16.ensures (c.put_floats.ensures ∙ part_placed c.put_u16.new.out (c.args.at + 2) c.args.from 6 c.args.numbers.now) refl
