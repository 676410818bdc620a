use Rattle.wire.specs.Big.{bytes16}
use Rattle.encode.specs.Calls.{call_head}
use Rattle.encode.proofs.HeadLaws.{head_placed}
use Rattle.encode.proofs.heads.put_head.Goals as goal

pub returns : goal.returns
unfolding call_head bytes16
returns c = head_placed c.args.function c.args.mode c.args.base c.args.m c.args.k _ _ _ _ _ _ _ _ c.function_code.ensures c.mode_code.ensures c.base_table-numbers.ensures c.put_start.ensures c.put_floats.ensures c.put_u16.ensures c.put_u16-2.ensures
