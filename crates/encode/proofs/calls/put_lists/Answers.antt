use Rattle.encode.specs.Calls.{asked}
use Rattle.encode.proofs.ListsLaws.{lists_placed}
use Rattle.encode.proofs.calls.put_lists.Goals as goal

pub returns : goal.returns
returns c =
    lists_placed (asked c.args.call.now) _ _ _ _ _ c.requires.0 c.put_poses.ensures c.put_floats.ensures c.put_floats-2.ensures c.put_loads.ensures
