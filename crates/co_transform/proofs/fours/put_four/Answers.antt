use Rattle.std.proofs.Common.{arith}
use Rattle.co_transform.proofs.Leaves.{in_four, second_written, third_written, fourth_written, four_set}
use Rattle.co_transform.proofs.fours.put_four.Goals as goal

pub bounds-x-0 : goal.bounds-x-0
bounds-x-0 c = in_four _ 0 c.requires.whole (omega arith)

pub bounds-x-1 : goal.bounds-x-1
bounds-x-1 c = second_written c.args.x.now _ c.requires.whole

pub bounds-x-2 : goal.bounds-x-2
bounds-x-2 c = third_written c.args.x.now _ _ c.requires.whole

pub bounds-x-3 : goal.bounds-x-3
bounds-x-3 c = fourth_written c.args.x.now _ _ _ c.requires.whole

pub returns : goal.returns
returns c = four_set c.args.x.now _ _ _ _ c.requires.whole
