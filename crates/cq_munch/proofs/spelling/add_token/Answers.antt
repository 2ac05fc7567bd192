-- the first unit starts before the end of the last, and that is within the text
use Rattle.std.proofs.Common.{arith}
use Rattle.cq_munch.proofs.Orders.{InOrder-ends, InOrder-from}
use Rattle.cq_munch.proofs.spelling.add_token.Goals as goal

pub overflow_add-len : goal.overflow_add-len
overflow_add-len c = let ends = InOrder-ends c.args.reached.end c.args.units.now _ c.requires.in_order c.requires.some in omega (arith, ends.1, ends.2, c.requires.short)

pub overflow_sub-len : goal.overflow_sub-len
overflow_sub-len c = let ends = InOrder-ends c.args.reached.end c.args.units.now _ c.requires.in_order c.requires.some in omega (arith, ends.1, ends.2, c.requires.short)

pub overflow_add-end : goal.overflow_add-end
overflow_add-end c = let ends = InOrder-ends c.args.reached.end c.args.units.now _ c.requires.in_order c.requires.some in omega (arith, ends.1, ends.2, c.requires.short)

pub feed_further-opening-requires-clause-within : goal.feed_further-opening-requires-clause-within
feed_further-opening-requires-clause-within c = let ends = InOrder-ends c.args.reached.end c.args.units.now _ c.requires.in_order c.requires.some in omega (arith, ends.1, ends.2, c.requires.short)

pub overflow_sub-end : goal.overflow_sub-end
overflow_sub-end c = let ends = InOrder-ends c.args.reached.end c.args.units.now _ c.requires.in_order c.requires.some in omega (arith, ends.1, ends.2, c.requires.short)

pub feed_further-closing-requires-clause-ordered : goal.feed_further-closing-requires-clause-ordered
feed_further-closing-requires-clause-ordered c = let ends = InOrder-ends c.args.reached.end c.args.units.now _ c.requires.in_order c.requires.some in omega (arith, ends.1, ends.2, c.requires.short)

pub feed_further-closing-requires-clause-within : goal.feed_further-closing-requires-clause-within
feed_further-closing-requires-clause-within c = let ends = InOrder-ends c.args.reached.end c.args.units.now _ c.requires.in_order c.requires.some in omega (arith, ends.1, ends.2, c.requires.short)

pub of_bytes-requires-clause-end_is : goal.of_bytes-requires-clause-end_is
of_bytes-requires-clause-end_is c = let ends = InOrder-ends c.args.reached.end c.args.units.now _ c.requires.in_order c.requires.some in omega (arith, ends.1, ends.2, c.requires.short)

pub of_bytes-requires-clause-within : goal.of_bytes-requires-clause-within
of_bytes-requires-clause-within c = let ends = InOrder-ends c.args.reached.end c.args.units.now _ c.requires.in_order c.requires.some in omega (arith, ends.1, ends.2, c.requires.short)

pub of_bytes-requires-clause-in_order : goal.of_bytes-requires-clause-in_order
of_bytes-requires-clause-in_order c = InOrder-from 0 c.args.reached.end c.args.units.now _ (omega arith) c.requires.in_order
