use Rattle.std.proofs.Common.{arith, rules}
use Rattle.std.proofs.lemmas.Iterator.{YieldsList-from_chars}
use Rattle.std.proofs.lemmas.Iterator.Consumers.{YieldsList-turn, YieldsList-end}
use Rattle.std.proofs.lemmas.List.{length_push, length-set}
use Rattle.std.specs.Str.{chars}
use Rattle.cq_scope.specs.Fits.{one_fits}
use Rattle.cq_scope.proofs.InRow.{passed_next, passed_last}
use Rattle.cq_scope.proofs.part.pass.Goals as goal

pub bounds-row-at : goal.bounds-row-at
bounds-row-at c =
    let t = YieldsList-turn (YieldsList-from_chars c.args.name.now c.utf8.name cc) c.loop-c.yielded _ c.loop-c.yielded_by _ _ c.in-Some.c c.in-Some.is c.next.ensures.steps in
    omega (arith, t.0, c.loop-c.invariant.counted, c.loop-c.invariant.room)

pub bounds-row-at-in-loop-c : goal.bounds-row-at-in-loop-c
bounds-row-at-in-loop-c c =
    let t = YieldsList-turn (YieldsList-from_chars c.args.name.now c.utf8.name cc) c.loop-c.yielded _ c.loop-c.yielded_by _ _ c.in-Some.c c.in-Some.is c.next.ensures.steps in
    omega (arith, t.0, c.loop-c.invariant.counted, c.loop-c.invariant.room)

pub loop-c-preserved : goal.loop-c-preserved
loop-c-preserved c =
    let t = YieldsList-turn (YieldsList-from_chars c.args.name.now c.utf8.name cc) c.loop-c.yielded _ c.loop-c.yielded_by _ _ c.in-Some.c c.in-Some.is c.next.ensures.steps in
    record {
      counted = omega (arith, length_push c.loop-c.yielded c.in-Some.c, c.loop-c.invariant.counted);
      room = omega (arith, length-set c.loop-c.row c.loop-c.at c.loop-c.was_set, c.loop-c.invariant.room);
      so_far = passed_next (one_fits c.args.symbol) (chars c.args.name.now) c.loop-c.row _ c.loop-c.at _ c.loop-c.was_set _ c.in-Some.c c.loop-c.invariant.counted t.0 c.loop-c.invariant.room t.1 (search rules) c.loop-c.invariant.so_far;
    }

pub bounds-row-at-2 : goal.bounds-row-at-2
bounds-row-at-2 c =
    let t = YieldsList-end (YieldsList-from_chars c.args.name.now c.utf8.name cc) c.loop-c.yielded _ c.loop-c.yielded_by _ _ c.in-None.is c.next.ensures.steps in
    omega (arith, t.1, c.loop-c.invariant.counted, c.loop-c.invariant.room)

pub returns : goal.returns
returns c =
    let t = YieldsList-end (YieldsList-from_chars c.args.name.now c.utf8.name cc) c.loop-c.yielded _ c.loop-c.yielded_by _ _ c.in-None.is c.next.ensures.steps in
    passed_last (one_fits c.args.symbol) (chars c.args.name.now) c.loop-c.row _ c.loop-c.at _ c.loop-c.was_set c.loop-c.invariant.counted t.1 c.loop-c.invariant.room c.loop-c.invariant.so_far
