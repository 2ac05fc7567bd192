use Rattle.std.proofs.Common.{arith, rules}
use Rattle.std.proofs.lemmas.Iterator.Consumers.{YieldsList-turn, YieldsList-end}
use Rattle.std.proofs.lemmas.List.{length_push, length-set}
use Rattle.cq_scope.specs.Fits.{name_fits}
use Rattle.cq_names.specs.Names.{parts}
use Rattle.cq_scope.proofs.Counts.{yields_parts, short_next}
use Rattle.cq_scope.proofs.InRow.{passed_next, passed_last}
use Rattle.cq_scope.proofs.parts.pass.Goals as goal

pub bounds-row-at : goal.bounds-row-at
bounds-row-at c =
    let t = YieldsList-turn (yields_parts c.args.path.now c.into_iter-name-iterator.ensures.into_iter_gives c.split-name-items.ensures.text c.split-name-items.ensures.has_more c.split-name-items.ensures.pattern) c.loop-name.yielded _ c.loop-name.yielded_by _ _ c.in-Some.name c.in-Some.is c.next.ensures.steps in
    omega (arith, t.0, c.loop-name.invariant.counted, c.loop-name.invariant.room)

pub goes_on-is_set-requires : goal.goes_on-is_set-requires
goes_on-is_set-requires c =
    let t = YieldsList-turn (yields_parts c.args.path.now c.into_iter-name-iterator.ensures.into_iter_gives c.split-name-items.ensures.text c.split-name-items.ensures.has_more c.split-name-items.ensures.pattern) c.loop-name.yielded _ c.loop-name.yielded_by _ _ c.in-Some.name c.in-Some.is c.next.ensures.steps in
    let short = short_next c.args.path.now _ c.in-Some.name.now t.0 t.1 in
    omega (arith, short, c.loop-name.invariant.places, c.requires.places)

pub bounds-row-at-in-loop-name : goal.bounds-row-at-in-loop-name
bounds-row-at-in-loop-name c =
    let t = YieldsList-turn (yields_parts c.args.path.now c.into_iter-name-iterator.ensures.into_iter_gives c.split-name-items.ensures.text c.split-name-items.ensures.has_more c.split-name-items.ensures.pattern) c.loop-name.yielded _ c.loop-name.yielded_by _ _ c.in-Some.name c.in-Some.is c.next.ensures.steps in
    omega (arith, t.0, c.loop-name.invariant.counted, c.loop-name.invariant.room)

pub loop-name-preserved : goal.loop-name-preserved
loop-name-preserved c =
    let t = YieldsList-turn (yields_parts c.args.path.now c.into_iter-name-iterator.ensures.into_iter_gives c.split-name-items.ensures.text c.split-name-items.ensures.has_more c.split-name-items.ensures.pattern) c.loop-name.yielded _ c.loop-name.yielded_by _ _ c.in-Some.name c.in-Some.is c.next.ensures.steps in
    record {
      counted = omega (arith, length_push c.loop-name.yielded c.in-Some.name, c.loop-name.invariant.counted);
      room = omega (arith, length-set c.loop-name.row c.loop-name.at c.loop-name.was_set, c.loop-name.invariant.room);
      places = omega (arith, c.goes_on-is_set.ensures.same_room, c.loop-name.invariant.places);
      so_far = passed_next (name_fits c.args.part.now) (parts c.args.path.now) c.loop-name.row _ c.loop-name.at _ c.loop-name.was_set _ c.in-Some.name.now c.loop-name.invariant.counted t.0 c.loop-name.invariant.room t.1 (search rules) c.loop-name.invariant.so_far;
    }

pub bounds-row-at-2 : goal.bounds-row-at-2
bounds-row-at-2 c =
    let t = YieldsList-end (yields_parts c.args.path.now c.into_iter-name-iterator.ensures.into_iter_gives c.split-name-items.ensures.text c.split-name-items.ensures.has_more c.split-name-items.ensures.pattern) c.loop-name.yielded _ c.loop-name.yielded_by _ _ c.in-None.is c.next.ensures.steps in
    omega (arith, t.1, c.loop-name.invariant.counted, c.loop-name.invariant.room)

pub returns-clause-passed : goal.returns-clause-passed
returns-clause-passed c =
    let t = YieldsList-end (yields_parts c.args.path.now c.into_iter-name-iterator.ensures.into_iter_gives c.split-name-items.ensures.text c.split-name-items.ensures.has_more c.split-name-items.ensures.pattern) c.loop-name.yielded _ c.loop-name.yielded_by _ _ c.in-None.is c.next.ensures.steps in
    passed_last (name_fits c.args.part.now) (parts c.args.path.now) c.loop-name.row _ c.loop-name.at _ c.loop-name.was_set c.loop-name.invariant.counted t.1 c.loop-name.invariant.room c.loop-name.invariant.so_far
