use Rattle.std.proofs.Common.{◌≡◌, ◌+◌, ◌<◌, ◌==◌, length, take, true, refl, sym, ap, ◌∙◌, arith}
use Rattle.std.proofs.lemmas.Iterator.{YieldsList-from_chars}
use Rattle.std.proofs.lemmas.Iterator.Consumers.{YieldsList-turn, YieldsList-end}
use Rattle.std.proofs.lemmas.List.{length_push, length-take-le}
use Rattle.std.specs.Str.{chars}
use Rattle.cq_scope.specs.Fits.{one_fits, part_fits}
use Rattle.cq_scope.proofs.Counts.{few_chars}
use Rattle.cq_scope.proofs.Reaching.{walk_begun, walk_on, walk_ended, length-begun, length-advanced}
use Rattle.cq_scope.proofs.part.part_fits.Goals as goal

pub overflow_add-row : goal.overflow_add-row
overflow_add-row c = omega (arith, few_chars c.args.name.now c.utf8.name, c.requires, c.char_count-count.ensures)

pub slice_bounds-row-end : goal.slice_bounds-row-end
slice_bounds-row-end c = omega (arith, few_chars c.args.name.now c.utf8.name, c.requires, c.char_count-count.ensures)

pub slice_bounds-row-end-2 : goal.slice_bounds-row-end-2
slice_bounds-row-end-2 c = let few = few_chars c.args.name.now c.utf8.name in sym (length-take-le (c.char_count-count.result + 1) c.args.places.now (omega (arith, few, c.requires, c.char_count-count.ensures)))

pub loop-symbol-init : goal.loop-symbol-init
loop-symbol-init c =
    let places = c.args.places.now in
    let count = c.char_count-count.result in
    let few = few_chars c.args.name.now c.utf8.name in
    let room : length c.begin.new.row ≡ count + 1 = ap length c.begin.ensures ∙ length-begun true (take (count + 1) places) ∙ length-take-le (count + 1) places (omega (arith, few, c.requires, c.char_count-count.ensures)) in
    record {
      counted = c.char_count-count.ensures;
      room = room;
      so_far = walk_begun part_fits (λ s. s == 42) one_fits refl (λ s ss. refl) (chars c.args.part.now) _ _ (chars c.args.name.now) c.begin.ensures (omega (arith, room, c.char_count-count.ensures));
    }

pub advance-requires : goal.advance-requires
advance-requires c = omega (arith, c.loop-symbol.invariant.counted, c.loop-symbol.invariant.room)

pub loop-symbol-preserved : goal.loop-symbol-preserved
loop-symbol-preserved c =
    let t = YieldsList-turn (YieldsList-from_chars c.args.part.now c.utf8.part cc) c.loop-symbol.yielded _ c.loop-symbol.yielded_by _ _ c.in-Some.symbol c.in-Some.is c.next.ensures.steps in
    let room : length (chars c.args.name.now) < length c.loop-symbol.row = omega (arith, c.loop-symbol.invariant.counted, c.loop-symbol.invariant.room) in
    record {
      counted = c.loop-symbol.invariant.counted;
      room = ap length c.advance.ensures ∙ length-advanced (c.in-Some.symbol == 42) (one_fits c.in-Some.symbol) c.loop-symbol.row (chars c.args.name.now) ∙ c.loop-symbol.invariant.room;
      so_far = walk_on part_fits (λ s. s == 42) one_fits refl (λ s ss. refl) (chars c.args.part.now) (length c.loop-symbol.yielded) _ c.in-Some.symbol _ c.loop-symbol.row (chars c.args.name.now) _
          (length_push c.loop-symbol.yielded c.in-Some.symbol) t.0 t.1 room c.advance.ensures c.loop-symbol.invariant.so_far;
    }

pub returns-clause-fits : goal.returns-clause-fits
returns-clause-fits c =
    let t = YieldsList-end (YieldsList-from_chars c.args.part.now c.utf8.part cc) c.loop-symbol.yielded _ c.loop-symbol.yielded_by _ _ c.in-None.is c.next.ensures.steps in
    let room : length (chars c.args.name.now) < length c.loop-symbol.row = omega (arith, c.loop-symbol.invariant.counted, c.loop-symbol.invariant.room) in
    walk_ended part_fits (λ s. s == 42) one_fits refl (λ s ss. refl) (chars c.args.part.now) (length c.loop-symbol.yielded) _ c.loop-symbol.row (chars c.args.name.now) _ t.1 c.loop-symbol.invariant.counted room c.loop-symbol.invariant.so_far
