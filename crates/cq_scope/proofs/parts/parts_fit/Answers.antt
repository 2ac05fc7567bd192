use Rattle.std.proofs.Common.{◌≡◌, ◌+◌, ◌<◌, length, take, true, codes, refl, ap, ◌∙◌, arith}
use Rattle.std.proofs.lemmas.Iterator.Consumers.{YieldsList-turn, YieldsList-end}
use Rattle.std.proofs.lemmas.List.{length_push, length-take-le}
use Rattle.std.specs.Str.{bytes_eq}
use Rattle.cq_scope.specs.Fits.{name_fits, parts_fit}
use Rattle.cq_names.specs.Names.{parts}
use Rattle.cq_scope.proofs.Reaching.{walk_begun, walk_on, walk_ended, length-begun, length-advanced}
use Rattle.cq_scope.proofs.Counts.{yields_parts}
use Rattle.cq_scope.proofs.parts.parts_fit.Goals as goal

pub loop-part-init : goal.loop-part-init
loop-part-init c =
    let row = c.args.row.now in
    let count = c.part_count-count.result in
    let room : length c.begin.new.row ≡ count + 1 = ap length c.begin.ensures ∙ length-begun true (take (count + 1) row) ∙ length-take-le (count + 1) row (omega (arith, c.requires.room, c.part_count-count.ensures)) in
    record {
      counted = c.part_count-count.ensures;
      room = room;
      places = c.requires.places;
      so_far = walk_begun parts_fit (λ s. bytes_eq s (codes "**")) name_fits refl (λ s ss. refl) (parts c.args.pattern.now) _ _ (parts c.args.path.now) c.begin.ensures (omega (arith, room, c.part_count-count.ensures));
    }

pub loop-part-preserved : goal.loop-part-preserved
loop-part-preserved c =
    let t = YieldsList-turn (yields_parts c.args.pattern.now c.into_iter-part-iterator.ensures.into_iter_gives c.split-part-items.ensures.text c.split-part-items.ensures.has_more c.split-part-items.ensures.pattern) c.loop-part.yielded _ c.loop-part.yielded_by _ _ c.in-Some.part c.in-Some.is c.next.ensures.steps in
    let room : length (parts c.args.path.now) < length c.loop-part.row = omega (arith, c.loop-part.invariant.counted, c.loop-part.invariant.room) in
    record {
      counted = c.loop-part.invariant.counted;
      room = ap length c.advance.ensures.advanced ∙ length-advanced (bytes_eq c.in-Some.part.now (codes "**")) (name_fits c.in-Some.part.now) c.loop-part.row (parts c.args.path.now) ∙ c.loop-part.invariant.room;
      places = omega (arith, c.advance.ensures.same_room, c.loop-part.invariant.places);
      so_far = walk_on parts_fit (λ s. bytes_eq s (codes "**")) name_fits refl (λ s ss. refl) (parts c.args.pattern.now) (length c.loop-part.yielded) _ c.in-Some.part.now _ c.loop-part.row (parts c.args.path.now) _
          (length_push c.loop-part.yielded c.in-Some.part) t.0 t.1 room c.advance.ensures.advanced c.loop-part.invariant.so_far;
    }

pub returns : goal.returns
returns c =
    let t = YieldsList-end (yields_parts c.args.pattern.now c.into_iter-part-iterator.ensures.into_iter_gives c.split-part-items.ensures.text c.split-part-items.ensures.has_more c.split-part-items.ensures.pattern) c.loop-part.yielded _ c.loop-part.yielded_by _ _ c.in-None.is c.next.ensures.steps in
    let room : length (parts c.args.path.now) < length c.loop-part.row = omega (arith, c.loop-part.invariant.counted, c.loop-part.invariant.room) in
    walk_ended parts_fit (λ s. bytes_eq s (codes "**")) name_fits refl (λ s ss. refl) (parts c.args.pattern.now) (length c.loop-part.yielded) _ c.loop-part.row (parts c.args.path.now) _ t.1 c.loop-part.invariant.counted room c.loop-part.invariant.so_far
