use Rattle.std.proofs.Common.{ℕ, arith, ◌≡◌, ◌+◌, ap, map, refl, sym, ◌∙◌, subst}
use Rattle.std.proofs.lemmas.Bool.{iff_false}
use Rattle.std.proofs.lemmas.List.{length-map}
use Rattle.std.specs.Vec.Iter.{into_iter_items}
use Rattle.cq_groups.specs.Rows.{all_of}
use Rattle.cq_groups.specs.Sets.{spread, AreByMark, AddsParts, MayGive}
use Rattle.cq_groups.specs.Steps.{ArePartRows}
use Rattle.cq_groups.proofs.Parts.{AreLeft, left_first, left_next, no_parts, part_more, part_skipped}
use Rattle.cq_groups.proofs.Spread.{spread_part, part_rows_head, part_rows_tail}
use Rattle.cq_groups.proofs.sets.push_all.Goals as goal

pub loop-part-init : goal.loop-part-init
loop-part-init c =
    let given : into_iter_items c.into_iter-part-iterator.result ≡ c.args.parts.items = c.into_iter-part-iterator.ensures.into_iter_gives.0 in (
      λ highest marked are. (
        0,
        no_parts c.args.depth (spread marked) c.args.sets.now.items,
        left_first highest marked _ (subst (λ ps. AreByMark highest marked (map (λ part. part.items) ps)) (sym given) are),
      ),
      subst (ArePartRows c.args.depth) (sym given) c.requires,
    )

pub rows_of_part-requires : goal.rows_of_part-requires
rows_of_part-requires c = part_rows_head c.args.depth c.in-Some.part _ (subst (ArePartRows c.args.depth) c.in-Some.ensures.steps.0 c.loop-part.invariant.1)

pub loop-part-preserved-in-Continue-branch-2 : goal.loop-part-preserved-in-Continue-branch-2
loop-part-preserved-in-Continue-branch-2 c = (
  λ highest marked are.
      let (m, before, left) = c.loop-part.invariant.0 highest marked are in
      let steps = ap (map (λ part. part.items)) c.in-Some.ensures.steps.0 in
      let next = left_next m highest marked c.in-Some.part.items _ (subst (AreLeft m highest marked) steps left) in
      let spots = c.in_ok-rows.ensures.spots ∙ ap all_of next.0 ∙ sym (spread_part (m + 1) marked) in
      let gives = subst MayGive (ap all_of c.deref.ensures.value ∙ sym c.in_ok-rows.ensures.spots) (c.may_give.ensures.0 c.if-may_give.true) in
      (m + 1, part_more c.args.depth (spread marked) m c.args.sets.now.items c.loop-part.sets.items _ _ refl spots gives c.in_ok-push.ensures.items before, next.1),
  part_rows_tail c.args.depth c.in-Some.part _ (subst (ArePartRows c.args.depth) c.in-Some.ensures.steps.0 c.loop-part.invariant.1),
)

pub loop-part-preserved : goal.loop-part-preserved
loop-part-preserved c = (
  λ highest marked are.
      let (m, before, left) = c.loop-part.invariant.0 highest marked are in
      let steps = ap (map (λ part. part.items)) c.in-Some.ensures.steps.0 in
      let next = left_next m highest marked c.in-Some.part.items _ (subst (AreLeft m highest marked) steps left) in
      let spots = ap all_of c.deref.ensures.value ∙ ap all_of next.0 ∙ sym (spread_part (m + 1) marked) in
      (m + 1, part_skipped c.args.depth (spread marked) m c.args.sets.now.items c.loop-part.sets.items (λ h. iff_false c.may_give.ensures c.if-may_give.false (subst MayGive (sym spots) h)) before, next.1),
  part_rows_tail c.args.depth c.in-Some.part _ (subst (ArePartRows c.args.depth) c.in-Some.ensures.steps.0 c.loop-part.invariant.1),
)

pub returns : goal.returns
returns c = λ highest marked are.
    let (m, before, left) = c.loop-part.invariant.0 highest marked are in
    subst (λ (k : ℕ). AddsParts c.args.depth (spread marked) k c.args.sets.now.items c.loop-part.sets.items)
    (omega (arith, left.number, length-map (into_iter_items c.loop-part.part-iterator) (λ part. part.items), c.in-None.ensures.steps.0)) before
