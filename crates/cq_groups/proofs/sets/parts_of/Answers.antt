use Rattle.std.proofs.Common.{◌≡◌, ◌-◌, ◌++◌, ◌∷◌, [], List, arith, ap, map, length, ◌≤◌, get_or, set, sym, ◌∙◌}
use Rattle.std.proofs.lemmas.List.{get_or_default, map-append, map-set, length-map}
use Rattle.cq_groups.specs.declared.spots.Row.{Row}
use Rattle.cq_groups.specs.declared.spots.MarkedRow.{MarkedRow}
use Rattle.cq_groups.proofs.Parts.{by_mark_more, by_mark_none, by_mark_same, part_read}
use Rattle.cq_groups.proofs.sets.parts_of.Goals as goal
use Rattle.cq_groups.proofs.sets.parts_of.Goals.{then-x-gt0+in_ok-push-2, else-x-gt0}

pub loop-mark-preserved : goal.loop-mark-preserved
loop-mark-preserved c =
    let parts = c.loop-mark.parts.items in
    by_mark_none c.loop-mark._mark (map (λ part. part.items) parts) _
    (ap (map (λ part. part.items)) c.in_ok-push.ensures.items
    ∙ map-append (λ part. part.items) parts (c.new.result ∷ [])
    ∙ ap (λ (rs : List Row). map (λ part. part.items) parts ++ rs ∷ []) c.new.ensures.items)
    c.loop-mark.invariant

pub index_mut-requires : goal.index_mut-requires
index_mut-requires c =
    let origin : MarkedRow = record { row = record { first = record { place = record { file = 0; at = 0 }; left = 0 }; others = 0; gap = 0; left = 0 }; mark = 0 } in
    let low = c.requires c.loop-x.x-index origin c.loop-x-test.true in
    let number : length c.loop-x.parts.items ≡ c.args.highest = sym (length-map c.loop-x.parts.items (λ part. part.items)) ∙ c.loop-x.invariant.number in
    omega (arith, number, low, c.if-x-gt0.true, c.loop-x.parts.ok.0)

pub loop-x-preserved : goal.loop-x-preserved
loop-x-preserved c =
    let origin : MarkedRow = record { row = record { first = record { place = record { file = 0; at = 0 }; left = 0 }; others = 0; gap = 0; left = 0 }; mark = 0 } in
    let marked = c.args.marked.now in
    let i = c.loop-x.x-index in
    let x : MarkedRow = get_or marked i origin in
    let read : x ≡ get_or marked i x = get_or_default marked i origin x c.loop-x-test.true in
    let low : x.mark ≤ c.args.highest = c.requires i origin c.loop-x-test.true in
    let number : length c.loop-x.parts.items ≡ c.args.highest = sym (length-map c.loop-x.parts.items (λ part. part.items)) ∙ c.loop-x.invariant.number in
    elim c.if-x-gt0.branch [
      | then-x-gt0+in_ok-push-2 w ↦
          by_mark_more c.args.highest i marked x _ _ c.loop-x-test.true read w.if-x-gt0.true low
          (ap (λ v. map (λ part. part.items) v.items) w.parts-is
          ∙ map-set (λ part. part.items) c.loop-x.parts.items (x.mark - 1) w.push-then-x-gt0.new.self
          ∙ ap (set (map (λ part. part.items) c.loop-x.parts.items) (x.mark - 1)) (w.in_ok-push-2.ensures.items ∙ ap (λ (rs : List Row). rs ++ x.row ∷ []) (part_read c.loop-x.parts.items (x.mark - 1) w.index_mut.result.now (omega (arith, number, w.if-x-gt0.true, low)) w.index_mut.ensures.value)))
          c.loop-x.invariant
      | else-x-gt0 w ↦ rw w.parts-is (by_mark_same c.args.highest i marked x _ c.loop-x-test.true read (omega (arith, w.if-x-gt0.false)) c.loop-x.invariant)
    ]
