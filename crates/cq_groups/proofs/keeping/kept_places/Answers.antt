use Rattle.cq_groups.specs.declared.spots.Row.{Row}
use Rattle.cq_groups.proofs.Kept.{kept_none, kept_more, kept_all}
use Rattle.cq_groups.proofs.keeping.kept_places.Goals as goal

pub loop-row-init : goal.loop-row-init
loop-row-init c = kept_none c.args.tokens c.args.rows.now c.new-kept.result.items c.new-kept.ensures.items

pub keep_row-requires : goal.keep_row-requires
keep_row-requires c =
    let origin : Row = record { first = record { place = record { file = 0; at = 0 }; left = 0 }; others = 0; gap = 0; left = 0 } in
    c.requires c.loop-row.row-index origin c.loop-row-test.true

pub loop-row-preserved : goal.loop-row-preserved
loop-row-preserved c =
    let origin : Row = record { first = record { place = record { file = 0; at = 0 }; left = 0 }; others = 0; gap = 0; left = 0 } in
    kept_more c.args.tokens c.args.rows.now c.loop-row.row-index origin c.loop-row.last c.in_ok-last.last c.loop-row.kept.items c.keep_row.new.kept.items c.loop-row-test.true c.in_ok-last.ensures c.loop-row.invariant

pub returns : goal.returns
returns c = kept_all c.args.tokens c.args.rows.now c.loop-row.row-index c.loop-row.last c.loop-row.kept.items c.loop-row-test.false c.loop-row.invariant
