use Rattle.std.proofs.Common.{◌<◌, ◌++◌, List, length, get_or, arith, ap, sym, ◌∙◌, append_assoc}
use Rattle.std.proofs.lemmas.List.{take_all}
use Rattle.cq_groups.specs.declared.spots.Spot.{Spot}
use Rattle.cq_groups.specs.declared.spots.Row.{Row}
use Rattle.cq_groups.specs.Rows.{row_spots, all_of}
use Rattle.cq_groups.proofs.RowLaws.{first_taken, taken_more, none_of_none, no_rows}
use Rattle.cq_groups.proofs.rows.rows_at.Goals as goal

pub loop-i-init : goal.loop-i-init
loop-i-init c =
    let rows = c.args.rows.now in
    let some : 0 < length rows = omega (arith, c.if-rows-lt1.false) in
    let origin : Row = record { first = record { place = record { file = 0; at = 0 }; left = 0 }; others = 0; gap = 0; left = 0 } in (
      ap (λ (rs : List Row). all_of rs ++ row_spots (get_or rows 0 origin)) c.new-made.ensures.items ∙ first_taken rows origin some,
      c.requires 0 origin some,
      no_rows c.args.depth c.new-made.result.items c.new-made.ensures.items,
    )

pub joined-requires : goal.joined-requires
joined-requires c = c.loop-i.invariant.1

pub loop-i-preserved-in-Some : goal.loop-i-preserved-in-Some
loop-i-preserved-in-Some c =
    let rows = c.args.rows.now in
    let i = c.loop-i.i in
    let origin : Row = record { first = record { place = record { file = 0; at = 0 }; left = 0 }; others = 0; gap = 0; left = 0 } in
    let is = c.in-Some.ensures in (
      ap (λ (ss : List Spot). all_of c.loop-i.made.items ++ ss) is.spots_are
          ∙ sym (append_assoc (all_of c.loop-i.made.items) (row_spots c.loop-i.row) (row_spots (get_or rows i origin)))
          ∙ ap (λ (ss : List Spot). ss ++ row_spots (get_or rows i origin)) c.loop-i.invariant.0
          ∙ taken_more rows i origin c.loop-i-test.true,
      is.row,
      c.loop-i.invariant.2,
    )

pub push_row-requires : goal.push_row-requires
push_row-requires c = λ some. (c.loop-i.invariant.1 some).inside

pub loop-i-preserved : goal.loop-i-preserved
loop-i-preserved c =
    let rows = c.args.rows.now in
    let i = c.loop-i.i in
    let origin : Row = record { first = record { place = record { file = 0; at = 0 }; left = 0 }; others = 0; gap = 0; left = 0 } in
    let (spots, are) = c.in_ok-push_row.ensures in (
      ap (λ (ss : List Spot). ss ++ row_spots (get_or rows i origin)) (spots ∙ c.loop-i.invariant.0) ∙ taken_more rows i origin c.loop-i-test.true,
      c.requires i origin c.loop-i-test.true,
      are c.args.depth c.loop-i.invariant.1 c.loop-i.invariant.2,
    )

pub push_row-requires-2 : goal.push_row-requires-2
push_row-requires-2 c = λ some. (c.loop-i.invariant.1 some).inside

pub returns : goal.returns
returns c =
    let rows = c.args.rows.now in
    let (spots, are) = c.in_ok-push_row-2.ensures in
    record {
      spots = spots ∙ c.loop-i.invariant.0 ∙ ap all_of (take_all c.loop-i.i rows c.loop-i-test.false);
      rows = are c.args.depth c.loop-i.invariant.1 c.loop-i.invariant.2;
    }

pub returns-then-rows-lt1 : goal.returns-then-rows-lt1
returns-then-rows-lt1 c =
    let rows = c.args.rows.now in
    record {
      spots = ap all_of c.new-made.ensures.items ∙ sym (none_of_none rows (omega (arith, c.if-rows-lt1.true)));
      rows = no_rows c.args.depth c.new-made.result.items c.new-made.ensures.items;
    }
