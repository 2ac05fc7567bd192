use Rattle.std.proofs.Common.{ap, arith, get_or}
use Rattle.cq_groups.specs.declared.spots.Spot.{Spot}
use Rattle.cq_groups.specs.declared.spots.Row.{Row}
use Rattle.cq_groups.specs.Rows.{all_of}
use Rattle.cq_groups.proofs.OneSided.{one_number}
use Rattle.cq_groups.proofs.RowLaws.{rows_within, first_of_rows, left_of_rows, left_of_spots}
use Rattle.cq_groups.proofs.sets.have_one_left.Goals as goal

pub returns : goal.returns
returns c =
    let rows = c.args.rows.now in
    let spot : Spot = record { place = record { file = 0; at = 0 }; left = 0 } in
    let row : Row = record { first = record { place = record { file = 0; at = 0 }; left = 0 }; others = 0; gap = 0; left = 0 } in
    let left = (get_or rows 0 row).first.left in
    let (to, from) = c.have_left.ensures in
    one_number (λ (s : Spot). s.left) (all_of rows) c.have_left.result left spot
    (omega (arith, c.requires, rows_within rows))
    (ap (λ (s : Spot). s.left) (first_of_rows rows row spot c.requires))
    (λ h. let p = to h in (p.0, left_of_rows left rows p.1), λ p. from (p.0, left_of_spots left rows p.1))
