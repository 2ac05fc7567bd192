use Rattle.std.proofs.Common.{◌≡◌, refl, arith, ap, length, true≢false, sym}
use Rattle.cq_groups.specs.declared.spots.Row.{Row}
use Rattle.cq_groups.proofs.RowLaws.{rows_within, none_of_none, several_in_one}
use Rattle.cq_groups.proofs.sets.are_several.Goals as goal

pub returns-then-rows-gt1 : goal.returns-then-rows-gt1
returns-then-rows-gt1 c =
    let h = rows_within c.args.rows.now in
    (λ _. omega (arith, h, c.if-rows-gt1.true), λ _. refl)

pub returns-then-rows-lt1 : goal.returns-then-rows-lt1
returns-then-rows-lt1 c =
    let none = none_of_none c.args.rows.now (omega (arith, c.if-rows-lt1.true)) in
    (λ false_is. absurd (true≢false (sym false_is)), λ several. absurd (omega (arith, several, ap length none)))

pub returns : goal.returns
returns c =
    let rows = c.args.rows.now in
    let row : Row = record { first = record { place = record { file = 0; at = 0 }; left = 0 }; others = 0; gap = 0; left = 0 } in
    let one : length rows ≡ 1 = omega (arith, c.if-rows-gt1.false, c.if-rows-lt1.false) in
    let (to, from) = several_in_one rows row one in
    let (some, is_some) = c.has_others.ensures in
    (λ h. to (some h), λ several. is_some (from several))
