use Rattle.std.proofs.Common.{◌≡◌, ◌≤◌, ◌+◌, arith, ap, sym, map, ◌∙◌, subst, List}
use Rattle.std.specs.Prelude.{All, Any}
use Rattle.cq_tokens.specs.Parts.{tokens_in}
use Rattle.cq_groups.specs.declared.spots.MarkedRow.{MarkedRow}
use Rattle.cq_groups.specs.Rows.{all_of, IsRow}
use Rattle.cq_groups.specs.Sets.{spread, AddsParts}
use Rattle.cq_groups.proofs.Parts.{no_parts}
use Rattle.cq_groups.proofs.RowLaws.{rows_each, each_deeper}
use Rattle.cq_groups.proofs.Spread.{spread_spots, spread_low, spread_marked, marked_rows}
use Rattle.cq_groups.proofs.refining.push_marked.Goals as goal
use Rattle.cq_groups.proofs.refining.push_marked.Goals.{then-highest-gt0+in_ok-push_parts, else-highest-gt0}

pub overflow_add-set : goal.overflow_add-set
overflow_add-set g c =
    let marked = c.in_ok-marked.marked.items in
    let (k, x, within, at, is) = subst (Any (λ (z : MarkedRow). z.mark ≡ c.highest-highest.result)) c.deref-2.ensures.value (c.highest-highest.ensures.one c.if-highest-gt0.true) in
    let fits = c.in_ok-marked.ensures.fits x (k, within, at) (omega (arith, is, c.if-highest-gt0.true)) in
    omega (arith, fits)

pub push_parts-requires-clause-rows : goal.push_parts-requires-clause-rows
push_parts-requires-clause-rows g c =
    let depth = c.args.set.now.depth in
    let rows = c.args.set.now.rows.items in
    let marked = c.in_ok-marked.marked.items in
    let rows_are : map (λ (x : MarkedRow). x.row) marked ≡ rows = c.in_ok-marked.ensures.rows ∙ c.deref.ensures.value in
    subst (All (λ (x : MarkedRow). IsRow (depth + 1) x.row)) (sym c.deref-then-highest-gt0.ensures.value)
    (marked_rows (IsRow (depth + 1)) rows marked rows_are (each_deeper depth rows (rows_each depth rows c.args.set.now.rows_are)))

pub returns-clause-parted : goal.returns-clause-parted
returns-clause-parted g c =
    let corpus = tokens_in c.args.files.now in
    let depth = c.args.set.now.depth in
    let rows = c.args.set.now.rows.items in
    let marked = c.in_ok-marked.marked.items in
    let highest = c.highest-highest.result in
    let rows_are : map (λ (x : MarkedRow). x.row) marked ≡ rows = c.in_ok-marked.ensures.rows ∙ c.deref.ensures.value in
    let spots_are = spread_spots marked ∙ ap all_of rows_are in
    let marks = spread_marked corpus depth rows marked c.requires.alike c.args.set.now.rows_are rows_are c.in_ok-marked.ensures.marks in
    let all = subst (All (λ (x : MarkedRow). x.mark ≤ highest)) c.deref-2.ensures.value c.highest-highest.ensures.all in
    elim c.if-highest-gt0.branch [
      | then-highest-gt0+in_ok-push_parts w ↦ rw w.sets-is (record {
        marked = spread marked;
        spots = spots_are;
        marks = marks;
        highest = highest;
        all = spread_low highest marked all;
        parts = subst (λ (ms : List MarkedRow). AddsParts (depth + 1) (spread ms) highest c.args.sets.now.items w.push_parts.new.sets.items) w.deref-then-highest-gt0.ensures.value w.in_ok-push_parts.ensures;
      })
      | else-highest-gt0 w ↦ rw w.sets-is (record {
        marked = spread marked;
        spots = spots_are;
        marks = marks;
        highest = 0;
        all = spread_low 0 marked (subst (λ n. All (λ (x : MarkedRow). x.mark ≤ n) marked) (omega (arith, w.if-highest-gt0.false)) all);
        parts = no_parts (depth + 1) (spread marked) c.args.sets.now.items;
      })
    ]
