use Rattle.std.proofs.Common.{◌≤◌, List, length, subst, sym}
use Rattle.cq_tokens.specs.Parts.{tokens_in}
use Rattle.cq_groups.specs.declared.spots.Row.{Row}
use Rattle.cq_groups.specs.declared.spots.Set.{Set}
use Rattle.cq_groups.specs.Differences.{RowsGoOnByOne}
use Rattle.cq_groups.proofs.OneStep.{all_go_on}
use Rattle.cq_groups.proofs.RowLaws.{rows_one, rows_several}
use Rattle.cq_groups.proofs.refining.split.Goals as goal

pub difference_behind-requires-clause-several : goal.difference_behind-requires-clause-several
difference_behind-requires-clause-several g c =
    let set : Set = c.args.set in
    subst (λ (rs : List Row). 2 ≤ length rs) (sym c.deref.ensures.value) (rows_several set.depth set.rows.items set.rows_are c.requires.gives.0)

pub returns-in_default-clause-split : goal.returns-in_default-clause-split
returns-in_default-clause-split g c =
    let corpus = tokens_in c.args.files.now in
    let set : Set = c.args.set in
    all_go_on corpus c.args.min set c.in_ok-more.more c.args.sets.now.items c.push.new.self.items c.args.groups.now.items
    (rows_one corpus set.rows.items set.depth c.requires.alike set.rows_are (subst (RowsGoOnByOne corpus set.depth) c.deref.ensures.value c.in_default.ensures.one))
    c.requires.gives c.in_ok-more.ensures.depth c.in_ok-more.ensures.spots c.in_ok-push.ensures.items
