use Rattle.std.proofs.Common.{◌≡◌, ◌<◌, filter, sym, ap, ◌∙◌, subst, rules}
use Rattle.std.proofs.lemmas.List.{take_all}
use Rattle.std.proofs.lemmas.List.Elements.{All-filter}
use Rattle.cq_measures.specs.Measures.{spans_of, extents_of, is_in_chosen}
use Rattle.cq_measures.specs.Sorted.{AreBelow}
use Rattle.cq_measures.proofs.Placed.{extents_of_files}
use Rattle.cq_measures.proofs.choosing.chosen_extents.Goals as goal

pub add_extents-requires-clause-inside : goal.add_extents-requires-clause-inside
add_extents-requires-clause-inside c = c.requires.inside _ (c.loop-group.group-index, c.loop-group-test.true, sym c.group-item.is)

pub returns-clause-below : goal.returns-clause-below
returns-clause-below c n few =
    let chosen = c.args.chosen.now in
    let spans = spans_of c.args.files.now in
    let whole = take_all c.loop-group.group-index c.args.groups.now (search rules) in
    let is : c.loop-group.extents.items ≡ filter (is_in_chosen chosen) (extents_of spans c.args.groups.now) = c.loop-group.invariant ∙ ap (λ gs. filter (is_in_chosen chosen) (extents_of spans gs)) whole in
    subst (AreBelow n) (sym is) (All-filter (is_in_chosen chosen) (λ e. e.file < n) (extents_of spans c.args.groups.now) (extents_of_files n c.args.files.now c.args.groups.now few c.requires.inside))
