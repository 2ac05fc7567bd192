use Rattle.std.proofs.Common.{◌≡◌, List, length, subst}
use Rattle.std.specs.Prelude.{All}
use Rattle.std.proofs.lemmas.Result.{on_ok_weaker}
use Rattle.cq_tokens.specs.Parts.{tokens_in}
use Rattle.cq_groups.specs.declared.spots.Row.{Row}
use Rattle.cq_groups.proofs.OneStep.{split_two, split_parts}
use Rattle.cq_groups.proofs.refining.part.Goals as goal

pub returns-clause-split : goal.returns-clause-split
returns-clause-split g c =
    on_ok_weaker c.push_marked.result
    (λ parted. split_parts (tokens_in c.args.files.now) c.args.min c.args.set c.args.sets.now.items c.push_marked.new.sets.items c.args.difference.now c.args.groups.now.items c.add_group.new.groups.items
    c.requires.differ c.requires.gives parted c.in_ok-add_group.ensures)
    c.push_marked.ensures.parted

pub returns-then-is_pair-clause-split : goal.returns-then-is_pair-clause-split
returns-then-is_pair-clause-split g c =
    let pair = subst (λ (rs : List Row). (length rs ≡ 2) × All (λ r. r.others ≡ 0) rs) c.deref.ensures.value (c.is_pair.ensures.0 c.if-is_pair.true) in
    split_two (tokens_in c.args.files.now) c.args.min c.args.set c.args.sets.now.items c.args.difference.now c.args.groups.now.items c.add_group.new.groups.items
    c.requires.differ pair.0 pair.1 c.requires.gives c.in_ok-add_group.ensures
