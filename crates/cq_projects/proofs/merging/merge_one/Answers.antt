use Rattle.std.proofs.Common.{Global, Option, ◌++◌, map, take, sym, ap, ◌∙◌}
use Rattle.std.specs.Arc.{arc_value}
use Rattle.std.specs.Vec.Iter.{into_iter_items}
use Rattle.std.specs.declared.sync.Arc.{Arc}
use Rattle.cq_history.specs.Files.{File}
use Rattle.cq_projects.specs.Drafts.{one_or_none}
use Rattle.cq_projects.proofs.Moving.{joined_one, joined_none}
use Rattle.cq_projects.proofs.merging.merge_one.Goals as goal

pub returns-in_ok-push-clause-joined : goal.returns-in_ok-push-clause-joined
returns-in_ok-push-clause-joined g c =
    let done = c.args.done.now.items in
    let low = take c.args.before (into_iter_items c.args.rest.now) in
    joined_one arc_value done low c.append_moved.new.done.items c.in_ok-append_moved.ensures.moved c.push.new.self.items c.in-Some.held c.in_ok-push.ensures.items
    ∙ ap (λ (f : Option (Arc (File g.row.W.Denot) Global)). map arc_value done ++ (map arc_value low ++ one_or_none f)) (sym c.in-Some.is)

pub returns-in_default-clause-joined : goal.returns-in_default-clause-joined
returns-in_default-clause-joined g c =
    let done = c.args.done.now.items in
    let low = take c.args.before (into_iter_items c.args.rest.now) in
    joined_none arc_value done low c.append_moved.new.done.items c.in_ok-append_moved.ensures.moved
    ∙ ap (λ (f : Option (Arc (File g.row.W.Denot) Global)). map arc_value done ++ (map arc_value low ++ one_or_none f)) (sym c.in_default.is)
