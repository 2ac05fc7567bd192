use Rattle.std.specs.Vec.Iter.{into_iter_items}
use Rattle.std.proofs.Common.{subst}
use Rattle.std.specs.Prelude.{All}
use Rattle.std.proofs.lemmas.List.Elements.{All-head, All-rest}
use Rattle.cq_projects.specs.Spotted.{AreApart}
use Rattle.cq_projects.proofs.Gathering.{finished_more}
use Rattle.cq_projects.proofs.draft.finished_all.Goals as goal

pub loop-draft-preserved : goal.loop-draft-preserved
loop-draft-preserved g c = (
  finished_more c.loop-draft.projects.items c.push.new.self.items _ c.in-Some.draft (into_iter_items c.next.new.self) (into_iter_items c.loop-draft.draft-iterator) c.args.drafts.items c.in_ok-push.ensures.items c.in_ok-finished.ensures c.in-Some.ensures.steps.0 c.loop-draft.invariant.0,
  All-rest AreApart c.in-Some.draft (into_iter_items c.next.new.self) (into_iter_items c.loop-draft.draft-iterator) c.in-Some.ensures.steps.0 c.loop-draft.invariant.1,
)

pub finished-requires : goal.finished-requires
finished-requires g c = record {
  apart = All-head AreApart c.in-Some.draft (into_iter_items c.next.new.self) (subst (All AreApart) c.in-Some.ensures.steps.0 c.loop-draft.invariant.1);
}
