use Rattle.std.proofs.Common.{sym, ap, subst, ◌∙◌}
use Rattle.cq_shard.specs.Runs.{AreRuns, entries_in}
use Rattle.cq_shard.specs.Stores.{those_of}
use Rattle.cq_shard.proofs.Storing.{runs_kept, entries_kept}
use Rattle.cq_shard.proofs.runs.Runs.keep.Goals as goal

pub invariant_of-self : goal.invariant_of-self
invariant_of-self c = subst AreRuns (sym c.keep_each.ensures) (runs_kept c.args.changes.now c.self.inside.runs.items c.self.invariant)

pub returns : goal.returns
returns c =
    ap entries_in c.keep_each.ensures
    ∙ entries_kept c.args.changes.now c.self.inside.runs.items
    ∙ ap (those_of c.args.changes.now) c.self.view_is
