use Rattle.std.proofs.Common.{ap, subst, ◌∙◌}
use Rattle.std.specs.Prelude.{Contains}
use Rattle.cq_shard.specs.Stores.{those_of}
use Rattle.cq_shard.proofs.Gathering.{runs_different}
use Rattle.cq_shard.proofs.Lasting.{left_stand, entries_those, entries_fewer}
use Rattle.cq_shard.proofs.runs.Runs.keep_last.Goals as goal

pub invariant_of-self : goal.invariant_of-self
invariant_of-self c = left_stand c.args.changes.now c.self.inside.runs.items c.keep_last.new.runs.items c.keep_last.ensures c.self.invariant

pub returns-clause-those : goal.returns-clause-those
returns-clause-those c = entries_those c.args.changes.now c.self.inside.runs.items c.keep_last.new.runs.items c.keep_last.ensures ∙ ap (those_of c.args.changes.now) c.self.view_is

pub returns-clause-fewer : goal.returns-clause-fewer
returns-clause-fewer c = λ e there. subst (λ es. Contains es e) c.self.view_is (entries_fewer c.args.changes.now c.self.inside.runs.items c.keep_last.new.runs.items c.keep_last.ensures e there)

pub returns-clause-different : goal.returns-clause-different
returns-clause-different c = runs_different c.keep_last.new.runs.items (left_stand c.args.changes.now c.self.inside.runs.items c.keep_last.new.runs.items c.keep_last.ensures c.self.invariant)
