use Rattle.std.proofs.Common.{rules}
use Rattle.cq_words.proofs.Fronts.{joined_look, bare_look}
use Rattle.cq_words.proofs.form.look_after_two.Goals as goal

pub returns-then-at-rest : goal.returns-then-at-rest
returns-then-at-rest c = joined_look c.args.rest.now c.equals_at-at.result c.equals_at-at.ensures c.if-at-rest.true

pub returns-else-at-rest : goal.returns-else-at-rest
returns-else-at-rest c = bare_look c.args.rest.now c.equals_at-at.result c.equals_at-at.ensures (search rules) (search rules)
