use Rattle.std.proofs.Common.{sym, ◌∙◌}
use Rattle.cq_munch.specs.Characters.{characters}
use Rattle.cq_munch.proofs.Trying.{sign_there, no_sign}
use Rattle.cq_munch.proofs.tabled.sign_at.Goals as goal

pub returns-then-starts_with : goal.returns-then-starts_with
returns-then-starts_with c = sign_there c.args.spell c.args.mode c.args.ch (characters c.args.units.now) (sym c.starts_with.ensures ∙ c.if-starts_with.true)

pub returns-else-starts_with : goal.returns-else-starts_with
returns-else-starts_with c = no_sign c.args.spell c.args.mode c.args.ch (characters c.args.units.now) (sym c.starts_with.ensures ∙ c.if-starts_with.false)
