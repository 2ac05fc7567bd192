use Rattle.cq_munch.specs.Characters.{characters}
use Rattle.cq_lex_c.proofs.Elements.{header_some, header_none}
use Rattle.cq_lex_c.proofs.element.header_at.Goals as goal

pub returns-then-mode-eq2-clause-some : goal.returns-then-mode-eq2-clause-some
returns-then-mode-eq2-clause-some c = header_some c.args.mode (characters c.args.units.now) c.longest_header.result c.if-mode-eq2.true c.longest_header.ensures

pub returns-then-mode-eq2-clause-none : goal.returns-then-mode-eq2-clause-none
returns-then-mode-eq2-clause-none c = header_none c.args.mode (characters c.args.units.now) c.longest_header.result c.longest_header.ensures
