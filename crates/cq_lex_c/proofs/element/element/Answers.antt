use Rattle.std.proofs.Common.{◌∷◌}
use Rattle.cq_munch.specs.Characters.{characters}
use Rattle.cq_munch.proofs.Joining.{row_more}
use Rattle.cq_lex_c.specs.C.{texts, prefixed, unquoted}
use Rattle.cq_lex_c.proofs.element.element.Goals as goal

pub returns : goal.returns
returns c =
    let text = characters c.args.units.now in
    row_more 0 c.args.mode text texts (prefixed ∷ unquoted) c.args.text c.found_of-own.result c.better-rest.result c.better.result c.found_of-own.ensures c.better.ensures c.requires.text
    (row_more 0 c.args.mode text prefixed unquoted c.args.prefixed c.found_of-other.result c.without_quotes-unquoted.result c.better-rest.result c.found_of-other.ensures c.better-rest.ensures c.requires.prefixed c.without_quotes-unquoted.ensures)
