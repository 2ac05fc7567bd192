use Rattle.std.proofs.Common.{[], ◌∷◌, sym, ◌∙◌}
use Rattle.cq_base.specs.declared.token.Class.TheVariants.{Punct}
use Rattle.cq_munch.specs.Characters.{characters}
use Rattle.cq_munch.specs.Tabled.{sign}
use Rattle.cq_munch.specs.declared.element.Spell.TheVariants.{Token}
use Rattle.cq_munch.proofs.Trying.{taken_at_test}
use Rattle.cq_lex_js.specs.JavaScript.{rows_at}
use Rattle.cq_lex_js.specs.TypeScript.{is_closing}
use Rattle.cq_lex_js.proofs.typescript.TypeScriptTabled.taken.Goals as goal

pub returns-then-is_closing : goal.returns-then-is_closing
returns-then-is_closing c =
    taken_at_test ((is_closing (characters c.args.units.now), sign (Token Punct) 62 ∷ []) ∷ []) (rows_at c.args.mode (characters c.args.units.now)) c.args.mode (characters c.args.units.now) c.sign_at.result 0
    (sym c.is_closing.ensures ∙ c.if-is_closing.true, c.sign_at.ensures)

pub returns : goal.returns
returns c =
    taken_at_test ((is_closing (characters c.args.units.now), sign (Token Punct) 62 ∷ []) ∷ []) (rows_at c.args.mode (characters c.args.units.now)) c.args.mode (characters c.args.units.now) c.taken.result 1
    (sym c.is_closing.ensures ∙ c.if-is_closing.false, c.taken.ensures)
