use Rattle.std.proofs.Common.{drop, Some, refl, sym, subst, ◌∙◌}
use Rattle.cq_munch.specs.Characters.{characters}
use Rattle.cq_munch.specs.Language.{Takes}
use Rattle.cq_munch.proofs.Marks.{takes_mark_at, takes_unmarked}
use Rattle.cq_munch.proofs.Texts.{characters_from}
use Rattle.cq_lex_any.specs.Any.{any, plain}
use Rattle.cq_lex_any.proofs.language.AnyLexis.longest.Goals as goal

pub returns-then-is_mark-clause-taken : goal.returns-then-is_mark-clause-taken
returns-then-is_mark-clause-taken c =
    subst (λ v. Takes any c.args.at c.args.mode (drop c.args.at (characters c.args.units.now)) (Some v)) (sym c.one.ensures)
    (takes_mark_at plain c.args.units.now c.args.at c.args.mode c.args.mode c.requires.inside (sym c.is_mark.ensures ∙ c.if-is_mark.true) refl)

pub returns-else-is_mark-clause-taken : goal.returns-else-is_mark-clause-taken
returns-else-is_mark-clause-taken c =
    takes_unmarked plain c.args.at c.args.mode (drop c.args.at (characters c.args.units.now)) (sym c.is_mark.ensures ∙ c.if-is_mark.false) (Some c.element.result)
    (subst (λ v. Takes plain c.args.at c.args.mode v (Some c.element.result)) (characters_from c.args.units.now c.args.at) (c.element.ensures.taken c.args.at))
