use Rattle.std.proofs.Common.{sym, subst, ◌∙◌}
use Rattle.cq_munch.specs.Longest.{LongestAt}
use Rattle.cq_munch.specs.Tabled.{RowsTake}
use Rattle.cq_munch.proofs.Trying.{from_rest}
use Rattle.cq_munch.proofs.Texts.{characters_from}
use Rattle.cq_lex_c.specs.C.{rows_at, unquoted}
use Rattle.cq_lex_c.specs.Texts.{IsText, IsPrefixed}
use Rattle.cq_lex_c.proofs.Unquoted.{unquoted_at}
use Rattle.cq_lex_c.proofs.language.found_at.Goals as goal

pub returns-then-is_unquoted-clause-found : goal.returns-then-is_unquoted-clause-found
returns-then-is_unquoted-clause-found c =
    unquoted_at c.args.units.now c.args.at c.args.mode c.without_quotes.result c.requires.inside (sym c.is_unquoted.ensures ∙ c.if-is_unquoted.true)
    (subst (λ t. RowsTake unquoted c.args.mode t c.without_quotes.result) (characters_from c.args.units.now c.args.at) c.without_quotes.ensures)

pub returns-clause-found : goal.returns-clause-found
returns-clause-found c = from_rest rows_at c.args.units.now c.args.at c.args.mode c.taken.result c.taken.ensures

pub taken-requires-clause-text : goal.taken-requires-clause-text
taken-requires-clause-text c =
    subst (λ t. LongestAt IsText t c.text_at-text.result) (sym (characters_from c.args.units.now c.args.at)) c.text_at-text.ensures.text

pub taken-requires-clause-prefixed : goal.taken-requires-clause-prefixed
taken-requires-clause-prefixed c =
    subst (λ t. LongestAt IsPrefixed t c.prefixed_at-prefixed.result) (sym (characters_from c.args.units.now c.args.at)) c.prefixed_at-prefixed.ensures.text
