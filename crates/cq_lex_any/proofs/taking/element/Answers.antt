use Rattle.std.proofs.Common.{sym, ◌∙◌}
use Rattle.cq_lex_any.proofs.Elements.{blank_units, punct_units, run_units}
use Rattle.cq_lex_any.proofs.taking.element.Goals as goal

pub returns-then-is_whitespace-clause-taken : goal.returns-then-is_whitespace-clause-taken
returns-then-is_whitespace-clause-taken c = λ at.
    blank_units c.args.rest.now at c.args.mode _ c.requires.some (sym c.is_whitespace.ensures ∙ c.if-is_whitespace.true) c.one.ensures

pub returns-in-None-clause-taken : goal.returns-in-None-clause-taken
returns-in-None-clause-taken c = λ at.
    punct_units c.args.rest.now at c.args.mode _ c.requires.some (sym c.is_whitespace.ensures ∙ c.if-is_whitespace.false) c.in-None.ensures c.one-in-None.ensures

pub returns-in-Some-clause-taken : goal.returns-in-Some-clause-taken
returns-in-Some-clause-taken c = λ at.
    run_units c.args.rest.now at c.args.mode c.in-Some.len _ c.requires.some c.in-Some.ensures c.class_of.ensures
