use Rattle.std.proofs.Common.{◌<◌, length, drop, sym, ◌∙◌, arith}
use Rattle.cq_munch.specs.Characters.{characters}
use Rattle.cq_lex_c.proofs.Fitting.{first_at, text_of_string, text_of_character, text_none}
use Rattle.cq_lex_c.proofs.text.text_at.Goals as goal

pub returns-then-first-eq34-clause-text : goal.returns-then-first-eq34-clause-text
returns-then-first-eq34-clause-text c =
    let inside : c.args.at < length c.args.units.now = omega (arith, c.if-at-units.false) in
    text_of_string (drop c.args.at (characters c.args.units.now)) (first_at c.args.units.now c.args.at inside ∙ c.if-first-eq34.true) _ c.string_at.ensures.text

pub returns-then-first-eq39-clause-text : goal.returns-then-first-eq39-clause-text
returns-then-first-eq39-clause-text c =
    let inside : c.args.at < length c.args.units.now = omega (arith, c.if-at-units.false) in
    text_of_character (drop c.args.at (characters c.args.units.now)) (λ e. c.if-first-eq34.false (sym (first_at c.args.units.now c.args.at inside) ∙ e)) _ c.constant_at.ensures.text

pub returns-clause-text : goal.returns-clause-text
returns-clause-text c =
    let inside : c.args.at < length c.args.units.now = omega (arith, c.if-at-units.false) in
    let first = first_at c.args.units.now c.args.at inside in
    text_none (drop c.args.at (characters c.args.units.now)) (λ e. c.if-first-eq34.false (sym first ∙ e)) (λ e. c.if-first-eq39.false (sym first ∙ e))
