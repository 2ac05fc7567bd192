use Rattle.std.proofs.Common.{◌-◌, length, take, drop, ap, subst, sym, ◌∙◌}
use Rattle.std.proofs.lemmas.List.{length-drop, take_rest}
use Rattle.cq_lex_java.specs.Escapes.{escape_at, IsStepWithin, IsEscapeLong}
use Rattle.cq_lex_java.proofs.Spans.{escape-within, pair-within}
use Rattle.cq_lex_java.proofs.escape.step_at.Goals as goal

pub returns-in-None-scalar-clause-within : goal.returns-in-None-scalar-clause-within
returns-in-None-scalar-clause-within c =
    let units = c.args.units.now in
    let len = c.in-Code.len in
    let rest = take (length units - len) (drop len units) in
    let long = subst (λ n. IsEscapeLong n (escape_at rest)) (ap length (take_rest units len) ∙ length-drop len units) (escape-within rest) in
    subst (IsStepWithin (length units)) (sym c.pair_at.ensures) (pair-within (length units) c.in-Code.code len (escape_at rest) c.in-Code.ensures.within.0 c.in-Code.ensures.within.1 long)
