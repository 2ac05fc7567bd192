use Rattle.std.proofs.Common.{sym, ◌∙◌}
use Rattle.cq_names.proofs.Parts.{parts_next, last_part}
use Rattle.cq_names.proofs.paths.are_parts.Goals as goal

pub parts-preserved : goal.parts-preserved
parts-preserved c =
    parts_next c.in-Some.at c.parts.rest.now c.split_at.result.1.now c.split_at.ensures.back (rw (← c.split_at.ensures.front) (sym c.if-not-is_part.ensures)) c.in-Some.ensures.0.high c.in-Some.ensures.0.before c.in-Some.ensures.1 ∙ c.parts.invariant

pub returns : goal.returns
returns c = c.is_part-2.ensures ∙ (sym (last_part c.parts.rest.now c.in_default.ensures) ∙ c.parts.invariant)
