use Rattle.std.proofs.Common.{rules, true, length, sym, ◌∙◌, ◌≡◌}
use Rattle.std.proofs.lemmas.Bool.{eqb-true}
use Rattle.std.proofs.lemmas.Fn.{filter_same}
use Rattle.cq_normal.specs.Kept.{is_on}
use Rattle.cq_normal.proofs.Marked.{unmarked_kept}
use Rattle.cq_normal.proofs.keeping.kept.Goals as goal

pub returns-then-is_empty : goal.returns-then-is_empty
returns-then-is_empty c =
    let none : length c.args.marks.now ≡ 0 = eqb-true _ 0 (sym c.is_empty.ensures ∙ c.if-is_empty.true) in
    unmarked_kept c.args.marks.now c.args.tokens.items none

pub returns : goal.returns
returns c = filter_same _ (λ s. is_on true c.args.marks.now s.token.start) _ (λ s b f k. search rules) _ _ c.retain.ensures.filtered
