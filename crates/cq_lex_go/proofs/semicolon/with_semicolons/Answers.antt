use Rattle.std.proofs.Common.{◌≡◌, [], ◌∷◌, ◌++◌, sym, ap, subst, subst₂, ◌∙◌}
use Rattle.std.specs.Vec.Iter.{into_iter_items}
use Rattle.cq_lex_go.proofs.Inserting.{SoFar, one_more, before_next, next_within}
use Rattle.cq_lex_go.proofs.semicolon.with_semicolons.Goals as goal

pub push_between-requires-clause-ordered : goal.push_between-requires-clause-ordered
push_between-requires-clause-ordered c =
    let at = c.loop-spelled in
    let t = c.in-Some.spelled in
    let steps : into_iter_items at.spelled-iterator ≡ t ∷ into_iter_items c.next.new.self = c.in-Some.ensures.steps.0 in
    before_next c.args.text.now c.args.tokens.items at.all.items at.last t (into_iter_items c.next.new.self)
    (subst (SoFar c.args.text.now c.args.tokens.items at.all.items at.last) steps at.invariant.2)

pub push_between-requires-clause-within : goal.push_between-requires-clause-within
push_between-requires-clause-within c =
    let at = c.loop-spelled in
    let t = c.in-Some.spelled in
    let steps : into_iter_items at.spelled-iterator ≡ t ∷ into_iter_items c.next.new.self = c.in-Some.ensures.steps.0 in
    next_within c.args.text.now c.args.tokens.items at.all.items at.last t (into_iter_items c.next.new.self)
    (subst (SoFar c.args.text.now c.args.tokens.items at.all.items at.last) steps at.invariant.2)

pub loop-spelled-preserved : goal.loop-spelled-preserved
loop-spelled-preserved c =
    let at = c.loop-spelled in
    let t = c.in-Some.spelled in
    let steps : into_iter_items at.spelled-iterator ≡ t ∷ into_iter_items c.next.new.self = c.in-Some.ensures.steps.0 in
    let more = one_more c.args.text.now c.args.tokens.items at.all.items at.last t (into_iter_items c.next.new.self)
    (subst (SoFar c.args.text.now c.args.tokens.items at.all.items at.last) steps at.invariant.2) in
    let items = c.in_ok-push.ensures.items ∙ ap (λ v. v ++ t ∷ []) c.in_ok-push_between.ensures in
    (tt, tt, subst₂ (λ v last. SoFar c.args.text.now c.args.tokens.items v last (into_iter_items c.next.new.self)) (sym items) (sym c.ending-last.ensures) more)
