use Rattle.std.proofs.Common.{◌≤◌, ℕ, Result, List, length, false, sym, subst}
use Rattle.std.specs.Prelude.{IfOk}
use Rattle.std.proofs.lemmas.Result.{IfOk-weaker}
use Rattle.cq_munch.specs.Lexed.{AreBytes, InOrder}
use Rattle.cq_munch.specs.declared.unit.Unit.{Unit}
use Rattle.cq_munch.proofs.Orders.{InOrder-to}
use Rattle.cq_lex_java.specs.Translation.{translated}
use Rattle.cq_lex_java.proofs.Translating.{translated-order, translated-short, translated-bytes, shorter}
use Rattle.cq_lex_java.proofs.language.JavaLexis.translate.Goals as goal

pub unescaped-requires-clause-in_order : goal.unescaped-requires-clause-in_order
unescaped-requires-clause-in_order c = InOrder-to 0 c.in_ok-units.units.items (length c.args.text.now) 1048576 c.requires.short c.in_ok-units.ensures.in_order

pub returns-clause-in_order : goal.returns-clause-in_order
returns-clause-in_order c =
    let units = c.in_ok-units.units.items in
    IfOk-weaker c.unescaped.result _ _
    (λ t is. subst (λ (r : Result (List Unit) ℕ). IfOk r (λ v. InOrder 0 v (length c.args.text.now))) (sym is) (translated-order 0 (length c.args.text.now) units c.in_ok-units.ensures.in_order))
    c.unescaped.ensures

pub returns-clause-short : goal.returns-clause-short
returns-clause-short c =
    let units = c.in_ok-units.units.items in
    IfOk-weaker c.unescaped.result _ _
    (λ t is. subst (λ (r : Result (List Unit) ℕ). IfOk r (λ v. length v ≤ length c.args.text.now)) (sym is) (shorter (length units) (length c.args.text.now) (translated 0 false units) c.in_ok-units.ensures.short (translated-short 0 false units)))
    c.unescaped.ensures

pub returns-clause-bytes : goal.returns-clause-bytes
returns-clause-bytes c =
    let units = c.in_ok-units.units.items in
    IfOk-weaker c.unescaped.result _ _
    (λ t is. subst (λ (r : Result (List Unit) ℕ). IfOk r (AreBytes c.args.text.now)) (sym is) (translated-bytes c.args.text.now (length c.args.text.now) 0 false 0 units c.in_ok-units.ensures.in_order c.in_ok-units.ensures.bytes))
    c.unescaped.ensures
