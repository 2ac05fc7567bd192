use Rattle.std.proofs.Common.{List, length, sym, subst, ap, arith}
use Rattle.cq_munch.specs.Lexed.{AreBytes, InOrder, IsByte}
use Rattle.cq_munch.specs.declared.unit.Unit.{Unit}
use Rattle.cq_lex_c.proofs.Splicing.{spliced-InOrder, length-spliced, spliced-all}
use Rattle.cq_lex_c.proofs.language.CLexis.translate.Goals as goal

pub returns-clause-in_order : goal.returns-clause-in_order
returns-clause-in_order c =
    subst (λ (v : List Unit). InOrder 0 v (length c.args.text.now)) (sym c.in_ok-unspliced.ensures) (spliced-InOrder 0 0 (length c.args.text.now) c.in_ok-units.units.items c.in_ok-units.ensures.in_order)

pub returns-clause-short : goal.returns-clause-short
returns-clause-short c =
    let is = ap length c.in_ok-unspliced.ensures in
    let fewer = length-spliced 0 c.in_ok-units.units.items in
    omega (arith, is, fewer, c.in_ok-units.ensures.short)

pub returns-clause-bytes : goal.returns-clause-bytes
returns-clause-bytes c =
    subst (AreBytes c.args.text.now) (sym c.in_ok-unspliced.ensures) (spliced-all (IsByte c.args.text.now) 0 c.in_ok-units.units.items c.in_ok-units.ensures.bytes)
