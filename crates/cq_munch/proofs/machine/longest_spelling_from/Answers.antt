use Rattle.std.proofs.Common.{sym, subst, arith}
use Rattle.std.proofs.lemmas.List.{length-map}
use Rattle.cq_munch.specs.Scans.{Scanned}
use Rattle.cq_munch.specs.declared.unit.Unit.{Unit}
use Rattle.cq_munch.proofs.Front.{scanned_won, scanned_kept, scanned_stopped, scanned_all, ch_at, as_many}
use Rattle.cq_munch.proofs.machine.longest_spelling_from.Goals as goal
use Rattle.cq_munch.proofs.machine.longest_spelling_from.Goals.{then-accepts, else-accepts}

pub returns-in-None : goal.returns-in-None
returns-in-None g c =
    scanned_stopped c.loop-i.invariant _ (as_many c.args.units.now c.loop-i.i c.loop-i-test.true) (ch_at c.args.units.now c.loop-i.i c.loop-i-test.true) c.in-None.ensures.none

pub loop-i-preserved : goal.loop-i-preserved
loop-i-preserved g c =
    let inside = as_many c.args.units.now c.loop-i.i c.loop-i-test.true in
    let is = ch_at c.args.units.now c.loop-i.i c.loop-i-test.true in
    elim c.if-accepts.branch [
      | then-accepts w ↦ subst (Scanned _ _ _ _) (sym w.found-is) (scanned_won c.loop-i.invariant _ inside is _ c.in-Some.ensures.next (c.accepts.ensures.0 w.if-accepts.true))
      | else-accepts w ↦ subst (Scanned _ _ _ _) (sym w.found-is) (scanned_kept c.loop-i.invariant _ inside is _ c.in-Some.ensures.next (λ h. let e = c.accepts.ensures.1 h in let f = w.if-accepts.false in absurd (cc)))
    ]

pub returns : goal.returns
returns g c =
    let many = length-map c.args.units.now (λ (u : Unit). u.ch) in
    scanned_all _ _ _ _ _ c.loop-i.invariant (omega (arith, many, c.loop-i-test.false))
