use Rattle.std.proofs.Common.{◌≡◌, ℕ, Bool, false, List, ◌+◌, ◌-◌, drop, ap, ◌∙◌, arith}
use Rattle.cq_munch.specs.declared.unit.Unit.{Unit}
use Rattle.cq_munch.proofs.Orders.{InOrder-part}
use Rattle.cq_lex_java.specs.Translation.{translated}
use Rattle.cq_lex_java.proofs.Translating.{front, translated_all, skipped, plain, one, fault}
use Rattle.cq_lex_java.proofs.translation.translated.Goals as goal
use Rattle.cq_lex_java.proofs.translation.translated.Goals.{in-Plain+in_ok-push-in-Plain, in-One+in_ok-push-in-One}

-- the join's values are those of the branch
joined : (units out out' : List Unit) (skip skip' i : ℕ) (odd odd' : Bool) → out' ≡ out → skip' ≡ skip → odd' ≡ odd → front out (translated skip odd (drop (i + 1) units)) ≡ translated 0 false units → front out' (translated skip' odd' (drop (i + 1) units)) ≡ translated 0 false units
joined units out out' skip skip' i odd odd' out_is skip_is odd_is h = (λ j. front (out_is j) (translated (skip_is j) (odd_is j) (drop (i + 1) units))) ∙ h

pub loop-i-preserved-then-skip-gt0 : goal.loop-i-preserved-then-skip-gt0
loop-i-preserved-then-skip-gt0 c = skipped c.args.units.now c.loop-i.out.items c.loop-i.i c.loop-i.skip c.loop-i.odd c.loop-i-test.true c.loop-i.invariant c.if-skip-gt0.true

pub spanning-requires-clause-in_order : goal.spanning-requires-clause-in_order
spanning-requires-clause-in_order c = InOrder-part _ c.loop-i.i 0 c.args.units.now 1048576 c.requires

pub returns-in-Fault : goal.returns-in-Fault
returns-in-Fault c =
    fault c.args.units.now c.loop-i.out.items c.loop-i.i c.loop-i.skip c.loop-i.odd c.loop-i-test.true c.loop-i.invariant (omega (arith, c.if-skip-gt0.false)) c.in-Fault.ensures.step

pub loop-i-preserved : goal.loop-i-preserved
loop-i-preserved c =
    let units = c.args.units.now in
    let i = c.loop-i.i in
    let out = c.loop-i.out.items in
    let none : c.loop-i.skip ≡ 0 = omega (arith, c.if-skip-gt0.false) in
    elim c.match-read_at.branch [
      | in-Plain+in_ok-push-in-Plain w ↦
          joined units w.push.new.self.items _ c.loop-i.skip _ i w.odd_behind-odd.result _ (ap (λ v. v.items) w.out-is) w.skip-is w.odd-is
          ((λ j. front w.push.new.self.items (translated (none j) (w.odd_behind-odd.ensures j) (drop (i + 1) units)))
          ∙ plain units out i c.loop-i.skip c.loop-i.odd c.loop-i-test.true c.loop-i.invariant none w.in-Plain.ensures.step w.push.new.self.items w.in_ok-push-in-Plain.ensures.items)
      | in-One+in_ok-push-in-One w ↦
          joined units w.push-in-One.new.self.items _ (w.in-One.len - 1) _ i false _ (ap (λ v. v.items) w.out-is) w.skip-is w.odd-is
          (one units out i c.loop-i.skip c.loop-i.odd c.loop-i-test.true c.loop-i.invariant none w.in-One.ch w.in-One.len w.in-One.ensures.step w.push-in-One.new.self.items w.spanning.result w.in_ok-push-in-One.ensures.items w.spanning.ensures)
    ]

pub returns : goal.returns
returns c = translated_all c.args.units.now c.loop-i.out.items c.loop-i.i c.loop-i.skip c.loop-i.odd c.loop-i-test.false c.loop-i.invariant
