use Rattle.std.proofs.Common.{sym, subst, ◌≤◌, length}
use Rattle.cq_munch.specs.Lexed.{AreBytes, InOrder}
use Rattle.cq_munch.proofs.Bytes.{units_of-bytes}
use Rattle.cq_munch.proofs.Decoding.{decoded_pushed, decoded_all, units_of-InOrder, length-units_of}
use Rattle.cq_munch.proofs.plain.of_str.Goals as goal

pub loop-ch-preserved : goal.loop-ch-preserved
loop-ch-preserved c =
    decoded_pushed _ _ _ c.loop-ch.start _ _ _ c.in-Some.ch c.loop-ch.invariant c.in-Some.ensures.steps.0 c.len_utf8-len.ensures.value c.in_ok-push.ensures.items

pub returns-clause-units : goal.returns-clause-units
returns-clause-units c = decoded_all c.args.text.now c.loop-ch.units.items c.loop-ch.start _ c.loop-ch.invariant c.in-None.ensures.steps.0.0

pub returns-clause-in_order : goal.returns-clause-in_order
returns-clause-in_order c =
    subst (λ v. InOrder 0 v (length c.args.text.now)) (sym (returns-clause-units c)) (units_of-InOrder c.args.text.now c.utf8.text)

pub returns-clause-short : goal.returns-clause-short
returns-clause-short c =
    subst (λ v. length v ≤ length c.args.text.now) (sym (returns-clause-units c)) (length-units_of c.args.text.now c.utf8.text)

pub returns-clause-bytes : goal.returns-clause-bytes
returns-clause-bytes c = subst (AreBytes c.args.text.now) (sym (returns-clause-units c)) (units_of-bytes c.args.text.now c.utf8.text)
