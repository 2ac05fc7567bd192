use Rattle.std.proofs.Common.{◌≡◌, rules, subst}
use Rattle.cq_board.specs.declared.answers.Refused.{Refused}
use Rattle.cq_board.specs.declared.answers.Refused.TheVariants as refused
use Rattle.cq_shared.specs.Answers.{Refuses}
use Rattle.cq_serve_kept.proofs.Lowering.{accepted_next, refused_low}
use Rattle.cq_serve_kept.proofs.reloading.accept_low.Goals as goal

pub returns-in-Ok-clause-takes : goal.returns-in-Ok-clause-takes
returns-in-Ok-clause-takes g c = λ set changes is low. accepted_next c.args.hub.now set changes c.args.pass.now c.accept.new.pass is c.args.change _ c.in-Ok.ensures.accepted

pub returns-in-Ok-clause-of : goal.returns-in-Ok-clause-of
returns-in-Ok-clause-of g c = c.in-Ok.ensures.accepted.of

pub returns-in-Err-Absent-clause-takes : goal.returns-in-Err-Absent-clause-takes
returns-in-Err-Absent-clause-takes g c = λ set changes is low.
    let hub = c.args.hub.now in
    let p = c.args.pass.now in
    let q = c.accept.new.pass in
    let cause : c.in-Err-Absent.field-0 ≡ refused.Absent = search rules in
    let call = subst (λ (w : Refused). Refuses hub p q c.args.change w) cause c.in-Err-Absent.ensures.refused in
    refused_low hub set changes p q is c.args.change refused.Absent call (λ memory. absurd (cc)) low

pub returns-in-Err-Absent-clause-of : goal.returns-in-Err-Absent-clause-of
returns-in-Err-Absent-clause-of g c = c.in-Err-Absent.ensures.refused.of

pub returns-in-Err-FullChanges-clause-takes : goal.returns-in-Err-FullChanges-clause-takes
returns-in-Err-FullChanges-clause-takes g c = λ set changes is low.
    let hub = c.args.hub.now in
    let p = c.args.pass.now in
    let q = c.accept.new.pass in
    let cause : c.in-Err-FullChanges.field-0 ≡ refused.FullChanges = search rules in
    let call = subst (λ (w : Refused). Refuses hub p q c.args.change w) cause c.in-Err-FullChanges.ensures.refused in
    refused_low hub set changes p q is c.args.change refused.FullChanges call (λ memory. absurd (cc)) low

pub returns-in-Err-FullChanges-clause-of : goal.returns-in-Err-FullChanges-clause-of
returns-in-Err-FullChanges-clause-of g c = c.in-Err-FullChanges.ensures.refused.of

pub returns-in-Err-FullText-clause-takes : goal.returns-in-Err-FullText-clause-takes
returns-in-Err-FullText-clause-takes g c = λ set changes is low.
    let hub = c.args.hub.now in
    let p = c.args.pass.now in
    let q = c.accept.new.pass in
    let cause : c.in-Err-FullText.field-0 ≡ refused.FullText = search rules in
    let call = subst (λ (w : Refused). Refuses hub p q c.args.change w) cause c.in-Err-FullText.ensures.refused in
    refused_low hub set changes p q is c.args.change refused.FullText call (λ memory. absurd (cc)) low

pub returns-in-Err-FullText-clause-of : goal.returns-in-Err-FullText-clause-of
returns-in-Err-FullText-clause-of g c = c.in-Err-FullText.ensures.refused.of
