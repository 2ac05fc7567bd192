use Rattle.std.proofs.Common.{◌≡◌, refl, rules, subst}
use Rattle.std.proofs.lemmas.Result.{IfOk-weaker}
use Rattle.cq_board.specs.declared.answers.Refused.{Refused}
use Rattle.cq_board.specs.declared.answers.Refused.TheVariants as refused
use Rattle.cq_shared.specs.Answers.{Refuses}
use Rattle.cq_serve_kept.proofs.Lowering.{accepted_next, refused_absent, taken_as}
use Rattle.cq_serve_kept.proofs.FirstPass.{taken_waited}
use Rattle.cq_serve_kept.proofs.Refusing.{whatever}
use Rattle.cq_serve_kept.proofs.reloading.ReloadedTaker.take.Goals as goal

pub returns-in-Ok-clause-takes : goal.returns-in-Ok-clause-takes
returns-in-Ok-clause-takes g c = λ lines changes is. accepted_next c.args.self.now.hub.now c.args.settings.now changes c.args.self.now.pass c.accept.new.pass is c.args.change _ c.in-Ok.ensures.accepted

pub returns-in-Ok-clause-ready : goal.returns-in-Ok-clause-ready
returns-in-Ok-clause-ready g c = record { in_range = c.requires.ready.in_range; settings = c.requires.ready.settings; of = c.in-Ok.ensures.accepted.of }

pub returns-in-Err-Absent-clause-takes : goal.returns-in-Err-Absent-clause-takes
returns-in-Err-Absent-clause-takes g c = λ lines changes is.
    let hub = c.args.self.now.hub.now in
    let p = c.args.self.now.pass in
    let q = c.accept.new.pass in
    let cause : c.in-Err-Absent.field-0 ≡ refused.Absent = search rules in
    refused_absent hub c.args.settings.now changes p q is c.args.change (subst (λ (w : Refused). Refuses hub p q c.args.change w) cause c.in-Err-Absent.ensures.refused)

pub returns-in-Err-Absent-clause-ready : goal.returns-in-Err-Absent-clause-ready
returns-in-Err-Absent-clause-ready g c = record { in_range = c.requires.ready.in_range; settings = c.requires.ready.settings; of = c.in-Err-Absent.ensures.refused.of }

pub accept_again-requires-clause-ready : goal.accept_again-requires-clause-ready
accept_again-requires-clause-ready g c = record { in_range = c.requires.ready.in_range; settings = c.requires.ready.settings; of = c.in-Err-FullChanges.ensures.refused.of }

pub accept_again-requires-clause-says : goal.accept_again-requires-clause-says
accept_again-requires-clause-says g c = (c.args.change, c.requires.says)

pub returns-in-Err-FullChanges-clause-takes : goal.returns-in-Err-FullChanges-clause-takes
returns-in-Err-FullChanges-clause-takes g c =
    let hub = c.args.self.now.hub.now in
    let set = c.args.settings.now in
    let p = c.args.self.now.pass in
    let m = c.accept.new.pass in
    let q = c.accept_again.new.pass in
    IfOk-weaker c.accept_again.result _ _
    (taken_as hub set p m q c.args.change set.chunk c.args.line.now c.requires.says (λ changes is. taken_waited hub set changes p is m _ c.in-Err-FullChanges.ensures.refused) _ (λ lines changes taken. taken) (λ lines changes unheld. unheld))
    c.accept_again.ensures.takes

pub accept_again-requires-in-Err-FullText-clause-ready : goal.accept_again-requires-in-Err-FullText-clause-ready
accept_again-requires-in-Err-FullText-clause-ready g c = record { in_range = c.requires.ready.in_range; settings = c.requires.ready.settings; of = c.in-Err-FullText.ensures.refused.of }

pub accept_again-requires-in-Err-FullText-clause-says : goal.accept_again-requires-in-Err-FullText-clause-says
accept_again-requires-in-Err-FullText-clause-says g c = (c.args.change, c.requires.says)

pub returns-in-Err-FullText-clause-takes : goal.returns-in-Err-FullText-clause-takes
returns-in-Err-FullText-clause-takes g c =
    let hub = c.args.self.now.hub.now in
    let set = c.args.settings.now in
    let p = c.args.self.now.pass in
    let m = c.accept.new.pass in
    let q = c.accept_again-in-Err-FullText.new.pass in
    IfOk-weaker c.accept_again-in-Err-FullText.result _ _
    (taken_as hub set p m q c.args.change set.chunk c.args.line.now c.requires.says (λ changes is. taken_waited hub set changes p is m _ c.in-Err-FullText.ensures.refused) _ (λ lines changes taken. taken) (λ lines changes unheld. unheld))
    c.accept_again-in-Err-FullText.ensures.takes

pub returns-in-Err-FullChanges-clause-target : goal.returns-in-Err-FullChanges-clause-target
returns-in-Err-FullChanges-clause-target g c = whatever c.accept_again.result _ refl

pub returns-in-Err-FullText-clause-target : goal.returns-in-Err-FullText-clause-target
returns-in-Err-FullText-clause-target g c = whatever c.accept_again-in-Err-FullText.result _ refl
