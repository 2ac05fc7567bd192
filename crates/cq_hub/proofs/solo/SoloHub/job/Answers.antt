use Rattle.std.proofs.Common.{Some, None, refl}
use Rattle.cq_base.specs.declared.settings.Settings.{Settings}
use Rattle.cq_history.specs.State.{State, IsAccepted}
use Rattle.cq_hub.specs.Says.{IsJobFor}
use Rattle.cq_hub.proofs.Growing.{calls_now}
use Rattle.cq_hub.proofs.Soloing.{solo_says, solo_said, solo_nil, not_done}
use Rattle.cq_hub.proofs.solo.SoloHub.job.Goals as goal

pub job-requires : goal.job-requires
job-requires g c = let r = c.requires.accepted in solo_said _ _ r.0 r.1 _ _ r.2 (λ n (set : Settings) (s : State). IsAccepted s c.args.change) r.3

pub returns-in-Ok-Some-clause-job : goal.returns-in-Ok-Some-clause-job
returns-in-Ok-Some-clause-job g c = λ by h is.
    let r = c.requires.accepted in
    let there = solo_said _ _ r.0 r.1 _ _ r.2 (λ n (set : Settings) (s : State). IsAccepted s c.args.change) r.3 in
    let none = rw c.in-Ok-Some.field-0-is at c.in-Ok-Some.ensures.none in
    let job = rw c.in-Ok-Some.field-0-is at c.in-Ok-Some.ensures.job in
    let text = rw c.in-Ok-Some.field-0-is at c.in-Ok-Some.ensures.text in
    calls_now _ _ _ by _ _ h _ _
    (solo_says _ _ by h _ _ is (λ n (set : Settings) (s : State). IsJobFor s c.args.change (Some c.in-Ok-Some.job)) (not_done c.args.pass.now.board.state c.args.change there (λ d. absurd (cc (none.1 d))), job.0, job.1, text))
    (solo_nil _ _ by h _ _ is)

pub returns-in-Ok-None-clause-job : goal.returns-in-Ok-None-clause-job
returns-in-Ok-None-clause-job g c = λ by h is.
    let none = rw c.in-Ok-None.field-0-is at c.in-Ok-None.ensures.none in
    calls_now _ _ _ by _ _ h _ _
    (solo_says _ _ by h _ _ is (λ n (set : Settings) (s : State). IsJobFor s c.args.change None) (none.0 refl))
    (solo_nil _ _ by h _ _ is)

pub returns-in-Err-clause-job : goal.returns-in-Err-clause-job
returns-in-Err-clause-job g c = λ by h is. calls_now _ _ _ by _ _ h _ _ tt (solo_nil _ _ by h _ _ is)
