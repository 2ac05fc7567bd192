use Rattle.std.proofs.Common.{Ok, sym, ap, subst}
use Rattle.cq_base.specs.declared.settings.Settings.{Settings}
use Rattle.cq_history.specs.declared.event.Event.TheVariants as event
use Rattle.cq_history.specs.State.{State, IsAccepted}
use Rattle.cq_hub.specs.Says.{IsFirstFree, IsNoneFree}
use Rattle.cq_hub.proofs.Growing.{calls_now}
use Rattle.cq_hub.proofs.Soloing.{solo_by, solo_says, solo_same, solo_there}
use Rattle.cq_hub.proofs.solo.SoloHub.take.Goals as goal

pub take-requires : goal.take-requires
take-requires g c = solo_there _ _ _ _ _ _ c.requires.stands.2

pub returns-in-Ok-Some-clause-taken : goal.returns-in-Ok-Some-clause-taken
returns-in-Ok-Some-clause-taken g c = λ by h is.
    let taken = rw c.in-Ok-Some.field-0-is at c.in-Ok-Some.ensures.taken in
    let job = rw c.in-Ok-Some.field-0-is at c.in-Ok-Some.ensures.job in
    let text = rw c.in-Ok-Some.field-0-is at c.in-Ok-Some.ensures.text in
    let first = rw c.in-Ok-Some.field-0-is at c.in-Ok-Some.ensures.first in
    let there = rw c.in-Ok-Some.field-0-is at c.in-Ok-Some.ensures.unchanged in
    calls_now _ _ _ by _ _ h _ _
    (solo_says _ _ by h _ _ is (λ n (set : Settings) (s : State). IsFirstFree s c.in-Ok-Some.taken) (first, subst (IsAccepted c.args.pass.now.board.state) (sym first) there, job, text))
    (solo_by _ _ by h _ _ is _ (λ n. event.Took n c.in-Ok-Some.taken.change) taken (λ x. tt))

pub returns-in-Ok-None-clause-taken : goal.returns-in-Ok-None-clause-taken
returns-in-Ok-None-clause-taken g c = λ by h is.
    let unchanged = rw c.in-Ok-None.field-0-is at c.in-Ok-None.ensures.unchanged in
    calls_now _ _ _ by _ _ h _ _
    (solo_says _ _ by h _ _ is (λ n (set : Settings) (s : State). IsNoneFree s) (c.in-Ok-None.ensures.none (ap Ok c.in-Ok-None.field-0-is)))
    (solo_same _ _ by h _ _ is _ unchanged)

pub returns-in-Err-clause-refused : goal.returns-in-Err-clause-refused
returns-in-Err-clause-refused g c = λ by h is. calls_now _ _ _ by _ _ h _ _ tt (solo_same _ _ by h _ _ is _ c.in-Err.ensures.err)
