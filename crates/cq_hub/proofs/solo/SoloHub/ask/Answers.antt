use Rattle.std.proofs.Common.{◌≡◌}
use Rattle.cq_base.specs.declared.settings.Settings.{Settings}
use Rattle.cq_history.specs.declared.event.Event.TheVariants as event
use Rattle.cq_history.specs.State.{State}
use Rattle.cq_board.specs.Answers.{asked_of}
use Rattle.cq_hub.proofs.Growing.{calls_now}
use Rattle.cq_hub.proofs.Soloing.{solo_by, solo_says, solo_there}
use Rattle.cq_hub.proofs.solo.SoloHub.ask.Goals as goal

pub ask-requires : goal.ask-requires
ask-requires g c = solo_there _ _ _ _ _ _ c.requires.stands.2

pub returns-clause-asks : goal.returns-clause-asks
returns-clause-asks g c = λ by h is.
    calls_now _ _ _ by _ _ h _ _
    (solo_says _ _ by h _ _ is (λ n (set : Settings) (s : State). c.ask.result ≡ asked_of s) c.ask.ensures.answer)
    (solo_by _ _ by h _ _ is _ (λ n. event.Ask n) c.ask.ensures.adds (λ x. tt))
