use Rattle.std.proofs.Common.{◌≡◌, ◌∙◌, None, Some, inl, inr, ⊎_elim}
use Rattle.cq_base.specs.declared.settings.Settings.{Settings}
use Rattle.cq_history.specs.declared.event.Event.TheVariants as event
use Rattle.cq_history.specs.State.{State}
use Rattle.cq_board.specs.Answers.{refusal_of}
use Rattle.cq_hub.proofs.Growing.{calls_now, accepted_more}
use Rattle.cq_hub.proofs.Soloing.{solo_by, solo_says, solo_same, solo_there, solo_number}
use Rattle.cq_hub.proofs.solo.SoloHub.accept.Goals as goal

pub accept-requires : goal.accept-requires
accept-requires g c = record { caller = solo_there _ _ _ _ _ _ c.requires.stands.2; sound = c.requires.sound }

pub returns-in-Ok-clause-accepted : goal.returns-in-Ok-clause-accepted
returns-in-Ok-clause-accepted g c = λ by h is.
    let new = solo_by _ _ by h _ _ is _ (λ n. event.Accept n c.args.change) c.in-Ok.ensures.adds (λ x. tt) in
    calls_now _ _ _ by _ _ h _ _
    (solo_says _ _ by h _ _ is (λ n (set : Settings) (s : State). refusal_of set s c.args.change ≡ None) c.in-Ok.ensures.cause, c.in-Ok.ensures.number ∙ solo_number _ _ by _ _ _ new ∙ accepted_more by c.args.change h)
    new

pub returns-in-Err-clause-refused : goal.returns-in-Err-clause-refused
returns-in-Err-clause-refused g c = λ by h is.
    calls_now _ _ _ by _ _ h _ _
    (⊎_elim (λ memory. inl memory) (λ cause. inr (solo_says _ _ by h _ _ is (λ n (set : Settings) (s : State). refusal_of set s c.args.change ≡ Some c.in-Err.cause) cause)) c.in-Err.ensures.cause)
    (solo_same _ _ by h _ _ is _ c.in-Err.ensures.err)
