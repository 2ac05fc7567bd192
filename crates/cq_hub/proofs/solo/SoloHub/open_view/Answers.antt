use Rattle.std.proofs.Common.{◌≡◌, ℕ, None}
use Rattle.cq_base.specs.declared.settings.Settings.{Settings}
use Rattle.cq_history.specs.declared.event.Event.TheVariants as event
use Rattle.cq_history.specs.State.{State, view_of}
use Rattle.cq_hub.specs.Views.{IsLatest}
use Rattle.cq_hub.proofs.Growing.{calls_now}
use Rattle.cq_hub.proofs.Soloing.{solo_by, solo_says, solo_said, solo_same, solo_there}
use Rattle.cq_hub.proofs.solo.SoloHub.open_view.Goals as goal

pub open-requires : goal.open-requires
open-requires g c = let r = c.requires.closed in record {
  caller = solo_there _ _ r.0 r.1 _ _ r.2;
  closed = solo_said _ _ r.0 r.1 _ _ r.2 (λ (n : ℕ) (set : Settings) (s : State). view_of s n ≡ None) r.3;
}

pub returns-in-Ok-clause-opened : goal.returns-in-Ok-clause-opened
returns-in-Ok-clause-opened g c = λ by h is.
    calls_now _ _ _ by _ _ h _ _
    (solo_says _ _ by h _ _ is (λ n (set : Settings) (s : State). IsLatest (g.W.Indexed.IsWorkOf set) s c.in-Ok.view) (c.in-Ok.ensures.version, c.in-Ok.ensures.listing, c.in-Ok.ensures.conditions))
    (solo_by _ _ by h _ _ is _ (λ n. event.Open n c.in-Ok.view.version) c.in-Ok.ensures.adds (λ x. tt))

pub returns-in-Err-clause-refused : goal.returns-in-Err-clause-refused
returns-in-Err-clause-refused g c = λ by h is. calls_now _ _ _ by _ _ h _ _ tt (solo_same _ _ by h _ _ is _ c.in-Err.ensures.err)
