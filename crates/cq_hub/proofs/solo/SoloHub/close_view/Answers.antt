use Rattle.std.proofs.Common.{ℕ}
use Rattle.std.specs.Prelude.{IsSome}
use Rattle.cq_base.specs.declared.settings.Settings.{Settings}
use Rattle.cq_history.specs.declared.event.Event.TheVariants as event
use Rattle.cq_history.specs.State.{State, view_of}
use Rattle.cq_hub.proofs.Growing.{calls_now}
use Rattle.cq_hub.proofs.Soloing.{solo_by, solo_said, solo_there}
use Rattle.cq_hub.proofs.solo.SoloHub.close_view.Goals as goal

pub shut-requires : goal.shut-requires
shut-requires g c = let r = c.requires.viewing in record {
  caller = solo_there _ _ r.0 r.1 _ _ r.2;
  viewing = solo_said _ _ r.0 r.1 _ _ r.2 (λ (n : ℕ) (set : Settings) (s : State). IsSome (view_of s n)) r.3;
}

pub returns-clause-shut : goal.returns-clause-shut
returns-clause-shut g c = λ by h is. calls_now _ _ _ by _ _ h _ _ tt (solo_by _ _ by h _ _ is _ (λ n. event.Shut n) c.shut.ensures (λ x. tt))
