use Rattle.std.proofs.Common.{◌≡◌, sym, ◌∙◌}
use Rattle.std.specs.Arc.{arc_value}
use Rattle.cq_base.specs.declared.settings.Settings.{Settings}
use Rattle.cq_history.specs.declared.event.Event.TheVariants as event
use Rattle.cq_history.specs.Changes.{IsWorkFor}
use Rattle.cq_history.specs.State.{State, slot_of, IsAccepted, IsDone, IsUndone}
use Rattle.cq_board.specs.declared.answers.Finished.{Finished}
use Rattle.cq_hub.proofs.Growing.{calls_now}
use Rattle.cq_hub.proofs.Soloing.{solo_by, solo_says, solo_said, solo_same, solo_there, not_done}
use Rattle.cq_hub.proofs.solo.SoloHub.finish.Goals as goal

pub done-requires : goal.done-requires
done-requires g c = let r = c.requires.work in record {
  caller = solo_there _ _ r.0 r.1 _ _ r.2;
  accepted = solo_said _ _ r.0 r.1 _ _ r.2 (λ n (set : Settings) (s : State). IsAccepted s c.args.change) r.3.0;
  work = solo_said _ _ r.0 r.1 _ _ r.2 (λ n (set : Settings) (s : State). IsWorkFor (g.W.Indexed.IsWorkOf set) (slot_of s c.args.change).change (arc_value c.args.work)) r.3.1;
}

pub returns-in-Done-clause-done : goal.returns-in-Done-clause-done
returns-in-Done-clause-done g c = λ same by h is.
    let r = c.requires.work in
    let there = solo_said _ _ r.0 r.1 _ _ r.2 (λ n (set : Settings) (s : State). IsAccepted s c.args.change) r.3.0 in
    calls_now _ _ _ by _ _ h _ _
    (solo_says _ _ by h _ _ is (λ n (set : Settings) (s : State). IsUndone s c.args.change) (not_done c.args.pass.now.board.state c.args.change there (λ d. let bad : Finished.Done ≡ Finished.Already = sym c.in-Done.is ∙ c.done.ensures.already.1 d in absurd (cc))))
    (solo_by _ _ by h _ _ is _ (λ n. event.Done n c.args.change) (c.done.ensures.adds c.in-Done.is) (λ x. tt))

pub returns-in-Already-clause-already : goal.returns-in-Already-clause-already
returns-in-Already-clause-already g c = λ same by h is.
    calls_now _ _ _ by _ _ h _ _
    (solo_says _ _ by h _ _ is (λ n (set : Settings) (s : State). IsDone s c.args.change) (c.done.ensures.already.0 c.in-Already.is))
    (solo_same _ _ by h _ _ is _ (c.done.ensures.unchanged c.in-Already.is))
