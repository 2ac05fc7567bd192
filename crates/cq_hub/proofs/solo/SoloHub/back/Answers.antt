use Rattle.std.proofs.Common.{[], ◌∷◌}
use Rattle.std.proofs.lemmas.Bool.{OnTrue_at, OnTrue_from, OnFalse_at, OnFalse_from, iff_false}
use Rattle.cq_base.specs.declared.settings.Settings.{Settings}
use Rattle.cq_history.specs.declared.event.Event.TheVariants as event
use Rattle.cq_history.specs.State.{State, state, IsTakenBy}
use Rattle.cq_hub.specs.declared.solo.SoloPass.{SoloPass}
use Rattle.cq_hub.specs.Hubs.{Extends, Never}
use Rattle.cq_hub.specs.SoloPasses.{SoloStands}
use Rattle.cq_hub.proofs.Growing.{calls_now}
use Rattle.cq_hub.proofs.Soloing.{solo_by, solo_says, solo_same, solo_there}
use Rattle.cq_hub.proofs.solo.SoloHub.back.Goals as goal

pub returns-clause-back : goal.returns-clause-back
returns-clause-back g c =
    let pass : SoloPass g.row.W.Denot = record { board = c.back.new.self; shards = c.args.pass.now.shards; asked = c.args.pass.now.asked } in
    OnTrue_from c.back.result (Extends (SoloStands g.W.Indexed.keys_in g.W.Indexed.IsWorkOf) (Unit {0}) Never c.args.self.now c.args.pass.now pass (λ n. event.Back n c.args.change ∷ []) (λ n mid. IsTakenBy (state 1 mid) c.args.change n)) (λ yes by h is.
    calls_now _ _ _ by _ _ h _ _
    (solo_says _ _ by h _ _ is (λ n (set : Settings) (s : State). IsTakenBy s c.args.change n) (c.back.ensures.taken.0 yes).1)
    (solo_by _ _ by h _ _ is _ (λ n. event.Back n c.args.change) (OnTrue_at yes c.back.ensures.adds) (λ x. tt)))

pub returns-clause-not_taken : goal.returns-clause-not_taken
returns-clause-not_taken g c =
    let pass : SoloPass g.row.W.Denot = record { board = c.back.new.self; shards = c.args.pass.now.shards; asked = c.args.pass.now.asked } in
    OnFalse_from c.back.result (Extends (SoloStands g.W.Indexed.keys_in g.W.Indexed.IsWorkOf) (Unit {0}) Never c.args.self.now c.args.pass.now pass (λ _. []) (λ n mid. IsTakenBy (state 1 mid) c.args.change n → ⊥)) (λ no₁ by h is.
    calls_now _ _ _ by _ _ h _ _
    (solo_says _ _ by h _ _ is (λ n (set : Settings) (s : State). IsTakenBy s c.args.change n → ⊥) (λ taken. iff_false c.back.ensures.taken no₁ (solo_there _ _ by h _ _ is, taken)))
    (solo_same _ _ by h _ _ is _ (OnFalse_at no₁ c.back.ensures.unchanged)))
