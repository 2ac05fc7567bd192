-- The first caller of a hub, the only one that accepts changes.
use Rattle.std.specs.Prelude.{◌≡◌, ℕ, [], ◌∷◌, ◌++◌}
use Rattle.cq_base.specs.declared.change.Change.{Change}
use Rattle.cq_board.specs.declared.answers.Refused.{Refused}
use Rattle.cq_cells.specs.Passes.{by_of}
use Rattle.cq_chain.specs.Passes.{BoardPass}
use Rattle.cq_history.specs.declared.event.Event.TheVariants as event
use Rattle.cq_history.specs.State.{accepted}
use Rattle.cq_hub.specs.Says.{IsAcceptedAs, IsRefusedFor}
use Rattle.cq_shared.specs.Calls.{Calls}
use Rattle.cq_shared.specs.SharedPasses.{IsPassOf, OnlyFirstAccepts, callers_of, settings_of}
use Rattle.cq_shared.specs.declared.shared.Shared.{Shared}

module _ {W R : Type 0} (hub : Shared W R) where
  -- it is the first caller's pass, and no other may accept changes; so it has seen each acceptance
  pub record IsFirst (p : BoardPass) : Type 0 where
    pub of : IsPassOf hub p
    pub caller : by_of p ≡ 0
    pub only : OnlyFirstAccepts hub

  module _ (p q : BoardPass) where
    -- what it has seen has one acceptance more
    pub record IsFirstAfter (change : Change) : Type 0 where
      pub is : IsFirst q
      pub accepts : accepted q.seen ≡ accepted p.seen ++ change ∷ []

    -- it has no acceptance more
    pub record IsFirstStill : Type 0 where
      pub is : IsFirst q
      pub accepts : accepted q.seen ≡ accepted p.seen

    -- the first caller accepted the change as this number, and the pass has seen that
    abbrev pub AcceptsByFirst : Change → ℕ → Type 0
    AcceptsByFirst change number = Calls hub p q (event.Accept 0 change ∷ []) (IsAcceptedAs (settings_of hub) (callers_of hub) change number)

    -- it was not accepted, for this cause
    abbrev pub Refuses : Change → Refused → Type 0
    Refuses change cause = Calls hub p q [] (IsRefusedFor (settings_of hub) (callers_of hub) change cause)

    -- no answer says whether it was
    abbrev pub SeesMore : Type 0
    SeesMore = Calls hub p q [] (λ _. Unit {0})
