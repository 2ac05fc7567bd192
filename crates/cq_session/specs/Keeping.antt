-- Who accepts the changes of a session, and what the session learns of that.
use Rattle.std.specs.Prelude.{ℕ, [], ◌∷◌, Option, Some, None}
use Rattle.cq_base.specs.declared.change.Change.{Change}
use Rattle.cq_board.specs.declared.answers.Refused.{Refused}
use Rattle.cq_history.specs.declared.event.Event.TheVariants as event
use Rattle.cq_hub.specs.Answers.{Refuses, SeesMore}
use Rattle.cq_hub.specs.Hubs.{Extends, Never}
use Rattle.cq_hub.specs.Says.{IsAcceptedAs}
use Rattle.cq_hub.specs.declared.hub.Hub.{Ghosts}
use Rattle.cq_talk.specs.declared.unkept.Unkept.{Unkept}
use Rattle.cq_talk.specs.declared.unkept.Unkept.TheVariants as unkept

-- a caller's changes are accepted by itself
abbrev pub itself : ℕ → ℕ
itself c = c

module _ {H W P : Type 0} (of : Ghosts H W P) (hub : H) where
  module _ (old new : P) where
    -- the change was accepted, as this number, by the caller who accepts what this one sends
    abbrev pub AcceptsBy : (ℕ → ℕ) → Change → ℕ → Type 0
    AcceptsBy acceptor change number = Extends of.Stands of.alone Never hub old new (λ c. event.Accept (acceptor c) change ∷ []) (λ _. IsAcceptedAs (of.settings hub) (of.callers hub) change number)

    -- it was not accepted, for this cause; or no reply reports whether it was
    abbrev pub RefusesKept : Change → Unkept → Type 0
    RefusesKept change (unkept.Refused cause) = Refuses of.Stands of.alone of.settings of.callers hub old new change cause
    RefusesKept change unkept.Broken = SeesMore of.Stands of.alone of.settings of.callers hub old new

-- by an answer: if there is none, a line could not be kept, and this holds
abbrev pub IsBroken : {A : Type 0} → Type 0 → Type 0 → Option A → Type 0
IsBroken Breaks Holds None = Breaks × Holds
IsBroken Breaks Holds (Some a) = Unit {0}
