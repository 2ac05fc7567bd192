-- What a hub has that took a log.
use Rattle.std.specs.Prelude.{◌≡◌, ℕ, Bool, true, false, List, [], ◌∷◌, ◌++◌, length, Ok}
use Rattle.cq_base.specs.Settings.{IsInRange}
use Rattle.cq_base.specs.declared.change.Change.{Change}
use Rattle.cq_base.specs.declared.settings.Settings.{Settings}
use Rattle.cq_cells.specs.Passes.{by_of}
use Rattle.cq_chain.specs.Passes.{BoardPass}
use Rattle.cq_history.specs.State.{accepted, ready}
use Rattle.cq_log.specs.Logs.{is_accepted}
use Rattle.cq_request.specs.Reading.{line_says}
use Rattle.cq_request.specs.declared.request.Request.TheVariants as request
use Rattle.cq_serve.specs.Turns.{AtEase}
use Rattle.cq_shared.specs.declared.shared.Shared.{Shared}
use Rattle.cq_shared.specs.SharedPasses.{IsPassOf, OnlyFirstAccepts, settings_of, state_of}

module _ {W R : Type 0} (hub : Shared W R) where
  -- the settings are in range and the hub's, of which it is a pass
  pub record MayReload (set : Settings) (p : BoardPass) : Type 0 where
    pub in_range : IsInRange set
    pub settings : settings_of hub ≡ set
    pub of : IsPassOf hub p

  -- the pass is the hub's first, the only one that accepts changes, and has made no other caller; it has no view open and nothing
  -- in hand, and these are the accepted changes
  pub record HasTaken (p : BoardPass) (set : Settings) (changes : List Change) : Type 0 where
    pub of : IsPassOf hub p
    pub caller : by_of p ≡ 0
    pub only : OnlyFirstAccepts hub
    pub next : p.next ≡ 1
    pub ease : AtEase (state_of hub p.seen) 0
    pub settings : settings_of hub ≡ set
    pub accepts : accepted p.seen ≡ changes

  -- the works of all accepted changes are done
  abbrev pub IsDone : BoardPass → Type 0
  IsDone p = ready (state_of hub p.seen) ≡ length (accepted p.seen)

  -- the floor is at the last change
  abbrev pub IsLow : BoardPass → Type 0
  IsLow p = (state_of hub p.seen).floor ≡ length (accepted p.seen)

  -- it has taken the change too, which is accepted after those before it; or it is not
  abbrev pub TakesAfter : BoardPass → Settings → List Change → Change → Bool → Type 0
  TakesAfter q set changes change true = (is_accepted set changes change ≡ true) × HasTaken q set (changes ++ change ∷ [])
  TakesAfter q set changes change false = is_accepted set changes change ≡ false

  module _ (p q : BoardPass) where
    -- what it had taken it still has
    abbrev pub StaysTaken : Type 0
    StaysTaken = (set : Settings) (changes : List Change) → HasTaken p set changes → HasTaken q set changes

    -- and their works are done
    abbrev pub StaysDone : Type 0
    StaysDone = (set : Settings) (changes : List Change) → HasTaken p set changes → HasTaken q set changes × IsDone q

    -- and the floor is at the last of them
    abbrev pub StaysLow : Type 0
    StaysLow = (set : Settings) (changes : List Change) → HasTaken p set changes → HasTaken q set changes × IsLow q

    -- it has taken the change or not, after whatever it had taken
    abbrev pub TakesChange : Change → Bool → Type 0
    TakesChange change result = (set : Settings) (changes : List Change) → HasTaken p set changes → TakesAfter q set changes change result

    -- the same of the change that a line says, to whoever reads lines of this chunk
    abbrev pub TakesSaid : ℕ → List ℕ → Bool → Type 0
    TakesSaid chunk line result = (change : Change) → line_says chunk line ≡ Ok (request.Change change) → TakesChange change result

    -- the same, if the floor was at the last change
    abbrev pub TakesWhereLow : Change → Bool → Type 0
    TakesWhereLow change result = (set : Settings) (changes : List Change) → HasTaken p set changes → IsLow p → TakesAfter q set changes change result
