-- What a shared hub and its passes are, and for which histories a pass stands.
use Rattle.std.proofs.Common.{◌≡◌, ℕ, ◌<◌, ◌≤◌, true, List, drop, subst}
use Rattle.std.specs.Prelude.{All}
use Rattle.cq_base.specs.declared.settings.Settings.{Settings}
use Rattle.cq_base.specs.Changes.{IsSoundChange}
use Rattle.cq_history.specs.declared.event.Event.{Event}
use Rattle.cq_history.specs.State.{State, state, accepted}
use Rattle.cq_history.specs.Lawful.{Lawful}
use Rattle.cq_cells.specs.Passes.{IsFree, by_of, least}
use Rattle.cq_chain.specs.declared.about.About.{About}
use Rattle.cq_chain.specs.Passes as chain
use Rattle.cq_chain.specs.Passes.{BoardCells, BoardPass}
use Rattle.cq_shared.specs.declared.shared.Shared.{Shared}

module _ {W R : Type 0} where
  -- the cells of its board and its shards
  abbrev pub cells_of : Shared W R → BoardCells
  cells_of hub = hub.cells

  -- what they were made with: the settings, and how many callers there are
  abbrev pub about_of : Shared W R → About
  about_of hub = hub.cells.about

  abbrev pub settings_of : Shared W R → Settings
  settings_of hub = hub.cells.about.settings

  -- how many callers its history may have
  abbrev pub callers_of : Shared W R → ℕ
  callers_of hub = hub.cells.about.callers

  -- the pass is that of the first caller, or each caller may accept changes
  abbrev pub MayAccept : Shared W R → BoardPass → Type 0
  MayAccept hub p = hub.cells.about.first_only ≡ true → by_of p ≡ 0

  -- only the first caller may
  abbrev pub OnlyFirstAccepts : Shared W R → Type 0
  OnlyFirstAccepts hub = hub.cells.about.first_only ≡ true

  -- the state that a history of it leaves
  abbrev pub state_of : Shared W R → List Event → State
  state_of hub h = state (callers_of hub) h

  -- each shard has applied so many changes, as far as the pass knows
  abbrev pub HaveApplied : Shared W R → BoardPass → ℕ → Type 0
  HaveApplied hub p to = (s : ℕ) → s < (settings_of hub).shards → to ≤ least p s

  -- the pass is of this hub, which has some shards, and holds no cell of it
  pub record IsPassOf (hub : Shared W R) (p : BoardPass) : Type 0 where
    pub of : chain.IsPassOf (cells_of hub) p
    pub free : IsFree p
    pub shards : hub.shards ≡ (settings_of hub).shards
    pub some_shard : 0 < hub.shards

  -- it is so, is that of this caller, and has seen this history
  pub record SharedStands (hub : Shared W R) (p : BoardPass) (c : ℕ) (h : List Event) : Type 0 where
    pub is : IsPassOf hub p
    pub caller : by_of p ≡ c
    pub seen : p.seen ≡ h

  pub shared_lawful : (hub : Shared W R) (p : BoardPass) (c : ℕ) (h : List Event) → SharedStands hub p c h → Lawful (settings_of hub) (callers_of hub) h
  shared_lawful hub p c h is = subst (Lawful (settings_of hub) (callers_of hub)) is.seen is.is.of.law.lawful

  pub shared_sound : (hub : Shared W R) (p : BoardPass) (c : ℕ) (h : List Event) → SharedStands hub p c h → All IsSoundChange (accepted h)
  shared_sound hub p c h is = subst (λ l. All IsSoundChange (accepted l)) is.seen is.is.of.law.sound

  pub shared_caller : (hub : Shared W R) (p : BoardPass) (c : ℕ) (h : List Event) → SharedStands hub p c h → c < callers_of hub
  shared_caller hub p c h is = subst (λ n. n < callers_of hub) is.caller is.is.of.caller

-- for how many buckets a pass has asked
abbrev pub asked_by : BoardPass → ℕ
asked_by p = p.asked

-- the callers that ended in the pass
abbrev pub ended_in : BoardPass → List ℕ
ended_in p = drop 1 p.callers

-- the shards from one on and before another have applied so many changes, as far as the pass knows
abbrev pub HaveAppliedBetween : ℕ → ℕ → BoardPass → ℕ → Type 0
HaveAppliedBetween from until p to = (s : ℕ) → from ≤ s → s < until → to ≤ least p s
