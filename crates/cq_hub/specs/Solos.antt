-- For which histories a board of one caller and its shards stand, and the laws of that.
use Rattle.std.proofs.Common.{◌≡◌, ℕ, ◌<◌, List, length, ap, ◌∙◌, subst, arith}
use Rattle.std.specs.Prelude.{All}
use Rattle.cq_base.specs.declared.lang.Lang.{Lang}
use Rattle.cq_base.specs.declared.settings.Settings.{Settings}
use Rattle.cq_base.specs.Changes.{IsSoundChange}
use Rattle.cq_history.specs.declared.event.Event.{Event}
use Rattle.cq_history.specs.State.{accepted, changes_in}
use Rattle.cq_history.specs.Lawful.{Lawful}
use Rattle.cq_history.proofs.Prefixes.{changes_in-state}
use Rattle.cq_shard.specs.Shard.{Contents}
use Rattle.cq_board.specs.Stands.{BoardState, StandsFor}
use Rattle.cq_hub.specs.Shards.{AreShardsOf}

-- the board is that of one caller, number 0, and is what the history leaves; the shards stand beside it
pub record IsSoloOf (IsWindow : Lang → List ℕ → ℕ → ℕ → Type 0) (set : Settings) (c : ℕ) (h : List Event) (b : BoardState) (shards : List Contents) : Type 0 where
  pub caller : c ≡ 0
  pub settings : b.settings ≡ set
  pub callers : length b.state.views ≡ 1
  pub board : StandsFor h b
  pub stand : AreShardsOf IsWindow b shards
  pub some_shard : 0 < b.settings.shards

module _ (IsWindow : Lang → List ℕ → ℕ → ℕ → Type 0) (set : Settings) (c : ℕ) (h : List Event) (b : BoardState) (shards : List Contents) (is : IsSoloOf IsWindow set c h b shards) where
  pub solo_lawful : Lawful set 1 h
  solo_lawful = subst (λ s. Lawful s 1 h) is.settings (subst (λ n. Lawful b.settings n h) is.callers is.board.lawful)

  pub solo_caller : c < 1
  solo_caller = let e = is.caller in omega (arith, e)

  pub solo_sound : All IsSoundChange (accepted h)
  solo_sound = subst (All IsSoundChange) (ap changes_in is.board.is ∙ changes_in-state (length b.state.views) h) is.board.sound
