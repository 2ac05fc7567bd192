-- What the board's shards are to apply next.
use Rattle.std.specs.Prelude.{◌≡◌, ℕ, ◌+◌, ◌-◌, ◌^◌, ◌<◌, ◌≤◌, List, Option, Vec, length, slice_index_or}
use Rattle.std.specs.declared.sync.Arc.{Arc}
use Rattle.std.specs.declared.alloc.Global.{Global}
use Rattle.cq_base.specs.declared.lang.Lang.{Lang}
use Rattle.cq_base.specs.declared.settings.Settings.{Settings}
use Rattle.cq_base.specs.declared.entry.Entry.{Entry}
use Rattle.cq_history.specs.State.{changes_in, ready}
use Rattle.cq_shard.specs.Shard.{HaveTheirWorks, IsOwnedOf, in_owned, all_brought}
use Rattle.cq_board.specs.Stands.{BoardState}
use Rattle.cq_hub.specs.declared.applying.Coming.{Coming}

-- the works of the board's changes after so many
abbrev pub AreWorksBehind : {W : Type 0} → (Settings → Lang → List ℕ → W → Type 0) → BoardState → ℕ → List (Option (Arc W Global)) → Type 0
AreWorksBehind IsWorkOf b from works = HaveTheirWorks (IsOwnedOf IsWorkOf b.settings) (changes_in b.state) from works

-- The works are those of the board's changes after one up to another, and for each shard from this number on there is what
-- they bring to it.
pub record IsComing {W : Type 0} (keys_in : W → List ℕ) (IsWorkOf : Settings → Lang → List ℕ → W → Type 0) (b : BoardState) (next : ℕ) (c : Coming W) : Type 0 where
  pub done : c.to ≤ ready b.state
  pub some : 0 < b.settings.shards
  pub number : length c.works.items ≡ c.to - c.from
  pub room : c.from + length c.works.items < 2 ^ 64
  pub works : AreWorksBehind IsWorkOf b c.from c.works.items
  pub lists : length c.parts.items ≡ b.settings.shards
  pub parts : (n : ℕ) (d : Vec Entry Global) → next ≤ n → n < b.settings.shards → (slice_index_or c.parts.items n d).items ≡ all_brought (in_owned keys_in) c.from n b.settings.shards c.works.items

-- for as many shards as before
abbrev pub StaysComing : {W : Type 0} → (W → List ℕ) → (Settings → Lang → List ℕ → W → Type 0) → BoardState → Coming W → Coming W → Type 0
StaysComing keys_in IsWorkOf b old new = (n : ℕ) → IsComing keys_in IsWorkOf b n old → IsComing keys_in IsWorkOf b n new
