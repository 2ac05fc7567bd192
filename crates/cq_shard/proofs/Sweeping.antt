-- What a shard stands for after a sweep.
use Rattle.std.proofs.Common.{◌≢◌, ℕ, ◌<◌, ◌≤◌, List, [], subst, ⊎_elim, arith, append-nil}
use Rattle.std.specs.Prelude.{◌⊎◌, ◌↔◌, Contains}
use Rattle.std.proofs.lemmas.Bool.{cases_lt}
use Rattle.std.proofs.lemmas.List.Elements.{All-filter}
use Rattle.std.proofs.lemmas.List.Kept.{AllPairs-filter, IsStrictlyIncreasing-filter}
use Rattle.cq_base.specs.declared.lang.Lang.{Lang}
use Rattle.cq_base.specs.declared.entry.Entry.{Entry}
use Rattle.cq_base.specs.declared.change.Change.{Change}
use Rattle.cq_base.proofs.Lists.{Contains-filter, Contains-from_filter}
use Rattle.cq_history.specs.Gone.{IsGone, IsKept, AreKeptPuts}
use Rattle.cq_history.proofs.Forgetting.{stays_gone}
use Rattle.cq_history.proofs.HeldKept.{held_kept}
use Rattle.cq_shard.specs.Laws.{StandsSwept, KnowsWhatIsKept}
use Rattle.cq_shard.specs.Shard.{Contents, IsShard, IsKnownPut, row_of, swept}
use Rattle.cq_shard.specs.Stores.{left_to}
use Rattle.cq_shard.specs.Tables.{stays, staying}
use Rattle.cq_shard.proofs.Staying.{stays_above, stays_kept, stays_cases}

pub from_left : (floor : ℕ) (keep : List ℕ) (entries : List Entry) (e : Entry) → Contains (left_to floor keep entries) e → Contains entries e × ((floor < e.change) ⊎ Contains keep e.change)
from_left floor keep entries e c =
    let found = Contains-from_filter (λ (e : Entry). stays floor keep e.change) entries e c in
    (found.0, stays_cases floor keep e.change found.1)

pub to_left : (floor : ℕ) (keep : List ℕ) (entries : List Entry) (e : Entry) → Contains entries e → (floor < e.change) ⊎ Contains keep e.change → Contains (left_to floor keep entries) e
to_left floor keep entries e here is = Contains-filter (λ (e : Entry). stays floor keep e.change) entries e here
    (⊎_elim (λ above. stays_above floor keep e.change above) (λ there. stays_kept floor keep e.change there) is)

pub swept_is_shard : (c : Contents) (floor : ℕ) (keep : List ℕ) → floor ≤ c.applied → IsShard c → IsShard (swept floor keep c)
swept_is_shard c floor keep low is = record {
  mine = is.mine;
  passed = low;
  rising = IsStrictlyIncreasing-filter (λ n. stays floor keep n) c.puts is.rising;
  noted = All-filter (λ n. stays floor keep n) (λ n. n ≤ c.applied) c.puts is.noted;
  known = All-filter (λ (e : Entry). stays floor keep e.change) (λ (e : Entry). e.change ≤ c.applied) c.entries is.known;
  different = AllPairs-filter (λ a b. a ≢ b) (λ (e : Entry). stays floor keep e.change) c.entries is.different;
}

-- what a higher floor keeps, a lower one keeps
kept_lower : (changes : List Change) (floor higher n : ℕ) → floor ≤ higher → IsKept changes higher n → IsKept changes floor n
kept_lower changes floor higher n low is = (is.0, λ gone. is.1 (subst (λ cs. IsGone cs higher n) (append-nil changes) (stays_gone changes [] floor higher n low gone)))

-- the puts known at a higher floor are those before that are above it, or that it keeps
puts_kept : (changes : List Change) (applied floor higher : ℕ) (keep puts : List ℕ) → floor ≤ higher → AreKeptPuts changes higher keep → ((n : ℕ) → Contains puts n ↔ IsKnownPut changes applied floor n) → (n : ℕ) → Contains (staying higher keep puts) n ↔ IsKnownPut changes applied higher n
puts_kept changes applied floor higher keep puts low are were n = (
  λ h.
      let found = Contains-from_filter (λ n. stays higher keep n) puts n h in
      let was = (were n).0 found.0 in
      let kept : IsKept changes higher n = ⊎_elim
      (λ (above : higher < n). (was.0.0, λ gone. let within = gone.within in omega (arith, within, above)))
      (λ there. ((are.each n).0 there).0)
      (stays_cases higher keep n found.1) in
      (kept, was.1, was.2),
  λ h. Contains-filter (λ n. stays higher keep n) puts n
      ((were n).1 (kept_lower changes floor higher n low h.0, h.1, h.2))
      (⊎_elim
      (λ (above : higher < n). stays_above higher keep n above)
      (λ (within : n ≤ higher). stays_kept higher keep n ((are.each n).1 (h.0, within, h.2)))
      (cases_lt higher n)),
)

pub stands_swept : (IsWindow : Lang → List ℕ → ℕ → ℕ → Type 0) → StandsSwept IsWindow
stands_swept IsWindow changes c floor keep low are stands = record {
  applied = stands.applied;
  puts = puts_kept changes c.applied c.floor floor keep c.puts low are stands.puts;
  entries = λ e.
      let held = held_kept IsWindow c.shards changes c.shard c.applied c.floor floor (row_of e) keep low are in (
        λ h. let found = from_left floor keep c.entries e h in held.1 ((stands.entries e).0 found.0, found.1),
        λ h. let is = held.0 h in to_left floor keep c.entries e ((stands.entries e).1 is.0) is.1,
      );
}

pub kept_known : (IsWindow : Lang → List ℕ → ℕ → ℕ → Type 0) → KnowsWhatIsKept IsWindow
kept_known IsWindow changes c floor keep low high are stands n there =
    let is = (are.each n).0 there in
    let most = is.1 in
    (stands.puts n).1 (kept_lower changes c.floor floor n low is.0, omega (arith, most, high), is.2)
