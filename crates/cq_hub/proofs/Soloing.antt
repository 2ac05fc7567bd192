-- A board of one caller and its shards, where the board takes an event or stays.
use Rattle.std.proofs.Common.{◌≡◌, ℕ, ◌%◌, ◌<◌, ◌≤◌, arith, inr, List, [], ◌∷◌, ◌++◌, length, take, get_or, Some, refl, sym, ap, ◌∙◌, subst, append-nil}
use Rattle.std.specs.Prelude.{All, Contains}
use Rattle.std.proofs.lemmas.List.Elements.{All-cons, All-nil, All-contains}
use Rattle.std.proofs.lemmas.Nat.{mod_below}
use Rattle.std.proofs.lemmas.Bool.{false_from_ne_true}
use Rattle.cq_base.specs.declared.lang.Lang.{Lang}
use Rattle.cq_base.specs.declared.entry.Entry.{Entry}
use Rattle.cq_clones.specs.Lists.{AreAllInOrder}
use Rattle.cq_clones.specs.Windows.{EntryBefore}
use Rattle.cq_base.specs.declared.settings.Settings.{Settings}
use Rattle.cq_history.specs.declared.event.Event.{Event}
use Rattle.cq_history.specs.declared.event.Event.TheVariants.{Publish}
use Rattle.cq_history.specs.State.{State, state, accepted, changes_in, view_of, is_done, slot_of, IsAccepted, IsDone, IsUndone}
use Rattle.cq_history.specs.Core.{IsAppliedFor}
use Rattle.cq_history.proofs.States.{state_push}
use Rattle.cq_history.proofs.Prefixes.{changes_in-state}
use Rattle.cq_history.proofs.Doing.{slots_number}
use Rattle.cq_shard.specs.Shard.{Contents}
use Rattle.cq_shard.proofs.Standing.{later_stands, bucket_holds}
use Rattle.cq_board.proofs.VersionEntries.{have_the_entries}
use Rattle.cq_board.specs.Entries.{IsEntryAt}
use Rattle.cq_board.specs.Listings.{AreLive}
use Rattle.cq_board.specs.Stands.{BoardState, Adds}
use Rattle.cq_hub.specs.Hubs.{Grows, IsPublication}
use Rattle.cq_hub.specs.Shards.{IsShardOf, AreShardsOf}
use Rattle.cq_hub.specs.Solos.{IsSoloOf}
use Rattle.cq_hub.proofs.ShardSteps.{shards_then, entries_of_key}

module _ (IsWindow : Lang → List ℕ → ℕ → ℕ → Type 0) (set : Settings) (c : ℕ) (h : List Event) (old : BoardState) (shards : List Contents) (is : IsSoloOf IsWindow set c h old shards) where
  pub solo_state : old.state ≡ state 1 h
  solo_state = is.board.is ∙ ap (λ n. state n h) is.callers

  pub solo_nil : IsSoloOf IsWindow set c (h ++ []) old shards
  solo_nil = subst (λ g. IsSoloOf IsWindow set c g old shards) (sym (append-nil h)) is

  pub solo_same : (new : BoardState) → new ≡ old → IsSoloOf IsWindow set c (h ++ []) new shards
  solo_same new same = subst (λ b. IsSoloOf IsWindow set c (h ++ []) b shards) (sym same) solo_nil

  -- the shards apply more
  pub solo_shards : (more : List Contents) → AreShardsOf IsWindow old more → IsSoloOf IsWindow set c h old more
  solo_shards more are = record { caller = is.caller; settings = is.settings; callers = is.callers; board = is.board; stand = are; some_shard = is.some_shard }

  pub solo_adds : (new : BoardState) (e : Event) → Adds e old new → ((x : Contents) → Contains shards x → IsAppliedFor (x.applied ∷ []) e) → IsSoloOf IsWindow set c (h ++ e ∷ []) new shards
  solo_adds new e adds reaches = record {
    caller = is.caller;
    settings = adds.settings ∙ is.settings;
    callers = adds.callers ∙ is.callers;
    board = adds.history h is.board;
    stand = shards_then h e old new is.board adds IsWindow (later_stands IsWindow) shards is.stand reaches;
    some_shard = subst (λ set. 0 < set.shards) (sym adds.settings) is.some_shard;
  }

  -- a version that every shard has applied is published
  pub solo_publishes : (new : BoardState) (version : ℕ) → Adds (Publish version) old new → All (λ x. version ≤ x.applied) shards → IsSoloOf IsWindow set c (h ++ Publish version ∷ []) new shards
  solo_publishes new version adds applied =
      solo_adds new (Publish version) adds
      (λ x there. All-cons (λ a. version ≤ a) x.applied [] (All-contains (λ (y : Contents). version ≤ y.applied) shards x applied there) (All-nil (λ a. version ≤ a)))

  -- an event of the caller's own, which asks nothing of the shards
  pub solo_by : (new : BoardState) (E : ℕ → Event) → Adds (E 0) old new → ((x : Contents) → IsAppliedFor (x.applied ∷ []) (E 0)) → IsSoloOf IsWindow set c (h ++ E c ∷ []) new shards
  solo_by new E adds reaches = subst (λ n. IsSoloOf IsWindow set c (h ++ E n ∷ []) new shards) (sym is.caller) (solo_adds new (E 0) adds (λ x there. reaches x))

  -- what is said of the board is said of the history
  pub solo_says : (Q : ℕ → Settings → State → Type 0) → Q 0 old.settings old.state → Q c set (state 1 h)
  solo_says Q q = subst (λ n. Q n set (state 1 h)) (sym is.caller) (subst (λ s. Q 0 s (state 1 h)) is.settings (subst (Q 0 old.settings) solo_state q))

  pub solo_said : (Q : ℕ → Settings → State → Type 0) → Q c set (state 1 h) → Q 0 old.settings old.state
  solo_said Q q = subst (λ n. Q n old.settings old.state) is.caller (subst (λ s. Q c s old.state) (sym is.settings) (subst (Q c set) (sym solo_state) q))

  pub solo_there : 0 < length old.state.views
  solo_there = let e = is.callers in omega (arith, e)

  pub solo_number : length old.state.slots ≡ length (accepted h)
  solo_number = ap (λ (s : State). length s.slots) solo_state ∙ slots_number 1 h

  -- what the shard of a key answers for the caller's view
  pub solo_reads : (version key : ℕ) (live : List ℕ) (x : Contents) (bucket : List Entry) → x ≡ get_or shards (key % set.shards) x → view_of old.state 0 ≡ Some version → AreLive (take version (changes_in old.state)) live →
      AreAllInOrder EntryBefore (λ e. (e.key ≡ key) × Contains live e.change × Contains x.entries e) bucket → AreAllInOrder EntryBefore (IsEntryAt IsWindow (accepted h) version key) bucket
  solo_reads version key live x bucket read opened numbers asked =
      let some : 0 < set.shards = subst (λ s. 0 < s.shards) is.settings is.some_shard in
      let number : length shards ≡ set.shards = is.stand.number_is ∙ ap (λ s. s.shards) is.settings in
      let within : key % set.shards < length shards = subst (λ n. key % set.shards < n) (sym number) (mod_below key set.shards some) in
      let there : IsShardOf IsWindow old (key % set.shards) x = subst (IsShardOf IsWindow old (key % set.shards)) (sym read) (is.stand.each (key % set.shards) x within) in
      let shard : IsShardOf IsWindow old (key % old.settings.shards) x = subst (λ (s : Settings). IsShardOf IsWindow old (key % s.shards) x) (sym is.settings) there in
      subst (λ cs. AreAllInOrder EntryBefore (IsEntryAt IsWindow cs version key) bucket) (ap changes_in solo_state ∙ changes_in-state 1 h)
      (entries_of_key IsWindow (have_the_entries IsWindow (bucket_holds IsWindow)) h old is.board x 0 version key live bucket shard opened numbers asked)

-- the shards stand, over the windows that the board's settings give
pub solo_stand : (window_at : Settings → Lang → List ℕ → ℕ → ℕ → Type 0) (set : Settings) (c : ℕ) (h : List Event) (old : BoardState) (shards : List Contents) → IsSoloOf (window_at set) set c h old shards → AreShardsOf (window_at old.settings) old shards
solo_stand window_at set c h old shards is = subst (λ s. AreShardsOf (window_at s) old shards) (sym is.settings) is.stand

-- they apply more
pub solo_applies : (window_at : Settings → Lang → List ℕ → ℕ → ℕ → Type 0) (set : Settings) (c : ℕ) (h : List Event) (old : BoardState) (shards more : List Contents) → IsSoloOf (window_at set) set c h old shards → AreShardsOf (window_at old.settings) old more → IsSoloOf (window_at set) set c h old more
solo_applies window_at set c h old shards more is apply = solo_shards (window_at set) set c h old shards is more (subst (λ s. AreShardsOf (window_at s) old more) is.settings apply)

pub not_done : (s : State) (r : ℕ) → IsAccepted s r → (IsDone s r → ⊥) → IsUndone s r
not_done s r there never = (there, false_from_ne_true (is_done (slot_of s r)) (λ d. never (there, d)))

-- a publication, which has no caller
pub grows_published : (alone : Type 0) (c p : ℕ) (h : List Event) → Grows alone IsPublication c h (h ++ Publish p ∷ []) []
grows_published alone c p h = record { more = Publish p ∷ []; after_is = refl; own_is = refl; alone_is = λ a. (inr tt, tt) }

pub published_then : (p : ℕ) (h : List Event) → p ≡ (state 1 (h ++ Publish p ∷ [])).published
published_then p h = sym (ap (λ (s : State). s.published) (state_push 1 h (Publish p)))
