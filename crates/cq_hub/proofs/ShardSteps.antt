-- The shards beside a board: before any event, after one more, where one applies the next change, and what they answer.
use Rattle.std.proofs.Common.{◌≡◌, ℕ, ◌+◌, ◌%◌, ◌<◌, ◌≤◌, List, [], ◌∷◌, ◌++◌, length, take, get_or, set, Option, Some, None, Global, sym, ap, ◌∙◌, subst, subst₂, ⊎_elim, arith}
use Rattle.std.specs.Prelude.{◌^◌, Contains, IfSome}
use Rattle.std.specs.Arc.{arc_value}
use Rattle.std.specs.declared.sync.Arc.{Arc}
use Rattle.std.proofs.lemmas.Bool.{cases_eq, cases_lt}
use Rattle.std.proofs.lemmas.List.{length-map, length-set, length_push, get_or_append_left, get_or_push, get_or-set_same, get_or-set_other}
use Rattle.std.proofs.lemmas.List.Elements.{Contains-get_or}
use Rattle.std.proofs.lemmas.List.Sums.{prefix_len-le-length}
use Rattle.cq_base.specs.declared.lang.Lang.{Lang}
use Rattle.cq_base.specs.declared.entry.Entry.{Entry}
use Rattle.cq_base.specs.declared.change.Change.{Change}
use Rattle.cq_base.specs.declared.change.Change.TheVariants.{Put, Drop, Gate}
use Rattle.cq_clones.specs.Lists.{AreAllInOrder}
use Rattle.cq_clones.specs.Windows.{EntryBefore}
use Rattle.cq_clones.proofs.InOrder.{in_order_same}
use Rattle.cq_history.specs.declared.event.Event.{Event}
use Rattle.cq_history.specs.Changes.{change_at, IsWorkFor}
use Rattle.cq_history.specs.State.{State, Slot, after, changes_in, accepted, is_done, ready, view_of, state as state_of}
use Rattle.cq_history.specs.Lawful.{Allowed, Lawful}
use Rattle.cq_history.specs.Core.{IsReached, IsAppliedFor}
use Rattle.cq_history.proofs.States.{state_push, Lawful_last}
use Rattle.cq_history.proofs.Prefixes.{changes_after}
use Rattle.cq_history.proofs.Cores.{floor-rises}
use Rattle.cq_history.proofs.Falling.{stays_reached}
use Rattle.cq_history.proofs.Bounds.{InOrder, in_order}
use Rattle.cq_shard.specs.Shard.{Contents, StandsFor, HasItsWork, HaveTheirWorks}
use Rattle.cq_shard.specs.Laws.{StandsAtFirst, StandsOn}
use Rattle.cq_board.specs.Entries.{IsEntryAt, ShardsHaveTheEntries}
use Rattle.cq_board.specs.Listings.{AreLive}
use Rattle.cq_board.specs.Stands as board
use Rattle.cq_hub.specs.Shards.{IsShardOf, AreShardsOf, AreFresh}

-- ---- before any event

pub fresh_shards : (IsWindow : Lang → List ℕ → ℕ → ℕ → Type 0) → StandsAtFirst IsWindow → (b : board.BoardState) (shards : List Contents) → board.StandsFor [] b → AreFresh b.settings.shards shards → AreShardsOf IsWindow b shards
fresh_shards IsWindow law b shards stands are = record {
  number_is = are.number_is;
  each = λ i d lt.
      let here = are.each i d lt in
      let published : b.state.published ≡ 0 = ap (λ (s : State). s.published) stands.is in
      let applied : (get_or shards i d).applied ≡ 0 = ap (λ (c : Contents). c.applied) here in
      let floor : (get_or shards i d).floor ≡ 0 = ap (λ (c : Contents). c.floor) here in
      record {
        stands = law (changes_in b.state) (get_or shards i d) applied (ap (λ (c : Contents). c.puts) here) (ap (λ (c : Contents). c.entries) here);
        reached = (omega (arith, published, applied), omega (arith, applied));
        swept = omega (arith, floor);
        number_is = ap (λ (c : Contents). c.shard) here;
        shards = ap (λ (c : Contents). c.shards) here;
      };
}

-- ---- one event more

module _ (h : List Event) (e : Event) (old new : board.BoardState) (is : board.StandsFor h old) (adds : board.Adds e old new) where
  pub state_then : new.state ≡ after old.state e
  state_then =
      let past = adds.history h is in
      past.is ∙ ap (λ n. state_of n (h ++ e ∷ [])) adds.callers ∙ state_push (length old.state.views) h e ∙ ap (λ s. after s e) (sym is.is)

  pub allowed_then : Allowed old.settings old.state e
  allowed_then =
      let law : Lawful old.settings (length old.state.views) (h ++ e ∷ []) = subst₂ (λ set n. Lawful set n (h ++ e ∷ [])) adds.settings adds.callers (adds.history h is).lawful in
      subst (λ s. Allowed old.settings s e) (sym is.is) (Lawful_last old.settings (length old.state.views) h e law)

  changes_then : changes_in new.state ≡ changes_in old.state ++ accepted (e ∷ [])
  changes_then = ap changes_in state_then ∙ changes_after old.state e

  module _ (IsWindow : Lang → List ℕ → ℕ → ℕ → Type 0) (law : StandsOn IsWindow) where
    shard_then : (n : ℕ) (c : Contents) → IsShardOf IsWindow old n c → IsAppliedFor (c.applied ∷ []) e → IsShardOf IsWindow new n c
    shard_then n c was reaches =
        let order : InOrder old.state = subst InOrder (sym is.is) (in_order old.settings (length old.state.views) h is.lawful) in
        let passed : c.floor ≤ c.applied = omega (arith, was.swept, order.floor, was.reached.0) in
        let rises : old.state.floor ≤ (after old.state e).floor = floor-rises old.settings old.state e allowed_then in
        record {
          stands = subst (λ cs. StandsFor IsWindow cs c) (sym changes_then) (law (changes_in old.state) (accepted (e ∷ [])) c passed was.stands);
          reached = subst (λ s. IsReached s c.applied) (sym state_then) (stays_reached old.state e c.applied reaches was.reached);
          swept = subst (λ (s : State). c.floor ≤ s.floor) (sym state_then) (omega (arith, was.swept, rises));
          number_is = was.number_is;
          shards = was.shards ∙ sym (ap (λ set. set.shards) adds.settings);
        }

    pub shards_then : (shards : List Contents) → AreShardsOf IsWindow old shards → ((c : Contents) → Contains shards c → IsAppliedFor (c.applied ∷ []) e) → AreShardsOf IsWindow new shards
    shards_then shards are reaches = record {
      number_is = are.number_is ∙ sym (ap (λ set. set.shards) adds.settings);
      each = λ i d lt. shard_then i (get_or shards i d) (are.each i d lt) (reaches (get_or shards i d) (Contains-get_or shards i d lt));
    }

-- ---- the next change is applied

module _ (IsWindow : Lang → List ℕ → ℕ → ℕ → Type 0) (b : board.BoardState) where
  -- the shard applied changes that are ready after those that it had
  pub shard_applied : (n : ℕ) (old new : Contents) → (old.applied ≤ ready b.state → new.applied ≤ ready b.state) → old.applied ≤ new.applied → new.shard ≡ old.shard → new.shards ≡ old.shards → new.floor ≡ old.floor → (StandsFor IsWindow (changes_in b.state) old → StandsFor IsWindow (changes_in b.state) new) → IsShardOf IsWindow b n old → IsShardOf IsWindow b n new
  shard_applied n old new ready_is more shard shards floor stands was = record {
    stands = stands was.stands;
    reached = (omega (arith, was.reached.0, more), ready_is was.reached.1);
    swept = omega (arith, was.swept, floor);
    number_is = shard ∙ was.number_is;
    shards = shards ∙ was.shards;
  }

  -- one of them is another one of its number
  pub shards_set : (shards : List Contents) (i : ℕ) (new : Contents) → i < length shards → IsShardOf IsWindow b i new → AreShardsOf IsWindow b shards → AreShardsOf IsWindow b (set shards i new)
  shards_set shards i new within is are = record {
    number_is = length-set shards i new ∙ are.number_is;
    each = λ n d lt.
        let there : n < length shards = omega (arith, lt, length-set shards i new) in
        ⊎_elim
        (λ (same : n ≡ i). subst (λ m. IsShardOf IsWindow b m (get_or (set shards i new) m d)) (sym same) (subst (IsShardOf IsWindow b i) (sym (get_or-set_same shards i new d within)) is))
        (λ other. subst (IsShardOf IsWindow b n) (sym (get_or-set_other shards i n new d other)) (are.each n d there))
        (cases_eq n i);
  }

-- what is so of the first shards is so of one more
pub each_more : (P : Contents → Type 0) (shards : List Contents) (i : ℕ) (new : Contents) → i < length shards → P new → ((k : ℕ) (d : Contents) → k < i → P (get_or shards k d)) → (k : ℕ) (d : Contents) → k < i + 1 → P (get_or (set shards i new) k d)
each_more P shards i new within here before k d lt =
    ⊎_elim
    (λ (same : k ≡ i). subst (λ m. P (get_or (set shards i new) m d)) (sym same) (subst P (sym (get_or-set_same shards i new d within)) here))
    (λ other. subst P (sym (get_or-set_other shards i k new d other)) (before k d (omega (arith, lt, other))))
    (cases_eq k i)

-- ---- the work of the next change

module _ {W : Type 0} (IsWork : Lang → List ℕ → W → Type 0) where
  -- an owner of a work
  abbrev IsOwned : Lang → List ℕ → Arc W Global → Type 0
  IsOwned lang text w = IsWork lang text (arc_value w)

  -- with the work of the change after them they are those of one change more
  pub works_more : (changes : List Change) (from : ℕ) (works : List (Option (Arc W Global))) (work : Option (Arc W Global)) → HasItsWork IsOwned (change_at changes (from + length works + 1)) work → HaveTheirWorks IsOwned changes from works → HaveTheirWorks IsOwned changes from (works ++ work ∷ [])
  works_more changes from works work here before i d lt =
      let many = length_push works work in
      ⊎_elim
      (λ (low : i < length works). subst (HasItsWork IsOwned (change_at changes (from + i + 1))) (sym (get_or_append_left works (work ∷ []) d i low)) (before i d low))
      (λ (high : length works ≤ i).
      let at : length works ≡ i = omega (arith, lt, many, high) in
      subst (HasItsWork IsOwned (change_at changes (from + i + 1))) (sym (get_or_push works work d i at))
      (subst (λ n. HasItsWork IsOwned (change_at changes (from + n + 1)) work) at here))
      (cases_lt i (length works))

  -- a work has few keys where those of a text have
  pub few_for : (keys_in : W → List ℕ) → ((lang : Lang) (text : List ℕ) (w : W) → IsWork lang text w → length (keys_in w) < 2 ^ 32) → (c : Change) (work : Option (Arc W Global)) → IfSome work (λ w. IsWorkFor IsWork c (arc_value w)) → IfSome work (λ w. length (keys_in (arc_value w)) < 2 ^ 32)
  few_for keys_in few c None is = tt
  few_for keys_in few (Put project path lang text) (Some w) is = few lang text (arc_value w) is
  few_for keys_in few (Drop project path) (Some w) is = absurd is
  few_for keys_in few (Gate project conditions) (Some w) is = absurd is

-- ---- what the shard of a key answers

module _ (IsWindow : Lang → List ℕ → ℕ → ℕ → Type 0) (law : ShardsHaveTheEntries IsWindow) (h : List Event) (b : board.BoardState) (is : board.StandsFor h b) (c : Contents) where
  -- the shard of the key answers, for the numbers of an open version's files, exactly the entries of the version
  pub entries_of_key : (by version key : ℕ) (live : List ℕ) (bucket : List Entry) → IsShardOf IsWindow b (key % b.settings.shards) c → view_of b.state by ≡ Some version → AreLive (take version (changes_in b.state)) live →
      AreAllInOrder EntryBefore (λ e. (e.key ≡ key) × Contains live e.change × Contains c.entries e) bucket → AreAllInOrder EntryBefore (IsEntryAt IsWindow (changes_in b.state) version key) bucket
  entries_of_key by version key live bucket shard opened numbers asked =
      let order : InOrder b.state = subst InOrder (sym is.is) (in_order b.settings (length b.state.views) h is.lawful) in
      let view = order.views by version opened in
      let few = prefix_len-le-length is_done b.state.slots in
      let same = length-map b.state.slots (λ (slot : Slot). slot.change) in
      let within : version ≤ length (changes_in b.state) = omega (arith, view.1, order.published, few, same) in
      let applied : version ≤ c.applied = omega (arith, view.1, shard.reached.0) in
      let floor : c.floor ≤ version = omega (arith, shard.swept, view.0) in
      let are = law (changes_in b.state) c version key live bucket shard.stands within applied floor numbers asked in
      in_order_same EntryBefore (λ e. (key % c.shards ≡ c.shard) × IsEntryAt IsWindow (changes_in b.state) version key e) (IsEntryAt IsWindow (changes_in b.state) version key) bucket
      (λ e at. at.1) (λ e at. (ap (λ n. key % n) shard.shards ∙ sym shard.number_is, at)) are
