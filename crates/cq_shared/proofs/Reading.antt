-- The entries that a shard answers with are those of the view's version.
use Rattle.std.proofs.Common.{◌≡◌, ℕ, ◌≤◌, ◌%◌, List, ◌++◌, length, take, Some, sym, ap, ◌∙◌, subst, arith, length-append}
use Rattle.std.specs.Prelude.{Contains}
use Rattle.std.proofs.lemmas.List.{take-append-le}
use Rattle.std.proofs.lemmas.List.Sums.{prefix_len-le-length}
use mathlib.Core.List.{IsPrefix}
use Rattle.cq_base.specs.declared.lang.Lang.{Lang}
use Rattle.cq_base.specs.declared.entry.Entry.{Entry}
use Rattle.cq_clones.specs.Lists.{AreAllInOrder}
use Rattle.cq_clones.specs.Windows.{EntryBefore}
use Rattle.cq_clones.proofs.InOrder.{in_order_same}
use Rattle.cq_history.specs.declared.event.Event.{Event}
use Rattle.cq_history.specs.State.{state, accepted, changes_in, view_of, is_done}
use Rattle.cq_history.specs.Lawful.{IsBelow}
use Rattle.cq_history.specs.Files.{Source, files_at}
use Rattle.cq_history.specs.Standing.{Has}
use Rattle.cq_history.proofs.Prefixes.{accepted-append, changes_in-state, files_at-append}
use Rattle.cq_history.proofs.Bounds.{in_order}
use Rattle.cq_history.proofs.Doing.{slots_number}
use Rattle.cq_shard.specs.Shard.{Contents}
use Rattle.cq_shard.proofs.Standing.{bucket_holds}
use Rattle.cq_board.specs.Entries.{IsEntryAt}
use Rattle.cq_board.specs.Listings.{AreLive}
use Rattle.cq_board.proofs.VersionEntries.{have_the_entries}
use Rattle.cq_chain.specs.declared.about.About.{About}
use Rattle.cq_chain.specs.Held.{state_in, IsLawful, IsShardOf}

module _ (about : About) (seen : List Event) (law : IsLawful about seen) (by version : ℕ) (opened : view_of (state_in about seen) by ≡ Some version) where
  below : version ≤ (state_in about seen).published
  below = ((in_order about.settings about.callers seen law.lawful).views by version opened).1

  pub applied_open : (applied : ℕ) → (state_in about seen).published ≤ applied → version ≤ applied
  applied_open applied published = let low = below in omega (arith, low, published)

  accepted_open : version ≤ length (accepted seen)
  accepted_open =
      let low = below in
      let ready = (in_order about.settings about.callers seen law.lawful).published in
      omega (arith, low, ready, prefix_len-le-length is_done (state about.callers seen).slots, slots_number about.callers seen)

  module _ (IsWindow : Lang → List ℕ → ℕ → ℕ → Type 0) (log : List Event) (begins : IsPrefix seen log) (key : ℕ) where
    longer : accepted log ≡ accepted seen ++ accepted begins.0
    longer = ap accepted (sym begins.1) ∙ accepted-append seen begins.0

    files : (q : List ℕ) → files_at (accepted log) version q ≡ files_at (accepted seen) version q
    files q = ap (λ h. files_at (accepted h) version q) (sym begins.1) ∙ files_at-append seen begins.0 version q accepted_open

    from : (e : Entry) → IsEntryAt IsWindow (accepted log) version key e → IsEntryAt IsWindow (accepted seen) version key e
    from e r = record { project = r.project; file = r.file; there = subst (λ (fs : List Source). Has fs r.file) (files r.project) r.there; number = r.number; window = r.window; same_key = r.same_key }

    to : (e : Entry) → IsEntryAt IsWindow (accepted seen) version key e → IsEntryAt IsWindow (accepted log) version key e
    to e r = record { project = r.project; file = r.file; there = subst (λ (fs : List Source). Has fs r.file) (sym (files r.project)) r.there; number = r.number; window = r.window; same_key = r.same_key }

    pub entries_are : (number : ℕ) (x : Contents) (live : List ℕ) (bucket : List Entry) → key % about.settings.shards ≡ number → IsShardOf IsWindow about log number x → (state_in about seen).published ≤ x.applied → IsBelow x.floor (view_of (state_in about seen) by)
        → AreLive (take version (changes_in (state_in about seen))) live → AreAllInOrder EntryBefore (λ e. (e.key ≡ key) × Contains live e.change × Contains x.entries e) bucket → AreAllInOrder EntryBefore (IsEntryAt IsWindow (accepted seen) version key) bucket
    entries_are number x live bucket here is published swept numbers asked =
        let within : version ≤ length (accepted log) = omega (arith, accepted_open, ap length longer, length-append (accepted seen) (accepted begins.0)) in
        let same : take version (accepted log) ≡ take version (changes_in (state_in about seen)) =
        ap (take version) longer ∙ take-append-le version (accepted seen) (accepted begins.0) accepted_open ∙ ap (take version) (sym (changes_in-state about.callers seen)) in
        let all = have_the_entries IsWindow (bucket_holds IsWindow) (accepted log) x version key live bucket is.stands within (applied_open x.applied published) (subst (IsBelow x.floor) opened swept) (subst (λ cs. AreLive cs live) (sym same) numbers) asked in
        in_order_same EntryBefore (λ e. (key % x.shards ≡ x.shard) × IsEntryAt IsWindow (accepted log) version key e) (IsEntryAt IsWindow (accepted seen) version key) bucket
        (λ e at. from e at.1) (λ e at. (ap (λ n. key % n) is.shards ∙ here ∙ sym is.number_is, to e at)) all
