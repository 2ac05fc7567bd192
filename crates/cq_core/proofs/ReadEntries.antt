-- What a shard of a core answers for an open view.
use Rattle.std.proofs.Common.{◌≡◌, ℕ, ◌<◌, ◌≤◌, List, [], ◌∷◌, inl, inr, length, map, take, get_or, Some, sym, ap, ◌∙◌, subst, subst₂, arith}
use Rattle.std.specs.Prelude.{Contains, All}
use Rattle.std.specs.Arc.{arc_value}
use Rattle.std.proofs.lemmas.List.{length-map, get_or-map}
use Rattle.cq_base.specs.declared.lang.Lang.{Lang}
use Rattle.cq_base.specs.declared.entry.Entry.{Entry}
use Rattle.cq_history.specs.Files.{File, Source, files_at}
use Rattle.cq_history.specs.Standing.{Has}
use Rattle.cq_history.specs.State.{State, changes_in, view_of}
use Rattle.cq_history.specs.Core.{Core, IsReached}
use Rattle.cq_history.proofs.Bounds.{InOrder, in_order}
use Rattle.cq_shard.specs.Shard as Shards
use Rattle.cq_shard.specs.Shard.{Contents}
use Rattle.cq_board.specs.Entries.{AreEntriesAt, ShardsHaveTheEntries}
use Rattle.cq_board.specs.Stands as board
use Rattle.cq_board.specs.Listings.{AreLive}
use Rattle.cq_board.specs.Related.{AreSameFiles}
use Rattle.cq_board.specs.declared.listing.View.{View}
use Rattle.cq_clones.specs.Lists.{AreAllInOrder}
use Rattle.cq_clones.specs.Windows.{EntryBefore}
use Rattle.cq_core.specs.Cores.{StandsFor, applied_of, floor_of}
use Rattle.cq_core.specs.Readings.{AreWorked}
use Rattle.cq_core.specs.Views.{IsView}
use Rattle.cq_core.proofs.Stepping.{core, accepted_version}

same_version : (m n : ℕ) → Some m ≡ Some n → m ≡ n
same_version m n e = cc e

module _ {W : Type 0} (IsWork : Lang → List ℕ → W → Type 0) where
  file_work : (xs : List Source) (ys : List (File W)) (f : Source) → AreSameFiles IsWork xs ys → Has xs f → (work : W) × IsWork f.lang f.body work
  file_work [] ys f same there = absurd there
  file_work (x ∷ xs) [] f same there = absurd same
  file_work (x ∷ xs) (y ∷ ys) f same (inl here) = (y.body, subst (λ (g : Source). IsWork g.lang g.body y.body) here same.0.body)
  file_work (x ∷ xs) (y ∷ ys) f same (inr later) = file_work xs ys f same.1 later

  -- the files of an open view have their works
  pub files_worked : (b : board.BoardState) (shards : List Contents) (by : ℕ) (v : View W) → IsView IsWork b.state v × (view_of b.state by ≡ Some v.version) → AreWorked IsWork (core b shards) by
  files_worked b shards by v view version project file opened there =
      file_work (files_at (changes_in b.state) v.version project) _ file (view.0.files project)
      (subst (λ n. Has (files_at (changes_in b.state) n project) file) (same_version version v.version (sym opened ∙ view.1)) there)

-- what a shard answers for an open view
module _ {W : Type 0} (IsWork : Lang → List ℕ → W → Type 0) (IsWindow : Lang → List ℕ → ℕ → ℕ → Type 0) (b : board.BoardState) (shards : List Contents) (k : Core) (is : StandsFor IsWindow k (core b shards)) (by shard key : ℕ) (c : Contents) (there : shard < b.settings.shards) (read : c ≡ get_or shards shard c)
    (v : View W) (view : IsView IsWork b.state v × (view_of b.state by ≡ Some v.version)) (live : List ℕ) (lent : live ≡ (arc_value v.listing).live) (bucket : List Entry)
    (law : ShardsHaveTheEntries IsWindow) (asked : AreAllInOrder EntryBefore (λ e. (e.key ≡ key) × Contains live e.change × Contains c.entries e) bucket) where
  within : shard < length shards
  within = omega (arith, there, is.numbered.number_is)

  lives : AreLive (take v.version (changes_in b.state)) live
  lives = subst (AreLive (take v.version (changes_in b.state))) (sym lent) view.0.numbers

  order : InOrder b.state
  order = subst InOrder (sym is.past.is) (in_order b.settings (length b.state.views) k.history is.past.lawful)

  accepted : v.version ≤ length (changes_in b.state)
  accepted = accepted_version IsWork b.settings (length b.state.views) k.history b.state by v.version is.past.is is.past.lawful view.1

  applied_is : get_or (map applied_of shards) shard 0 ≡ c.applied
  applied_is = get_or-map applied_of shards shard c 0 within ∙ ap applied_of (sym read)

  floor_is : get_or (map floor_of shards) shard 0 ≡ c.floor
  floor_is = get_or-map floor_of shards shard c 0 within ∙ ap floor_of (sym read)

  applied : v.version ≤ c.applied
  applied =
      let reached = subst (All (IsReached b.state)) (sym is.applied) (subst (λ s. All (IsReached s) k.applied) (sym is.past.is) is.sound.applied) shard 0 (omega (arith, within, length-map shards applied_of)) in
      omega (arith, reached.0, applied_is, (order.views by v.version view.1).1)

  floor : c.floor ≤ v.version
  floor =
      let swept = subst (All (λ f. f ≤ b.state.floor)) (sym is.floors) (subst (λ (s : State). All (λ f. f ≤ s.floor) k.floors) (sym is.past.is) is.sound.floors) shard 0 (omega (arith, within, length-map shards floor_of)) in
      omega (arith, swept, floor_is, (order.views by v.version view.1).0)

  numbered : (c.shard ≡ shard) × (c.shards ≡ b.settings.shards)
  numbered =
      let each = is.numbered.each shard c within in
      (ap (λ (x : Contents). x.shard) read ∙ each.0, ap (λ (x : Contents). x.shards) read ∙ each.1)

  stands : Shards.StandsFor IsWindow (changes_in b.state) c
  stands = subst (Shards.StandsFor IsWindow (changes_in b.state)) (sym read) (is.shards shard c within)

  entries_read_here : AreEntriesAt IsWindow b.settings.shards shard (changes_in b.state) v.version key bucket
  entries_read_here =
      subst₂ (λ n m. AreEntriesAt IsWindow n m (changes_in b.state) v.version key bucket) numbered.1 numbered.0
      (law (changes_in b.state) c v.version key live bucket stands accepted applied floor lives asked)

  pub entries_read : (version : ℕ) → view_of b.state by ≡ Some version → AreEntriesAt IsWindow b.settings.shards shard (changes_in b.state) version key bucket
  entries_read version opened =
      subst (λ n. AreEntriesAt IsWindow b.settings.shards shard (changes_in b.state) n key bucket) (same_version v.version version (sym view.1 ∙ opened)) entries_read_here
