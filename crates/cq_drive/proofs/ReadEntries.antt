-- What is read of an open version, by what its texts are lexed to.
use Rattle.std.proofs.Common.{◌≡◌, ℕ, List, Option, Some, true≢false, refl, sym, ap, ◌∙◌, subst, inl, inr}
use Rattle.std.specs.Prelude.{slice_get, IsNone, None}
use Rattle.cq_base.specs.declared.change.Change.{Change}
use Rattle.cq_base.specs.declared.entry.Entry.{Entry}
use Rattle.cq_base.specs.declared.lang.Lang.{Lang}
use Rattle.cq_base.specs.declared.settings.Settings.{Settings}
use Rattle.cq_board.specs.Entries.{AreEntriesAt, IsEntryAt}
use Rattle.cq_core.specs.Cores.{CoreState}
use Rattle.cq_core.specs.Readings.{AreRead, AreWorked}
use Rattle.cq_history.proofs.Prefixes.{changes_in-state}
use Rattle.cq_history.specs.Files.{Source, files_at}
use Rattle.cq_history.specs.Standing.{Has}
use Rattle.cq_history.specs.State.{State, accepted, changes_in, view_of}
use Rattle.cq_work.specs.Keys.{window_keys}
use Rattle.cq_normal.specs.Normal.{normal}
use Rattle.cq_drive.specs.declared.outcome.ScriptOutcome.TheVariants as outcome
use Rattle.cq_shard.specs.Shard.{HasWindow}
use Rattle.cq_drive.specs.declared.step.ScriptStep.TheVariants as script
use Rattle.cq_work.specs.Shown.{same_kept}
use Rattle.cq_work.specs.Work.{IsWorkOf}
use Rattle.cq_work.specs.declared.work.Work.{Work}
use Rattle.cq_drive.specs.Cores.{IsDriven, keys_of, StepLed}
use Rattle.cq_drive.specs.Script.{callers}
use Rattle.cq_drive.specs.Windows.{HasKeyAt}
use Rattle.cq_drive.proofs.Taken.{led_same, state_is}

pub is_there : (v : Option ℕ) → (IsNone v → ⊥) → (n : ℕ) × (v ≡ Some n)
is_there None never = absurd (never refl)
is_there (Some n) never = (n, refl)

pub not_there : (v : Option ℕ) → IsNone v → v ≡ None
not_there None is = refl
not_there (Some n) is = absurd (true≢false is)

module _ (L : Type 0) (set : Settings) where
  -- the window of a work is one of its text
  key_of_work : (lang : Lang) (text : List ℕ) (at key : ℕ) → HasWindow (keys_of {L = L}) IsWorkOf set lang text at key → HasKeyAt set lang text at key
  key_of_work lang text at key (work, is, window) = record { answer = is.answer; lexes = is.lexes; is_key = ap (λ ks. slice_get ks at) (sym is.shows.keys_are) ∙ window }

  -- and the other way round, where the text has a work
  work_of_key : (lang : Lang) (text : List ℕ) (at key : ℕ) (work : Work L) → IsWorkOf set lang text work → HasKeyAt set lang text at key → HasWindow (keys_of {L = L}) IsWorkOf set lang text at key
  work_of_key lang text at key work is has =
      let same = same_kept lang text is.answer has.answer is.lexes has.lexes in
      (work, is, ap (λ ks. slice_get ks at) (is.shows.keys_are ∙ ap (λ ts. window_keys set (normal set lang ts)) same) ∙ has.is_key)

  module _ (changes : List Change) (version : ℕ) (worked : (project : List ℕ) (file : Source) → Has (files_at changes version project) file → (work : Work L) × IsWorkOf set file.lang file.body work) where
    entry_of_key : (key : ℕ) (e : Entry) → IsEntryAt (HasKeyAt set) changes version key e → IsEntryAt (HasWindow (keys_of {L = L}) IsWorkOf set) changes version key e
    entry_of_key key e is =
        let (work, is_work) = worked is.project is.file is.there in
        record { project = is.project; file = is.file; there = is.there; number = is.number; window = work_of_key is.file.lang is.file.body e.at key work is_work is.window; same_key = is.same_key }

    entry_of_work : (key : ℕ) (e : Entry) → IsEntryAt (HasWindow (keys_of {L = L}) IsWorkOf set) changes version key e → IsEntryAt (HasKeyAt set) changes version key e
    entry_of_work key e is = record { project = is.project; file = is.file; there = is.there; number = is.number; window = key_of_work is.file.lang is.file.body e.at key is.window; same_key = is.same_key }

    entries_of_keys : (shards shard key : ℕ) (entries : List Entry) → AreEntriesAt (HasWindow (keys_of {L = L}) IsWorkOf set) shards shard changes version key entries → AreEntriesAt (HasKeyAt set) shards shard changes version key entries
    entries_of_keys shards shard key entries are = record {
      ordered = are.ordered;
      each = λ e. (λ there. let is = (are.each e).0 there in (is.0, entry_of_work key e is.1), λ is. (are.each e).1 (is.0, entry_of_key key e is.1));
    }

  module _ (old : CoreState) (by shard key : ℕ) (driven : IsDriven L set old) where
    -- the entries that were read are those of the version
    pub was_read : (version : ℕ) (entries : List Entry) → view_of old.board.state by ≡ Some version → AreRead (keys_of {L = L}) IsWorkOf old by shard key entries → AreWorked {W = Work L} (λ lang text work. IsWorkOf {L = L} old.board.settings lang text work) old by
        → StepLed L set old old (script.Read by shard key) (outcome.Read entries)
    was_read version entries opened read worked = led_same L set old _ driven (λ k stands.
        let same = state_is L set old k driven stands in
        let changes : changes_in old.board.state ≡ accepted k.history = ap changes_in same ∙ changes_in-state callers k.history in
        let works = subst (λ (st : Settings). (project : List ℕ) (file : Source) → Has (files_at (changes_in old.board.state) version project) file → (work : Work L) × IsWorkOf st file.lang file.body work) driven.settings (λ project file. worked version project file opened) in
        let of_works = subst (λ (st : Settings). AreEntriesAt (HasWindow (keys_of {L = L}) IsWorkOf st) st.shards shard (changes_in old.board.state) version key entries) driven.settings (read version opened) in
        let are = entries_of_keys (changes_in old.board.state) version works set.shards shard key entries of_works in (
          inl (version, subst (λ (s : State). view_of s by ≡ Some version) same opened, (entries, subst (λ cs. AreEntriesAt (HasKeyAt set) set.shards shard cs version key entries) changes are, refl)),
          refl,
        ))

    -- no view is open
    pub not_viewing : view_of old.board.state by ≡ None → StepLed L set old old (script.Read by shard key) outcome.No
    not_viewing closed = led_same L set old _ driven (λ k stands. (inr (subst (λ (s : State). view_of s by ≡ None) (state_is L set old k driven stands) closed, refl), refl))
