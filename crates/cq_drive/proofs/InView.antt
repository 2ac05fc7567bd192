-- The files of a project in a view that a caller of a core has open, and the reply on them.
use Rattle.std.proofs.Common.{◌≡◌, ℕ, ◌%◌, ◌<◌, ◌≤◌, List, [], ◌∷◌, length, map, filter, Some, None, refl, sym, ap, ◌∙◌, subst, inl, inr, arith, nat_eq}
use Rattle.std.specs.Arc.{arc_value}
use Rattle.std.specs.List.{list_any}
use Rattle.cq_answer.specs.Reply.{IsReply}
use Rattle.cq_answer.specs.Versions.{AreOfVersion, HaveVersion, IsReplyOn}
use Rattle.cq_session.proofs.ProjectEntries.{project_bucket}
use Rattle.cq_session.specs.Projects.{keys_in_files}
use Rattle.cq_base.specs.Settings.{IsInRange}
use Rattle.cq_base.specs.declared.change.Change.{Change}
use Rattle.cq_base.specs.declared.change.Condition.{Condition}
use Rattle.cq_base.specs.declared.entry.Entry.{Entry}
use Rattle.cq_base.specs.declared.settings.Settings.{Settings}
use Rattle.cq_board.specs.Entries.{AreEntriesAt}
use Rattle.cq_projects.specs.Projects.{files_in, conditions_in}
use Rattle.cq_board.specs.Related.{AreSameFiles}
use Rattle.cq_projects.specs.Spotted.{numbers_of}
use Rattle.cq_board.specs.declared.listing.View.{View}
use Rattle.cq_clones.specs.Windows.{IsBucket}
use Rattle.cq_core.specs.Cores.{CoreState}
use Rattle.cq_core.specs.Readings.{AreRead}
use Rattle.cq_core.specs.Views.{IsView}
use Rattle.cq_history.proofs.Bounds.{in_order}
use Rattle.cq_history.proofs.FewFiles.{files_few}
use Rattle.cq_history.proofs.Limits.{few_kept}
use Rattle.cq_history.proofs.Prefixes.{changes_in-state}
use Rattle.cq_history.specs.Files.{File, files_at}
use Rattle.cq_history.specs.Lawful.{Lawful}
use Rattle.cq_history.specs.State.{State, state, accepted, changes_in, view_of}
use Rattle.cq_drive.specs.declared.outcome.ScriptOutcome.TheVariants as outcome
use Rattle.cq_reply.specs.declared.reply.Reply.{Reply}
use Rattle.cq_request.specs.declared.request.Query.{Query}
use Rattle.cq_shard.specs.Shard.{HasWindow}
use Rattle.cq_drive.specs.declared.step.ScriptStep.TheVariants as script
use Rattle.cq_work.specs.Shown.{keys_determined}
use Rattle.cq_work.specs.Work.{IsWorkOf}
use Rattle.cq_work.specs.declared.work.Work.{Work}
use Rattle.cq_drive.specs.Cores.{IsDriven, keys_of, StepLed}
use Rattle.cq_drive.specs.Script.{callers}
use Rattle.cq_drive.specs.Views.{IsInView}
use Rattle.cq_drive.proofs.Taken.{led_same, state_is}

module _ (L : Type 0) (set : Settings) where
  -- the bucket of the key's shard, without the entries of other projects
  pub bucket_of : (c : CoreState) (by key : ℕ) (files : List (File (Work L))) (entries : List Entry) → IsInView L set c by files → AreRead (keys_of {L = L}) IsWorkOf c by (key % set.shards) key entries
      → IsBucket (numbers_of files) (keys_in_files (keys_of {L = L}) files) key (filter (λ e. list_any (nat_eq e.change) (numbers_of files)) entries)
  bucket_of c by key files entries view read =
      let at = subst (λ (st : Settings). AreEntriesAt (HasWindow (keys_of {L = L}) IsWorkOf st) st.shards (key % set.shards) (changes_in c.board.state) view.version key entries) view.driven.settings (read view.version view.opened) in
      project_bucket (keys_of {L = L}) IsWorkOf keys_determined set (changes_in c.board.state) view.version view.project files view.files_are key entries
      (record { ordered = at.ordered; each = λ e. (λ there. ((at.each e).0 there).1, λ is. (at.each e).1 (refl, is)) })

  file_keys : (files : List (File (Work L))) → map (λ (f : File (Work L)). keys_of f.body) files ≡ map (λ (f : File (Work L)). arc_value f.body.keys) files
  file_keys [] = refl
  file_keys (f ∷ files) = ap (λ ks. arc_value f.body.keys ∷ ks) (file_keys files)

  -- no more files than may be kept, since an open version is no lower than the floor
  few : (c : CoreState) (by version : ℕ) (project : List ℕ) → IsDriven L set c → view_of c.board.state by ≡ Some version → length (files_at (changes_in c.board.state) version project) ≤ set.change_limit
  few c by version project driven opened =
      let k = driven.past.0 in
      let stands = driven.past.1 in
      let many = length c.board.state.views in
      let law = subst (λ (st : Settings). Lawful st many k.history) driven.settings stands.past.lawful in
      let then : view_of (state many k.history) by ≡ Some version = ap (λ (s : State). view_of s by) (sym stands.past.is) ∙ opened in
      let low = ((in_order set many k.history law).views by version then).0 in
      let most = files_few (accepted k.history) (state many k.history).floor version project low in
      let room = (few_kept set many k.history law).0 in
      let same : changes_in c.board.state ≡ accepted k.history = ap changes_in stands.past.is ∙ changes_in-state many k.history in
      subst (λ cs. length (files_at cs version project) ≤ set.change_limit) (sym same) (omega (arith, most, room))

  module _ (c : CoreState) (by : ℕ) (view : View (Work L)) (project : List ℕ) (files : List (File (Work L))) (conditions : List Condition) (driven : IsDriven L set c) (is : IsView (λ lang text work. IsWorkOf c.board.settings lang text work) c.board.state view)
      (files_are : files ≡ files_in (arc_value view.listing).projects project) (conditions_are : conditions ≡ conditions_in (arc_value view.listing).projects project) where
    -- the files and conditions of the view are those of its version
    pub of_version : AreOfVersion set (changes_in c.board.state) view.version project files conditions
    of_version = record {
      files_are = subst (λ (fs : List (File (Work L))). AreSameFiles (IsWorkOf set) (files_at (changes_in c.board.state) view.version project) fs) (sym files_are)
          (subst (λ (st : Settings). AreSameFiles (λ lang text work. IsWorkOf st lang text work) (files_at (changes_in c.board.state) view.version project) (files_in (arc_value view.listing).projects project)) driven.settings (is.files project));
      conditions_are = conditions_are ∙ is.conditions project;
    }

    pub have_version : view_of c.board.state by ≡ Some view.version → HaveVersion set view.version project files conditions
    have_version opened = record { changes = changes_in c.board.state; sound = driven.past.1.past.sound; few = few c by view.version project driven opened; are = of_version }

    pub in_view : IsInRange set → by < callers → view_of c.board.state by ≡ Some view.version → IsInView L set c by files
    in_view in_range caller opened = record { in_range = in_range; driven = driven; caller = caller; version = view.version; opened = opened; project = project; files_are = of_version.files_are }

    -- the reply on them is that of the version
    pub was_answered : (query : Query) (reply : Reply) → query.project ≡ project → view_of c.board.state by ≡ Some view.version → IsReplyOn set view.version query files conditions reply → StepLed L set c c (script.Reply by query) (outcome.Reply reply)
    was_answered query reply same_project opened on = led_same L set c _ driven (λ k stands.
        let same = state_is L set c k driven stands in
        let changes : changes_in c.board.state ≡ accepted k.history = ap changes_in same ∙ changes_in-state callers k.history in (
          inl (
            view.version,
            subst (λ (s : State). view_of s by ≡ Some view.version) same opened,
            (reply, subst (λ (cs : List Change). IsReply set cs view.version query reply) changes (on (changes_in c.board.state) (subst (λ (p : List ℕ). AreOfVersion set (changes_in c.board.state) view.version p files conditions) (sym same_project) of_version)), refl),
          ),
          refl,
        ))

  -- no view is open
  pub not_answered : (c : CoreState) (by : ℕ) (query : Query) → IsDriven L set c → view_of c.board.state by ≡ None → StepLed L set c c (script.Reply by query) outcome.No
  not_answered c by query driven closed = led_same L set c _ driven (λ k stands. (inr (subst (λ (s : State). view_of s by ≡ None) (state_is L set c k driven stands) closed, refl), refl))
