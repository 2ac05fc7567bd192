-- A board of one caller: what a work and a publication leave of it.
use Rattle.std.proofs.Common.{◌≡◌, ℕ, ◌+◌, ◌<◌, ◌≤◌, List, [], ◌∷◌, ◌++◌, length, fold, Option, None, refl, sym, ap, ◌∙◌, subst, inr, arith}
use Rattle.std.specs.Prelude.{All, slice_index_or}
use Rattle.std.proofs.lemmas.List.{append-nil, length-map}
use Rattle.std.proofs.lemmas.List.Elements.{Contains-push}
use Rattle.std.proofs.lemmas.List.Sums.{prefix_len-le-length}
use Rattle.cq_base.specs.declared.change.Change.{Change}
use Rattle.cq_base.specs.declared.settings.Settings.{Settings}
use Rattle.cq_board.specs.Stands.{BoardState, Adds, IsCaller}
use Rattle.cq_export.specs.Boards.{Holds, GoesOn, IsMade, AreMade, IsPublished}
use Rattle.cq_export.specs.Lines.{accepts, HasAccepted}
use Rattle.cq_export.proofs.Accepting.{state_is, accepted_alone, unfloored}
use Rattle.cq_history.proofs.Bounds.{ready_after}
use Rattle.cq_history.proofs.Doing.{accepted_stays, done_is}
use Rattle.cq_history.proofs.Keeping.{all_kept}
use Rattle.cq_history.proofs.Limits.{few_kept}
use Rattle.cq_history.proofs.Prefixes.{changes_after, changes_in-state}
use Rattle.cq_history.proofs.States.{state_push}
use Rattle.cq_history.specs.Gone.{kept_count}
use Rattle.cq_history.specs.State.{State, Slot, is_done, start, after, state, changes_in, ready, view_of, accepted, IsAccepted, IsDone}
use Rattle.cq_history.specs.declared.event.Event.{Event}
use Rattle.cq_history.specs.declared.event.Event.TheVariants.{Accept, Ask, Done, Publish}
use Rattle.cq_request.specs.Named.{IsNamed}
use Rattle.cq_talk.proofs.OneMore.{ready_more}
use Rattle.cq_tokask.specs.Exported.{IsOfChanges}
use Rattle.cq_tokfile.specs.declared.snapshot.Snapshot.{Snapshot}

-- ---- changes alone

published_alone : (s : State) (changes : List Change) → (fold after s (accepts changes)).published ≡ s.published
published_alone s [] = refl
published_alone s (c ∷ changes) = published_alone (after s (Accept 0 c)) changes

views_alone : (s : State) (changes : List Change) → (fold after s (accepts changes)).views ≡ s.views
views_alone s [] = refl
views_alone s (c ∷ changes) = views_alone (after s (Accept 0 c)) changes

pub accepted_holds : (set : Settings) (changes : List Change) (b : BoardState) → HasAccepted set changes b → Holds set b × (changes_in b.state ≡ changes)
accepted_holds set changes b has =
    let is = state_is set changes b has in (
      record {
        history = accepts changes;
        stands = has.stands;
        settings_are = has.settings_are;
        one_caller = has.one_caller;
        unpublished = ap (λ (s : State). s.published) is ∙ published_alone (start 1) changes;
        unfloored = ap (λ (s : State). s.floor) is ∙ unfloored changes;
        closed = ap (λ (s : State). view_of s 0) is ∙ ap (λ (views : List (Option ℕ)). slice_index_or views 0 None) (views_alone (start 1) changes);
      },
      ap changes_in is ∙ changes_in-state 1 (accepts changes) ∙ accepted_alone changes,
    )

pub accepted_named : (set : Settings) (changes : List Change) (b : BoardState) → HasAccepted set changes b → All IsNamed (changes_in b.state)
accepted_named set changes b has = subst (All IsNamed) (sym (accepted_holds set changes b has).1) has.named

pub of_accepted : {L : Type 0} (set : Settings) (changes : List Change) (b : BoardState) (project : List ℕ) (s : Snapshot L) → HasAccepted set changes b → IsOfChanges set (changes_in b.state) project s → IsOfChanges set changes project s
of_accepted set changes b project s has of = subst (λ (cs : List Change). IsOfChanges set cs project s) (accepted_holds set changes b has).1 of

-- ---- one event more

module _ (set : Settings) (old new : BoardState) (holds : Holds set old) where
  pub one_caller_there : IsCaller old 0
  one_caller_there = let one = holds.one_caller in omega (arith, one)

  stepped : (e : Event) → Adds e old new → new.state ≡ after old.state e
  stepped e adds =
      (adds.history holds.history holds.stands).is
      ∙ ap (λ (n : ℕ). state n (holds.history ++ e ∷ [])) adds.callers
      ∙ state_push (length old.state.views) holds.history e
      ∙ ap (λ (s : State). after s e) (sym holds.stands.is)

  -- one that accepts, publishes and opens nothing, and raises no floor
  goes_on : (e : Event) → Adds e old new → (after old.state e).published ≡ old.state.published → (after old.state e).floor ≡ old.state.floor → (after old.state e).views ≡ old.state.views → accepted (e ∷ []) ≡ [] → GoesOn set old new
  goes_on e adds same_published same_floor same_views none =
      let is = stepped e adds in
      record {
        holds = record {
          history = holds.history ++ e ∷ [];
          stands = adds.history holds.history holds.stands;
          settings_are = adds.settings ∙ holds.settings_are;
          one_caller = adds.callers ∙ holds.one_caller;
          unpublished = ap (λ (s : State). s.published) is ∙ same_published ∙ holds.unpublished;
          unfloored = ap (λ (s : State). s.floor) is ∙ same_floor ∙ holds.unfloored;
          closed = ap (λ (s : State). view_of s 0) is ∙ ap (λ (views : List (Option ℕ)). slice_index_or views 0 None) same_views ∙ holds.closed;
        };
        same = ap changes_in is ∙ changes_after old.state e ∙ ap (λ (cs : List Change). changes_in old.state ++ cs) none ∙ append-nil (changes_in old.state);
        more = subst (λ (s : State). ready old.state ≤ ready s) (sym is) (ready_after old.state e);
      }

  pub asked_on : Adds (Ask 0) old new → GoesOn set old new
  asked_on adds = goes_on (Ask 0) adds refl refl refl refl

  pub made_then : (r : ℕ) → IsAccepted old.state r → Adds (Done 0 r) old new → IsMade set r old new
  made_then r there adds =
      let stands = adds.history holds.history holds.stands in
      let n = length new.state.views in
      let was : IsAccepted (state n holds.history) r = subst (λ (s : State). IsAccepted s r) (holds.stands.is ∙ ap (λ (k : ℕ). state k holds.history) (sym adds.callers)) there in
      let stays = accepted_stays n holds.history (Done 0 r ∷ []) r was in
      record {
        on = goes_on (Done 0 r) adds refl refl refl refl;
        done = subst (λ (s : State). IsDone s r) (sym stands.is) ((done_is new.settings n (holds.history ++ Done 0 r ∷ []) r stands.lawful).1 (stays.0, inr (0, Contains-push holds.history (Done 0 r))));
      }

pub goes_on_none : (set : Settings) (b : BoardState) → Holds set b → GoesOn set b b
goes_on_none set b holds = record { holds = holds; same = refl; more = omega arith }

pub goes_on_then : (set : Settings) (a b c : BoardState) → GoesOn set a b → GoesOn set b c → GoesOn set a c
goes_on_then set a b c first second =
    let one = first.more in
    let two = second.more in
    record { holds = second.holds; same = second.same ∙ first.same; more = omega (arith, one, two) }

-- nothing was to be made
pub made_before : (set : Settings) (old new : BoardState) (r : ℕ) → Holds set old → new ≡ old → IsDone old.state r → IsMade set r old new
made_before set old new r holds same done = subst (λ (b : BoardState). IsMade set r old b) (sym same) (record { on = goes_on_none set old holds; done = done })

-- one work more
pub ready_then : (set : Settings) (old new : BoardState) (i : ℕ) → i ≤ ready old.state → IsMade set (i + 1) old new → i + 1 ≤ ready new.state
ready_then set old new i le made = let more = made.on.more in ready_more new.state i (omega (arith, le, more)) made.done

many_changes : (s : State) → length (changes_in s) ≡ length s.slots
many_changes s = length-map s.slots (λ (slot : Slot). slot.change)

-- the next of as many changes as there were
pub accepted_there : (set : Settings) (first old new : BoardState) (count i : ℕ) → GoesOn set first old → GoesOn set old new → count ≡ length first.state.slots → i < count → IsAccepted new.state (i + 1)
accepted_there set first old new count i one two is lt =
    let same = ap length (two.same ∙ one.same) in
    let many = many_changes first.state in
    let now = many_changes new.state in
    (omega arith, omega (arith, is, lt, same, many, now))

-- as many as there are
pub all_made : (set : Settings) (first old new : BoardState) (count i : ℕ) → GoesOn set first old → GoesOn set old new → count ≡ length first.state.slots → count ≤ i → i ≤ ready new.state → AreMade set first new
all_made set first old new count i one two is past made =
    let on = goes_on_then set first old new one two in
    let same = ap length on.same in
    let many = many_changes first.state in
    record { on = on; all = omega (arith, is, past, made, same, many) }

-- all of them are kept, so they are no more than may be
pub few_changes : (set : Settings) (b : BoardState) → Holds set b → length (changes_in b.state) ≤ set.change_limit
few_changes set b holds =
    let n = length b.state.views in
    let h = holds.history in
    let kept = (few_kept b.settings n h holds.stands.lawful).0 in
    let floor : (state n h).floor ≡ 0 = ap (λ (s : State). s.floor) (sym holds.stands.is) ∙ holds.unfloored in
    let changes : accepted h ≡ changes_in b.state = sym (changes_in-state n h) ∙ ap changes_in (sym holds.stands.is) in
    let all : kept_count (accepted h) (state n h).floor ≡ length (changes_in b.state) = ap (kept_count (accepted h)) floor ∙ (all_kept (accepted h)).0 ∙ ap length changes in
    subst (λ (s : Settings). length (changes_in b.state) ≤ s.change_limit) holds.settings_are (omega (arith, kept, all))

-- ---- the publication

pub all_ready : (s : State) → length (changes_in s) ≤ ready s → ready s ≡ length (changes_in s)
all_ready s all =
    let most = prefix_len-le-length is_done s.slots in
    let many = many_changes s in
    omega (arith, most, many, all)

pub published_then : (set : Settings) (old new : BoardState) (last : ℕ) → Holds set old → length (changes_in old.state) ≤ ready old.state → last ≡ ready old.state → Adds (Publish last) old new → IsPublished set (changes_in old.state) new
published_then set old new last holds all is adds =
    let step = stepped set old new holds (Publish last) adds in
    record {
      settings_are = adds.settings ∙ holds.settings_are;
      one_caller = adds.callers ∙ holds.one_caller;
      changes_are = ap changes_in step;
      published = ap (λ (s : State). s.published) step ∙ is ∙ all_ready old.state all;
      closed = ap (λ (s : State). view_of s 0) step ∙ holds.closed;
    }

pub nothing_published : (set : Settings) (b : BoardState) (last : ℕ) → Holds set b → length (changes_in b.state) ≤ ready b.state → last ≡ ready b.state → last ≡ 0 → IsPublished set (changes_in b.state) b
nothing_published set b last holds all is none = record {
  settings_are = holds.settings_are;
  one_caller = holds.one_caller;
  changes_are = refl;
  published = holds.unpublished ∙ sym none ∙ is ∙ all_ready b.state all;
  closed = holds.closed;
}
