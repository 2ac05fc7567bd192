-- A talk with a hub that is alone, walked.
use Rattle.std.proofs.Common.{◌≡◌, ℕ, ◌+◌, ◌≤◌, cond, replicate, List, [], ◌∷◌, ◌++◌, length, max, Option, Some, None, Ok, Err, refl, sym, ap, ◌∙◌, subst, inl, inr, arith, length-append}
use Rattle.std.specs.Prelude.{All}
use Rattle.std.proofs.Math.Nat.{le-max_left, le-max_right}
use Rattle.std.proofs.lemmas.List.{length-map, length-replicate, get_or-replicate}
use Rattle.std.proofs.lemmas.List.Sums.{prefix_len-le-length}
use Rattle.cq_base.specs.declared.settings.Settings.{Settings}
use Rattle.cq_base.specs.declared.change.Change.{Change}
use Rattle.cq_history.specs.declared.event.Event.{Event}
use Rattle.cq_history.specs.declared.event.Event.TheVariants.{Accept, Ask}
use Rattle.cq_history.specs.State.{State, Slot, new_slot, after, state, accepted, changes_in, ready, is_done}
use Rattle.cq_history.specs.Lawful.{Lawful}
use Rattle.cq_history.proofs.States.{state_push, Lawful-prefix}
use Rattle.cq_history.proofs.Bounds.{in_order}
use Rattle.cq_history.proofs.Doing.{slots_number}
use Rattle.cq_history.proofs.Prefixes.{changes_after, changes_in-state}
use Rattle.cq_board.specs.Answers.{refusal_of}
use Rattle.cq_request.specs.declared.request.Query.{Query}
use Rattle.cq_request.specs.declared.request.Request.TheVariants as request
use Rattle.cq_reply.specs.declared.reply.Reply.{Reply}
use Rattle.cq_reply.specs.declared.reply.Reply.TheVariants as reply
use Rattle.cq_answer.specs.Reply.{IsReply}
use Rattle.cq_talk.specs.Said.{Said, TooLong, Read, WasRead}
use Rattle.cq_talk.specs.Replies.{named}
use Rattle.cq_talk.specs.Causes.{cause, change_told}
use Rattle.cq_talk.specs.Talk.{Talk, IsAnswer, IsAnswered, IsChanged, IsShown, IsServed, IsGivenUp, Tells, Asks, floor_of}
use Rattle.cq_talk.specs.Alone.{Walk, changed, IsReplyAlone, IsAloneUpToMemory, all_published, no_walk}
use Rattle.cq_talk.proofs.Causing.{cause_is}
use Rattle.cq_talk.proofs.GoingOn.{talk_goes_on, talk_many}
use Rattle.cq_talk.proofs.OneMore.{ready_with}
use Rattle.cq_talk.proofs.AloneRows.{alone_same}
use Rattle.cq_talk.proofs.Served.{served_accept_none, served_grows, served_published, served_shut, none_open}
use Rattle.cq_talk.proofs.Shown.{shown_named}
use Rattle.cq_talk.proofs.Talking.{published_few}
use Rattle.cq_talk.proofs.Unmade.{none_accepted}
use Rattle.cq_base.specs.declared.refusal.Refusal.TheVariants as refusal

-- what was named before is at most the floor
pub floor_seen : (n : ℕ) (q : Query) (s : State) → n ≤ floor_of n q s
floor_seen n q s = omega (arith, le-max_left n q.at, le-max_left (max n q.at) (cond q.finish (length s.slots) 0))

-- a line that is given up was read
pub given_read : (set : Settings) (callers : ℕ) (alone : Type 0) (c seen : ℕ) (h later : List Event) (l : Said) → IsGivenUp set callers alone c seen h l later → WasRead l
given_read set callers alone c seen h later TooLong is = absurd is
given_read set callers alone c seen h later (Read says) is = tt

-- ---- nobody has a view open

all_none : (callers : ℕ) → All (λ (view : Option ℕ). view ≡ None) (replicate callers None)
all_none callers k d within = get_or-replicate callers k None d (omega (arith, within, length-replicate {A = Option ℕ} callers None))

-- ---- the walk and the state of the history

pub record Matches (k : Walk) (s : State) : Type 0 where
  pub changes : changes_in s ≡ k.changes
  pub done : ready s ≡ k.done
  pub published : s.published ≡ k.published
  pub floor : s.floor ≡ k.floor
  -- nobody has a view open
  pub shut : All (λ view. view ≡ None) s.views

pub record Turn (set : Settings) (k : Walk) (l : Said) (r : Reply) (seen : ℕ) (s : State) : Type 0 where
  pub then : Walk
  pub is : IsReplyAlone set k l r then
  pub matches : Matches then s
  pub few : length s.slots ≤ max seen (named r)

number_of : (k : Walk) (s : State) → Matches k s → length s.slots ≡ length k.changes
number_of k s m = sym (length-map s.slots (λ (slot : Slot). slot.change)) ∙ ap length m.changes

state_reply : (a b c x y z : ℕ) → a ≡ x → b ≡ y → c ≡ z → reply.State a b c ≡ reply.State x y z
state_reply a b c x y z p q r = cc (p, q, r)

module _ (set : Settings) (callers c seen : ℕ) (h : List Event) (k : Walk) (m : Matches k (state callers h)) (few : length (state callers h).slots ≤ seen) where
  number : length (state callers h).slots ≡ length k.changes
  number = number_of k (state callers h) m

  known : (g : List Event) → g ≡ h → accepted g ≡ k.changes
  known g same = ap accepted same ∙ (sym (changes_in-state callers h) ∙ m.changes)

  -- the cause against a change is that of the walk
  cause_there : (g : List Event) (change : Change) → g ≡ h → refusal_of set (state callers g) change ≡ cause set k.changes k.floor change
  cause_there g change same = cause_is set callers g k.changes change (known g same) ∙ ap (λ f. cause set k.changes f change) (ap (λ g. (state callers g).floor) same ∙ m.floor)

  stay : (l : Said) (r : Reply) (s : State) → s ≡ state callers h → IsReplyAlone set k l r k → Turn set k l r seen s
  stay l r s same is = record {
    then = k;
    is = is;
    matches = subst (Matches k) (sym same) m;
    few = subst (λ t. length t.slots ≤ max seen (named r)) (sym same) (omega (arith, few, le-max_left seen (named r)));
  }

  asks_same : (later : List Event) (asks : Asks (Unit {0}) c h later) → (state callers asks.mid ≡ state callers h) × (state callers later ≡ state callers h)
  asks_same later asks =
      let same : state callers asks.mid ≡ state callers h = ap (state callers) (alone_same c h asks.mid asks.waits) in
      (same, ap (state callers) asks.asks ∙ (state_push callers asks.mid (Ask c) ∙ same))

  changes_alone : (later : List Event) (change : Change) (r : Reply) → IsChanged set callers (Unit {0}) c h change r later → Turn set k (Read (Ok (request.Change change))) r seen (state callers later)
  changes_alone later change r (inl is) =
      let same : is.mid ≡ h = alone_same c h is.mid is.waits in
      let now : state callers later ≡ after (state callers h) (Accept c change) = ap (state callers) (is.accepts ∙ ap (λ g. g ++ Accept c change ∷ []) same) ∙ state_push callers h (Accept c change) in
      let no_cause : cause set k.changes k.floor change ≡ None = sym (cause_there is.mid change same) ∙ is.no_cause in
      let grown : length (state callers later).slots ≡ length (state callers h).slots + 1 = ap (λ (s : State). length s.slots) now ∙ length-append (state callers h).slots (new_slot change ∷ []) in
      let long : length (accepted is.mid) ≡ length k.changes = ap length (known is.mid same) in
      record {
        then = changed k change None;
        is = (is.reply_is ∙ ap (λ n. reply.Change (n + 1)) long ∙ sym (ap (change_told k.changes) no_cause), sym (ap (changed k change) no_cause));
        matches = record {
          changes = ap changes_in now ∙ (changes_after (state callers h) (Accept c change) ∙ ap (λ cs. cs ++ change ∷ []) m.changes);
          done = ap ready now ∙ ready_with (state callers h) c change k m.done number;
          published = ap (λ (s : State). s.published) now ∙ m.published;
          floor = ap (λ (s : State). s.floor) now ∙ m.floor;
          shut = subst (λ (s : State). All (λ view. view ≡ None) s.views) (sym now) m.shut;
        };
        few = let name : named r ≡ length (accepted is.mid) + 1 = ap named is.reply_is in omega (arith, name, long, grown, number, le-max_right seen (named r));
      }
  changes_alone later change r (inr is) =
      let same = alone_same c h later is.waits in
      let told : cause set k.changes k.floor change ≡ Some is.cause = sym (cause_there later change same) ∙ is.cause_is in
      stay (Read (Ok (request.Change change))) r (state callers later) (ap (state callers) same) (is.reply_is ∙ sym (ap (change_told k.changes) told), sym (ap (changed k change) told))

  told_alone : (later : List Event) (r : Reply) → Tells set callers (Unit {0}) c h r later → Turn set k (Read (Ok request.State)) r seen (state callers later)
  told_alone later r is =
      let same = asks_same later is.asks in
      stay (Read (Ok request.State)) r (state callers later) same.1
      (is.reply_is ∙ state_reply _ _ _ _ _ _ (ap (λ (t : State). length t.slots) same.0 ∙ number) (ap ready same.0 ∙ m.done) (ap (λ (t : State). t.published) same.0 ∙ m.published), refl)

  -- the version is that of all changes, and is published
  at_end : (q : Query) (version : ℕ) (later : List Event) → Lawful set callers later → IsServed set callers (Unit {0}) c seen q h later (Some version) → version ≤ length (accepted later) →
      (accepted later ≡ accepted h) × (version ≡ length (accepted h)) × ((state callers later).published ≡ version)
  at_end q version later law is within =
      let all : accepted later ≡ accepted h = none_accepted c h later _ (served_grows set callers (Unit {0}) c seen q h later (Some version) is) (served_accept_none c is.finished (Some version)) in
      let long : length (accepted later) ≡ length (accepted h) = ap length all in
      let recent : floor_of seen q (state callers is.asks.mid) ≤ version = is.recent in
      let is_all : version ≡ length (accepted h) = omega (arith, floor_seen seen q (state callers is.asks.mid), recent, within, long, few, slots_number callers h) in
      (all, is_all, omega (arith, served_published set callers (Unit {0}) c seen q h later version is law, published_few set callers later law, long, is_all))

  shown_alone : (q : Query) (r : Reply) (later : List Event) → Lawful set callers later → IsShown set callers (Unit {0}) c seen h q r later → Turn set k (Read (Ok (request.Query q))) r seen (state callers later)
  shown_alone q r later law is =
      let got = at_end q is.version later law is.served is.within in
      let mid = state callers is.served.asks.mid in
      let same = asks_same is.served.asked is.served.asks in
      let slots = slots_number callers h in
      let slots_then = slots_number callers later in
      let long : length (accepted later) ≡ length (accepted h) = ap length got.0 in
      let order = (in_order set callers later law).published in
      let top = prefix_len-le-length is_done (state callers later).slots in
      let at_ask : length mid.slots ≡ length (state callers h).slots = ap (λ (t : State). length t.slots) same.0 in
      let changes : accepted later ≡ k.changes = got.0 ∙ known h refl in
      let version : is.version ≡ length k.changes = omega (arith, got.1, slots, number) in
      let shut = served_shut set callers c seen q h later is.version law is.served m.shut in
      record {
        then = all_published k;
        is = inr (inr (
          omega (arith, is.served.goes_on.0, at_ask, number),
          λ waits.
              let floor = is.served.goes_on.1 waits in
              let ask_ready : ready mid ≡ k.done = ap ready same.0 ∙ m.done in
              omega (arith, floor, floor_seen seen q mid, ask_ready, few, number, at_ask, prefix_len-le-length is_done mid.slots),
          subst (λ v. IsReply set k.changes v q r) version (subst (λ cs. IsReply set cs is.version q r) changes is.shows),
          refl,
        ));
        matches = record {
          changes = changes_in-state callers later ∙ changes;
          done = omega (arith, order, top, got.2, version, slots_then, long, slots, number);
          published = omega (arith, got.2, version);
          floor = is.swept ∙ none_open (state callers later).views (state callers later).published shut ∙ (let e : (state callers later).published ≡ length k.changes = omega (arith, got.2, version) in e);
          shut = shut;
        };
        few = omega (arith, shown_named set (accepted later) is.version q r is.shows, version, slots_then, long, slots, number, le-max_right seen (named r));
      }

  answers_alone : (q : Query) (r : Reply) (later : List Event) → Lawful set callers later → IsAnswered set callers (Unit {0}) c seen h q r later → Turn set k (Read (Ok (request.Query q))) r seen (state callers later)
  answers_alone q r later law (inl is) =
      let same = asks_same later is.asks in
      let at_ask : length (state callers is.asks.mid).slots ≡ length k.changes = ap (λ (t : State). length t.slots) same.0 ∙ number in
      stay (Read (Ok (request.Query q))) r (state callers later) same.1 (inl (omega (arith, is.above, at_ask), is.reply_is ∙ ap (λ (n : ℕ). reply.Refused (refusal.Future n)) at_ask, refl))
  answers_alone q r later law (inr (inl is)) =
      let same = asks_same later is.asks in
      let at_ask : length (state callers is.asks.mid).slots ≡ length k.changes = ap (λ (t : State). length t.slots) same.0 ∙ number in
      let ask_ready : ready (state callers is.asks.mid) ≡ k.done = ap ready same.0 ∙ m.done in
      stay (Read (Ok (request.Query q))) r (state callers later) same.1
      (inr (inl (omega (arith, is.within, at_ask), is.no_work, omega (arith, is.undone, ask_ready, at_ask), is.reply_is ∙ ap (λ n. reply.Pending (n + 1)) ask_ready, refl)))
  answers_alone q r later law (inr (inr is)) = shown_alone q r later law is

  turn_alone : (l : Said) (r : Reply) (later : List Event) → Lawful set callers later → IsAnswer set callers (Unit {0}) c seen h l r later → Turn set k l r seen (state callers later)
  turn_alone TooLong r later law is = stay TooLong r (state callers later) (ap (state callers) (alone_same c h later is.1)) (is.0, refl)
  turn_alone (Read (Err why)) r later law is = stay (Read (Err why)) r (state callers later) (ap (state callers) (alone_same c h later is.1)) (is.0, refl)
  turn_alone (Read (Ok (request.Change change))) r later law is = changes_alone later change r is
  turn_alone (Read (Ok (request.Query q))) r later law is = answers_alone q r later law is
  turn_alone (Read (Ok request.State)) r later law is = told_alone later r is

-- ---- the walk

module _ (set : Settings) (callers c : ℕ) where
  walked : (seen : ℕ) (h later : List Event) (k : Walk) (lines : List Said) (replies : List Reply) → Lawful set callers later → Matches k (state callers h) → length (state callers h).slots ≤ seen → Talk set callers (Unit {0}) c seen h lines replies later → IsAloneUpToMemory set k lines replies
  walked seen h later k [] [] law m few talk = tt
  walked seen h later k [] (r ∷ replies) law m few talk = absurd talk
  walked seen h later k (l ∷ lines) [] law m few talk = absurd talk
  walked seen h later k (l ∷ lines) (r ∷ replies) law m few talk =
      elim talk.1 [
        | inl given ↦ inl (given_read set callers (Unit {0}) c seen h talk.0 l given.1, given.0, talk_many set callers (Unit {0}) c (max seen (named r)) talk.0 later lines replies talk.2)
        | inr is ↦
            let on = talk_goes_on set callers (Unit {0}) c (max seen (named r)) talk.0 later lines replies talk.2 in
            let law_mid : Lawful set callers talk.0 = Lawful-prefix set callers talk.0 on.more (subst (Lawful set callers) on.later_is law) in
            let turn = turn_alone set callers c seen h k m few l r talk.0 law_mid is in
            inr (turn.then, turn.is, walked (max seen (named r)) talk.0 later turn.then lines replies law turn.matches turn.few talk.2)
      ]

  pub alone_from_nothing : (later : List Event) (lines : List Said) (replies : List Reply) → Talk set callers (Unit {0}) c 0 [] lines replies later → Lawful set callers later → IsAloneUpToMemory set no_walk lines replies
  alone_from_nothing later lines replies talk law = walked 0 [] later no_walk lines replies law (record { changes = refl; done = refl; published = refl; floor = refl; shut = all_none callers }) (omega arith) talk
