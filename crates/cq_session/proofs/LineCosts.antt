-- What the views cost that were opened for one line, by the row of its answer.
use Rattle.std.proofs.Common.{◌≡◌, ℕ, ◌<◌, ◌≤◌, Bool, true, false, cond, List, [], ◌∷◌, ◌++◌, length, map, Option, Some, None, Ok, Err, refl, sym, ap, ◌∙◌, subst, inl, inr, append_assoc}
use Rattle.std.specs.Prelude.{◌==◌, filter_map, IfSome}
use Rattle.std.specs.List.{AllByRecursion}
use Rattle.std.proofs.lemmas.List.Elements.{filter_map-append}
use Rattle.cq_answer.specs.declared.part.Part.{Part}
use Rattle.cq_answer.specs.Reply.{IsReply, reply_of, part_read, chosen_read}
use Rattle.cq_answer.specs.Rows.{Facts, facts_read}
use Rattle.cq_base.specs.declared.change.Change.{Change}
use Rattle.cq_base.specs.declared.change.Condition.{Condition}
use Rattle.cq_base.specs.declared.group.Group.{Group}
use Rattle.cq_base.specs.declared.settings.Settings.{Settings}
use Rattle.cq_history.specs.declared.event.Event.{Event}
use Rattle.cq_history.specs.declared.event.Event.TheVariants.{Accept, Ask, Done}
use Rattle.cq_history.specs.Files.{conditions_at}
use Rattle.cq_history.specs.State.{accepted, own}
use Rattle.cq_history.proofs.Prefixes.{own-append}
use Rattle.cq_hub.specs.Hubs.{Grows, Never}
use Rattle.cq_reply.specs.declared.reply.Reply.{Reply}
use Rattle.cq_reply.specs.declared.reply.Reply.TheVariants as reply
use Rattle.cq_request.specs.declared.request.Kind.{Kind}
use Rattle.cq_request.specs.declared.request.Kind.TheVariants as kind
use Rattle.cq_request.specs.declared.request.Query.{Query}
use Rattle.cq_request.specs.declared.request.Request.TheVariants as request
use Rattle.cq_lines.specs.Pieces.{line_limit}
use Rattle.cq_talk.specs.Said.{Said, said, TooLong, Read}
use Rattle.cq_talk.specs.Talk.{Asks, IsChangedBy, IsServed, IsShown, Waits, viewed}
use Rattle.cq_talk.proofs.Saying.{said_long}
use Rattle.cq_talk.proofs.Served.{asks_grow, served_grows}
use Rattle.cq_talk.proofs.Unmade.{IsUnmade}
use Rattle.cq_session.specs.Costs.{Viewing, AreViewings, shown_in, answered_in, given_up_in, opened_by, Counts, counted, Costs, Spends}
use Rattle.cq_session.proofs.Spending.{IsWithin, costs_none, costs_untold, spends_none}

-- a reply by a version shows it
module _ (facts : Facts) (conditions : List Condition) (version : ℕ) (p : Part) (is_chosen : ℕ → Bool) (groups : List Group) where
  kind_shown : (k : Kind) → shown_in (reply_of facts conditions version k p is_chosen groups) ≡ Some version
  kind_shown kind.Files = refl
  kind_shown kind.Groups = refl
  kind_shown kind.Measures = refl
  kind_shown kind.Verdict = refl
  kind_shown kind.Functions = refl

shown_at : (set : Settings) (changes : List Change) (version : ℕ) (q : Query) (r : Reply) → IsReply set changes version q r → shown_in r ≡ Some version
shown_at set changes version q r is = ap shown_in is.reply_is ∙ kind_shown (facts_read is.readings) (conditions_at changes version q.project) version (part_read is.readings q) (chosen_read is.readings q) is.groups q.kind

-- works that are done open no view
dones_open_none : (c : ℕ) (rs : List ℕ) → filter_map opened_by (map (λ r. Done c r) rs) ≡ []
dones_open_none c [] = refl
dones_open_none c (r ∷ rs) = dones_open_none c rs

opened_after : (c : ℕ) (rs : List ℕ) (view : Option ℕ) → filter_map opened_by (Ask c ∷ (map (λ r. Done c r) rs ++ viewed c view)) ≡ filter_map opened_by (viewed c view)
opened_after c rs view = filter_map-append opened_by (map (λ r. Done c r) rs) (viewed c view) ∙ ap (λ vs. vs ++ filter_map opened_by (viewed c view)) (dones_open_none c rs)

opened_given_up : (c : ℕ) (q : Query) (view : Option ℕ) → filter_map opened_by (viewed c view) ≡ map (λ (v : Viewing). v.version) (given_up_in q view)
opened_given_up c q None = refl
opened_given_up c q (Some v) = refl

accepting_opens_none : (c by : ℕ) (change : Change) → filter_map opened_by (own c (Accept by change ∷ [])) ≡ []
accepting_opens_none c by change = go (c == by)
  where
    go : (b : Bool) → filter_map opened_by (cond b (Accept by change ∷ []) []) ≡ []
    go true = refl
    go false = refl

all_given_up : (h : List Event) (q : Query) (view : Option ℕ) → IfSome view (λ v. v ≤ length (accepted h)) → AllByRecursion (IsWithin h) (given_up_in q view)
all_given_up h q None within = tt
all_given_up h q (Some v) within = (within, tt)

module _ (set : Settings) (alone : Type 0) (c : ℕ) where
  -- where the caller's own events are these, which open the views
  pub spends_grown : (Are : List Viewing → Type 0) (May : Event → Type 0) (h later es : List Event) (vs : List Viewing) (n : Counts) → Grows alone May c h later es → Are vs → filter_map opened_by es ≡ map (λ (v : Viewing). v.version) vs
      → AllByRecursion (IsWithin later) vs → Costs set (accepted later) vs n → Spends Are set c h n later
  spends_grown Are May h later es vs n grows are opened within costs = record {
    more = grows.more;
    after_is = grows.after_is;
    viewings = vs;
    are = are;
    opened = ap (filter_map opened_by) grows.own_is ∙ opened;
    within = within;
    costs = costs;
  }

  module _ (reads asked asked_now : ℕ) (same : asked_now ≡ asked) (Are : List Viewing → Type 0) (none : Are []) (h later : List Event) where
    pub spends_waiting : Waits alone c h later → Spends Are set c h (counted reads reads asked asked_now) later
    spends_waiting waits = spends_grown Are Never h later [] [] _ waits none refl tt (costs_none set (accepted later) reads asked asked_now same)

    pub spends_asking : Asks alone c h later → Spends Are set c h (counted reads reads asked asked_now) later
    spends_asking asks = spends_grown Are Never h later (Ask c ∷ []) [] _ (asks_grow alone c h later asks) none refl tt (costs_none set (accepted later) reads asked asked_now same)

    pub spends_changing : (callers by : ℕ) (change : Change) (r : Reply) → IsChangedBy set callers alone c by h change r later → Spends Are set c h (counted reads reads asked asked_now) later
    spends_changing callers by change r (inl is) = record {
      more = is.waits.more ++ Accept by change ∷ [];
      after_is = is.accepts ∙ (ap (λ l. l ++ Accept by change ∷ []) is.waits.after_is ∙ append_assoc h is.waits.more (Accept by change ∷ []));
      viewings = [];
      are = none;
      opened = ap (filter_map opened_by) (own-append c is.waits.more (Accept by change ∷ []) ∙ ap (λ l. l ++ own c (Accept by change ∷ [])) is.waits.own_is) ∙ accepting_opens_none c by change;
      within = tt;
      costs = costs_none set (accepted later) reads asked asked_now same;
    }
    spends_changing callers by change r (inr is) = spends_waiting is.waits

module _ (set : Settings) (callers : ℕ) (alone : Type 0) (c seen : ℕ) (q : Query) (h later : List Event) where
  -- a query that was answered by a view
  pub spends_shown : (r : Reply) (n : Counts) → (is : IsShown set callers alone c seen h q r later) → Costs set (accepted later) (answered_in q (Some is.version)) n → Spends (AreViewings (Read (Ok (request.Query q))) r) set c h n later
  spends_shown r n is costs =
      spends_grown set alone c _ IsUnmade h later _ (answered_in q (Some is.version)) n (served_grows set callers alone c seen q h later (Some is.version) is.served) (inl (ap (answered_in q) (sym (shown_at set (accepted later) is.version q r is.shows))))
      (opened_after c is.served.finished (Some is.version)) (is.within, tt) costs

  -- and one that was given up
  pub spends_given_up : (view : Option ℕ) (n : Counts) → IsServed set callers alone c seen q h later view → IfSome view (λ v. v ≤ length (accepted later)) → Costs set (accepted later) (given_up_in q view) n
      → Spends (AreViewings (Read (Ok (request.Query q))) reply.Memory) set c h n later
  spends_given_up view n is within costs =
      spends_grown set alone c _ IsUnmade h later _ (given_up_in q view) n (served_grows set callers alone c seen q h later view is) (inr (refl, view, refl)) (opened_after c is.finished view ∙ opened_given_up c q view) (all_given_up later q view within) costs

-- where memory was refused, no view may have been opened
pub none_given_up : (l : Said) → AreViewings l reply.Memory []
none_given_up TooLong = refl
none_given_up (Read (Err why)) = refl
none_given_up (Read (Ok (request.Change change))) = refl
none_given_up (Read (Ok (request.Query q))) = inl refl
none_given_up (Read (Ok request.State)) = refl

-- the same of what is said in other words, under equal settings
pub spends_as : (set now : Settings) (l k : Said) (r : Reply) (c : ℕ) (h later : List Event) (n : Counts) → set ≡ now → k ≡ l → Spends (AreViewings l r) set c h n later → Spends (AreViewings k r) now c h n later
spends_as set now l k r c h later n sets says is = subst (λ (s : Settings). Spends (AreViewings k r) s c h n later) sets (subst (λ (m : Said). Spends (AreViewings m r) set c h n later) (sym says) is)

-- a line that is too long costs nothing
pub spends_long : (set : Settings) (c : ℕ) (h : List Event) (line : List ℕ) (reads asked : ℕ) → line_limit < length line → Spends (AreViewings (said set.chunk line) reply.Long) set c h (counted reads reads asked asked) h
spends_long set c h line reads asked long = subst (λ (l : Said). Spends (AreViewings l reply.Long) set c h (counted reads reads asked asked) h) (sym (said_long set.chunk line long)) (spends_none set c (AreViewings TooLong reply.Long) h reads asked refl)

-- ---- a reply that was made and is not told

module _ (set : Settings) (changes : List Change) (q : Query) (reads reads_now asked asked_now : ℕ) where
  costs_to_memory : (view : Option ℕ) → Costs set changes (answered_in q view) (counted reads reads_now asked asked_now) → Costs set changes (given_up_in q view) (counted reads reads_now asked asked_now)
  costs_to_memory None costs = costs
  costs_to_memory (Some v) costs = costs_untold set changes q v reads reads_now asked asked_now costs

within_untold : (h : List Event) (q : Query) (view : Option ℕ) → AllByRecursion (IsWithin h) (answered_in q view) → AllByRecursion (IsWithin h) (given_up_in q view)
within_untold h q None within = within
within_untold h q (Some v) within = within

versions_untold : (q : Query) (view : Option ℕ) → map (λ (v : Viewing). v.version) (answered_in q view) ≡ map (λ (v : Viewing). v.version) (given_up_in q view)
versions_untold q None = refl
versions_untold q (Some v) = refl

module _ (set : Settings) (c : ℕ) (h later : List Event) (reads reads_now asked asked_now : ℕ) where
  abbrev LineSpends : Said → Reply → Type 0
  LineSpends l r = Spends (AreViewings l r) set c h (counted reads reads_now asked asked_now) later

  query_untold : (q : Query) (r : Reply) → LineSpends (Read (Ok (request.Query q))) r → LineSpends (Read (Ok (request.Query q))) reply.Memory
  query_untold q r is = elim is.are [
    | inl shown ↦ record {
      more = is.more;
      after_is = is.after_is;
      viewings = given_up_in q (shown_in r);
      are = inr (refl, shown_in r, refl);
      opened = is.opened ∙ (ap (map (λ (v : Viewing). v.version)) shown ∙ versions_untold q (shown_in r));
      within = within_untold later q (shown_in r) (subst (AllByRecursion (IsWithin later)) shown is.within);
      costs = costs_to_memory set (accepted later) q reads reads_now asked asked_now (shown_in r) (subst (λ vs. Costs set (accepted later) vs (counted reads reads_now asked asked_now)) shown is.costs);
    }
    | inr memory ↦ record { more = is.more; after_is = is.after_is; viewings = is.viewings; are = inr (refl, memory.1, memory.2); opened = is.opened; within = is.within; costs = is.costs }
  ]

  other_untold : (l : Said) (r : Reply) → LineSpends l r → ((vs : List Viewing) → AreViewings l r vs → AreViewings l reply.Memory vs) → LineSpends l reply.Memory
  other_untold l r is to = record { more = is.more; after_is = is.after_is; viewings = is.viewings; are = to is.viewings is.are; opened = is.opened; within = is.within; costs = is.costs }

  pub spends_untold : (l : Said) (r : Reply) → LineSpends l r → LineSpends l reply.Memory
  spends_untold TooLong r is = other_untold TooLong r is (λ vs are. are)
  spends_untold (Read (Err why)) r is = other_untold (Read (Err why)) r is (λ vs are. are)
  spends_untold (Read (Ok (request.Change change))) r is = other_untold (Read (Ok (request.Change change))) r is (λ vs are. are)
  spends_untold (Read (Ok (request.Query q))) r is = query_untold q r is
  spends_untold (Read (Ok request.State)) r is = other_untold (Read (Ok request.State)) r is (λ vs are. are)
