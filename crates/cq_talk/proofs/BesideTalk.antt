-- A talk with a hub whose other callers accept no changes and open no views, walked.
use Rattle.std.proofs.Common.{◌≡◌, ◌⊎◌, ℕ, ◌+◌, ◌≤◌, List, [], ◌∷◌, ◌++◌, length, max, Some, None, Ok, Err, refl, sym, ap, ◌∙◌, subst, inl, inr, arith, length-append}
use Rattle.std.specs.List.{AllByRecursion}
use Rattle.std.proofs.Math.Nat.{le-max_left, le-max_right, max-le}
use Rattle.std.proofs.lemmas.List.Sums.{prefix_len-le-length}
use Rattle.cq_base.specs.declared.settings.Settings.{Settings}
use Rattle.cq_base.specs.declared.change.Change.{Change}
use Rattle.cq_history.specs.declared.event.Event.{Event}
use Rattle.cq_history.specs.declared.event.Event.TheVariants.{Accept, Ask}
use Rattle.cq_history.specs.State.{State, state, accepted, is_done, ready}
use Rattle.cq_history.specs.Lawful.{Lawful}
use Rattle.cq_history.proofs.States.{state_push}
use Rattle.cq_history.proofs.Bounds.{in_order}
use Rattle.cq_history.proofs.Doing.{slots_number}
use Rattle.cq_history.proofs.Prefixes.{accepted-append}
use Rattle.cq_board.specs.declared.answers.Refused.{Refused}
use Rattle.cq_board.specs.declared.answers.Refused.TheVariants as refused
use Rattle.cq_request.specs.declared.request.Query.{Query}
use Rattle.cq_request.specs.declared.request.Request.TheVariants as request
use Rattle.cq_reply.specs.declared.reply.Reply.{Reply}
use Rattle.cq_reply.specs.declared.reply.Reply.TheVariants as reply
use Rattle.cq_answer.specs.Refusals.{cause_told}
use Rattle.cq_answer.specs.Reply.{IsReply}
use Rattle.cq_talk.specs.Said.{Said, TooLong, Read, WasRead}
use Rattle.cq_talk.specs.Replies.{named, version_in, answered_in}
use Rattle.cq_talk.specs.Causes.{cause}
use Rattle.cq_talk.specs.Talk.{Talk, Answers, IsAnswered, IsShown, IsChanged, IsGivenUp, Tells}
use Rattle.cq_talk.specs.Beside.{Known, nothing_known, known_then, changes_then, with_told, IsReplyBeside, IsBeside}
use Rattle.cq_talk.specs.Laws.{ActsBy}
use Rattle.cq_talk.proofs.GoingOn.{by_one, by_unmade, talk_goes_on}
use Rattle.cq_talk.proofs.BesideRows.{Fair, Keeps, fair_before, keeps, keeps_asking, keeps_to_ask, keeps_serving, keeps_giving_up, served_greatest, undone_put}
use Rattle.cq_talk.proofs.Causing.{cause_is}
use Rattle.cq_talk.proofs.Rooming.{accepted_beside, refused_beside}
use Rattle.cq_talk.proofs.AloneTalk.{floor_seen, given_read}
use Rattle.cq_talk.proofs.Served.{asked_grows, served_published}
use Rattle.cq_talk.proofs.Shown.{shown_version, shown_answered}
use Rattle.cq_talk.proofs.Unmade.{accepts_all}
use Rattle.cq_base.specs.declared.refusal.Refusal.TheVariants as refusal

-- what the user knows fits the history: each accepted change's number was named, what was named is published, and what was
-- answered is at most the floor
pub record Fits (callers : ℕ) (k : Known) (seen : ℕ) (h : List Event) : Type 0 where
  pub changes : accepted h ≡ k.changes
  pub version : k.version ≤ (state callers h).published
  pub few : length k.changes ≤ seen
  pub answered : k.answered ≤ (state callers h).floor

pub record Turn (set : Settings) (callers : ℕ) (k : Known) (l : Said) (r : Reply) (seen : ℕ) (later : List Event) : Type 0 where
  pub is : (WasRead l × (r ≡ reply.Memory)) ⊎ IsReplyBeside set k l r
  pub fits : Fits callers (known_then k l r) (max seen (named r)) later

-- ---- replies that name nothing

pub none_told : (changes : List Change) (change : Change) (why : Refused) → (with_told changes change (cause_told why) ≡ changes) × (version_in (cause_told why) ≡ 0) × (answered_in (cause_told why) ≡ 0)
none_told changes change refused.Absent = (refl, refl, refl)
none_told changes change refused.FullChanges = (refl, refl, refl)
none_told changes change refused.FullText = (refl, refl, refl)
none_told changes change refused.Memory = (refl, refl, refl)

none_given : (changes : List Change) (l : Said) → changes_then changes l reply.Memory ≡ changes
none_given changes TooLong = refl
none_given changes (Read (Err why)) = refl
none_given changes (Read (Ok (request.Change change))) = refl
none_given changes (Read (Ok (request.Query q))) = refl
none_given changes (Read (Ok request.State)) = refl

module _ (set : Settings) (callers : ℕ) (alone : Type 0) (c seen : ℕ) (h : List Event) (k : Known) (fits : Fits callers k seen h) where
  -- no change more, whatever is named
  named_more : (later : List Event) (l : Said) (r : Reply) → changes_then k.changes l r ≡ k.changes → Keeps callers h later → version_in r ≤ (state callers later).published → answered_in r ≤ (state callers later).floor → Fits callers (known_then k l r) (max seen (named r)) later
  named_more later l r same kept published answered = record {
    changes = kept.accepted_is ∙ (fits.changes ∙ sym same);
    version = max-le (omega (arith, fits.version, kept.published)) published;
    few = let long : length (changes_then k.changes l r) ≡ length k.changes = ap length same in omega (arith, long, fits.few, le-max_left seen (named r));
    answered = max-le (omega (arith, fits.answered, kept.floor)) answered;
  }

  silent : (later : List Event) (l : Said) (r : Reply) → changes_then k.changes l r ≡ k.changes → version_in r ≡ 0 → answered_in r ≡ 0 → Keeps callers h later → Fits callers (known_then k l r) (max seen (named r)) later
  silent later l r same none unanswered kept = named_more later l r same kept (omega (arith, none)) (omega (arith, unanswered))

  same_many : (mid : List Event) → Keeps callers h mid → length (state callers mid).slots ≡ length k.changes
  same_many mid kept = slots_number callers mid ∙ ap length (kept.accepted_is ∙ fits.changes)

  changed : (later : List Event) (change : Change) (r : Reply) → Fair set callers c later → IsChanged set callers alone c h change r later → Turn set callers k (Read (Ok (request.Change change))) r seen later
  changed later change r fair (inl is) =
      let before : Fair set callers c is.mid = fair_before set callers alone c is.mid later (by_one alone c is.mid later (Accept c change) refl is.accepts) fair in
      let kept = keeps set callers alone c h is.mid [] refl is.waits before in
      let now : accepted is.mid ≡ k.changes = kept.accepted_is ∙ fits.changes in
      let many : length (accepted is.mid) ≡ length k.changes = ap length now in
      let no_cause : cause set k.changes (state callers is.mid).floor change ≡ None = sym (cause_is set callers is.mid k.changes change now) ∙ is.no_cause in
      let order = in_order set callers is.mid before.law in
      let top = prefix_len-le-length is_done (state callers is.mid).slots in
      let high : (state callers is.mid).floor ≤ length k.changes = omega (arith, order.floor, order.published, top, slots_number callers is.mid, many) in
      let floor : (state callers later).floor ≡ (state callers is.mid).floor = ap (λ g. (state callers g).floor) is.accepts ∙ ap (λ (s : State). s.floor) (state_push callers is.mid (Accept c change)) in
      let told : r ≡ reply.Change (length k.changes + 1) = is.reply_is ∙ ap (λ n. reply.Change (n + 1)) many in
      let more : length (k.changes ++ change ∷ []) ≡ length k.changes + 1 = length-append k.changes (change ∷ []) in
      let published : (state callers later).published ≡ (state callers is.mid).published = ap (λ g. (state callers g).published) is.accepts ∙ ap (λ (s : State). s.published) (state_push callers is.mid (Accept c change)) in
      record {
        is = inr (accepted_beside set k change r (state callers is.mid).floor high no_cause told);
        fits = subst (λ s. Fits callers (known_then k (Read (Ok (request.Change change))) s) (max seen (named s)) later) (sym told) (record {
          changes = ap accepted is.accepts ∙ (accepted-append is.mid (Accept c change ∷ []) ∙ ap (λ cs. cs ++ change ∷ []) now);
          version = max-le (omega (arith, fits.version, kept.published, published)) (omega arith);
          few = omega (arith, more, le-max_right seen (length k.changes + 1));
          answered = max-le (omega (arith, fits.answered, kept.floor, floor)) (omega arith);
        });
      }
  changed later change r fair (inr is) =
      let kept = keeps set callers alone c h later [] refl is.waits fair in
      let told : cause set k.changes (state callers later).floor change ≡ Some is.cause = sym (cause_is set callers later k.changes change (kept.accepted_is ∙ fits.changes)) ∙ is.cause_is in
      let none = none_told k.changes change is.cause in
      record {
        is = inr (refused_beside set k change r (state callers later).floor (omega (arith, fits.answered, kept.floor)) is.cause told is.reply_is);
        fits = silent later (Read (Ok (request.Change change))) r (ap (with_told k.changes change) is.reply_is ∙ none.0) (ap version_in is.reply_is ∙ none.1) (ap answered_in is.reply_is ∙ none.2) kept;
      }

  told : (later : List Event) (r : Reply) → Fair set callers c later → Tells set callers alone c h r later → Turn set callers k (Read (Ok request.State)) r seen later
  told later r fair is =
      let s = state callers is.asks.mid in
      let ask = keeps_to_ask set callers alone c h later is.asks fair in
      let kept = keeps_asking set callers alone c h later is.asks fair in
      let many = same_many is.asks.mid ask.1 in
      let order = (in_order set callers is.asks.mid ask.0.law).published in
      let few = prefix_len-le-length is_done s.slots in
      let published : (state callers later).published ≡ s.published = ap (λ g. (state callers g).published) is.asks.asks ∙ ap (λ (t : State). t.published) (state_push callers is.asks.mid (Ask c)) in
      let version : version_in r ≡ s.published = ap version_in is.reply_is in
      record {
        is = inr (record {
          done = ready s;
          published = s.published;
          kept = omega (arith, fits.version, ask.1.published);
          in_order = order;
          few = omega (arith, few, many);
          reply_is = is.reply_is ∙ ap (λ n. reply.State n (ready s) s.published) many;
        });
        fits = named_more later (Read (Ok request.State)) r refl kept (omega (arith, published, version)) (let unanswered : answered_in r ≡ 0 = ap answered_in is.reply_is in omega (arith, unanswered));
      }

  shown : (q : Query) (r : Reply) (later : List Event) → Fair set callers c later → IsShown set callers alone c seen h q r later → Turn set callers k (Read (Ok (request.Query q))) r seen later
  shown q r later fair is =
      let served = is.served in
      let kept = keeps_serving set callers alone c seen q h later (Some is.version) served fair in
      let asked = fair_before set callers alone c served.asked later (by_unmade alone c served.asked later _ (asked_grows set callers alone c seen q h later (Some is.version) served)) fair in
      let ask = keeps_to_ask set callers alone c h served.asked served.asks asked in
      let many = same_many served.asks.mid ask.1 in
      let now : accepted later ≡ k.changes = kept.accepted_is ∙ fits.changes in
      let all : length (accepted later) ≡ length k.changes = ap length now in
      let version : is.version ≡ length k.changes = omega (arith, floor_seen seen q (state callers served.asks.mid), served.recent, is.within, fits.few, all) in
      let names = shown_version set (accepted later) is.version q r is.shows in
      let published = served_published set callers alone c seen q h later is.version served fair.law in
      let same = shown_answered set (accepted later) is.version q r is.shows in
      let floor : (state callers later).floor ≡ (state callers later).published = is.swept ∙ served_greatest set callers alone c seen q h later is.version served fair in
      record {
        is = inr (inr (inr (omega (arith, served.goes_on.0, many), subst (λ v. IsReply set k.changes v q r) version (subst (λ cs. IsReply set cs is.version q r) now is.shows))));
        fits = named_more later (Read (Ok (request.Query q))) r refl kept (omega (arith, names, published)) (omega (arith, same, published, floor));
      }

  answered : (q : Query) (r : Reply) (later : List Event) → Fair set callers c later → IsAnswered set callers alone c seen h q r later → Turn set callers k (Read (Ok (request.Query q))) r seen later
  answered q r later fair (inl is) =
      let ask = keeps_to_ask set callers alone c h later is.asks fair in
      let many = same_many is.asks.mid ask.1 in
      record {
        is = inr (inl (omega (arith, is.above, many), is.reply_is ∙ ap (λ (n : ℕ). reply.Refused (refusal.Future n)) many));
        fits = silent later (Read (Ok (request.Query q))) r refl (ap version_in is.reply_is) (ap answered_in is.reply_is) (keeps_asking set callers alone c h later is.asks fair);
      }
  answered q r later fair (inr (inl is)) =
      let ask = keeps_to_ask set callers alone c h later is.asks fair in
      let many = same_many is.asks.mid ask.1 in
      let order = (in_order set callers is.asks.mid ask.0.law).published in
      record {
        is = inr (inr (inl (record {
          within = omega (arith, is.within, many);
          no_work = is.no_work;
          number = _;
          put = undone_put callers is.asks.mid k.changes _ (ask.1.accepted_is ∙ fits.changes) refl (omega (arith, is.undone));
          above = omega (arith, order, fits.version, ask.1.published);
          reply_is = is.reply_is;
        })));
        fits = silent later (Read (Ok (request.Query q))) r refl (ap version_in is.reply_is) (ap answered_in is.reply_is) (keeps_asking set callers alone c h later is.asks fair);
      }
  answered q r later fair (inr (inr is)) = shown q r later fair is

  given_up : (l : Said) (r : Reply) (later : List Event) → r ≡ reply.Memory → Fair set callers c later → IsGivenUp set callers alone c seen h l later → Turn set callers k l r seen later
  given_up l r later memory fair is = record {
    is = inl (given_read set callers alone c seen h later l is, memory);
    fits = silent later l r (ap (changes_then k.changes l) memory ∙ none_given k.changes l) (ap version_in memory) (ap answered_in memory) (keeps_giving_up set callers alone c seen h later l is fair);
  }

  turn : (l : Said) (r : Reply) (later : List Event) → Fair set callers c later → Answers set callers alone c seen h l r later → Turn set callers k l r seen later
  turn l r later fair (inl given) = given_up l r later given.0 fair given.1
  turn TooLong r later fair (inr is) = record { is = inr is.0; fits = silent later TooLong r refl (ap version_in is.0) (ap answered_in is.0) (keeps set callers alone c h later [] refl is.1 fair) }
  turn (Read (Err why)) r later fair (inr is) = record { is = inr is.0; fits = silent later (Read (Err why)) r refl (ap version_in is.0) (ap answered_in is.0) (keeps set callers alone c h later [] refl is.1 fair) }
  turn (Read (Ok (request.Change change))) r later fair (inr is) = changed later change r fair is
  turn (Read (Ok (request.Query q))) r later fair (inr is) = answered q r later fair is
  turn (Read (Ok request.State)) r later fair (inr is) = told later r fair is

-- ---- the walk

module _ (set : Settings) (callers : ℕ) (alone : Type 0) (c : ℕ) where
  walked : (seen : ℕ) (h later : List Event) (k : Known) (lines : List Said) (replies : List Reply) → Fair set callers c later → Fits callers k seen h → Talk set callers alone c seen h lines replies later → IsBeside set k lines replies
  walked seen h later k [] [] fair fits talk = tt
  walked seen h later k [] (r ∷ replies) fair fits talk = absurd talk
  walked seen h later k (l ∷ lines) [] fair fits talk = absurd talk
  walked seen h later k (l ∷ lines) (r ∷ replies) fair fits talk =
      let on = talk_goes_on set callers alone c (max seen (named r)) talk.0 later lines replies talk.2 in
      let one = turn set callers alone c seen h k fits l r talk.0 (fair_before set callers alone c talk.0 later on fair) talk.1 in
      (one.is, walked (max seen (named r)) talk.0 later (known_then k l r) lines replies fair one.fits talk.2)

  pub beside_from_nothing : (later : List Event) (lines : List Said) (replies : List Reply) → Talk set callers alone c 0 [] lines replies later → Lawful set callers later → AllByRecursion (ActsBy c) later → IsBeside set nothing_known lines replies
  beside_from_nothing later lines replies talk law accepts = walked 0 [] later nothing_known lines replies (record { law = law; accepts = accepts }) (record { changes = refl; version = omega arith; few = omega arith; answered = omega arith }) talk

-- ---- a hub that is alone

pub beside_alone : (set : Settings) (callers c : ℕ) (later : List Event) (lines : List Said) (replies : List Reply) → Talk set callers (Unit {0}) c 0 [] lines replies later → Lawful set callers later → IsBeside set nothing_known lines replies
beside_alone set callers c later lines replies talk law =
    let on = talk_goes_on set callers (Unit {0}) c 0 [] later lines replies talk in
    beside_from_nothing set callers (Unit {0}) c later lines replies talk law (subst (AllByRecursion (ActsBy c)) (sym on.later_is) (accepts_all c on.more (on.alone_is tt)))
