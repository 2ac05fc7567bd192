-- One more line, and what its reply names.
use Rattle.std.proofs.Common.{◌≡◌, ℕ, ◌+◌, ◌≤◌, List, [], ◌∷◌, ◌++◌, length, max, Option, Some, Ok, Err, refl, ap, ◌∙◌, subst, inl, inr, arith, append-nil}
use Rattle.std.proofs.Math.Nat.{max-le}
use Rattle.std.proofs.lemmas.List.Sums.{prefix_len-le-length}
use Rattle.cq_base.specs.declared.settings.Settings.{Settings}
use Rattle.cq_base.specs.declared.change.Change.{Change}
use Rattle.cq_board.specs.declared.answers.Refused.{Refused}
use Rattle.cq_board.specs.declared.answers.Refused.TheVariants as refused
use Rattle.cq_history.specs.declared.event.Event.{Event}
use Rattle.cq_history.specs.declared.event.Event.TheVariants.{Ask}
use Rattle.cq_history.specs.State.{state, accepted, is_done}
use Rattle.cq_history.specs.Lawful.{Lawful}
use Rattle.cq_history.proofs.States.{Lawful-prefix}
use Rattle.cq_history.proofs.Bounds.{in_order}
use Rattle.cq_history.proofs.Doing.{slots_number}
use Rattle.cq_history.proofs.Prefixes.{accepted-append}
use Rattle.cq_request.specs.declared.request.Query.{Query}
use Rattle.cq_request.specs.declared.request.Request.TheVariants as request
use Rattle.cq_reply.specs.declared.reply.Reply.{Reply}
use Rattle.cq_hub.specs.Hubs.{Never}
use Rattle.cq_hub.proofs.Growing.{no_fewer, accepted_more}
use Rattle.cq_answer.specs.Refusals.{cause_told}
use Rattle.cq_talk.specs.Said.{Said, TooLong, Read}
use Rattle.cq_talk.specs.Replies.{named, seen_after}
use Rattle.cq_talk.specs.Talk.{TalkBy, AnswersBy, IsAnswerBy, IsAnswered, IsChangedBy, IsGivenUp, IsServed, Tells, Asks, Waits}
use Rattle.cq_talk.proofs.Served.{asks_grow, served_grows}
use Rattle.cq_talk.proofs.Shown.{shown_named}
use Rattle.cq_talk.proofs.Unmade.{IsUnmade}

pub published_few : (set : Settings) (callers : ℕ) (h : List Event) → Lawful set callers h → (state callers h).published ≤ length (accepted h)
published_few set callers h law = omega (arith, (in_order set callers h law).published, prefix_len-le-length is_done (state callers h).slots, slots_number callers h)

no_number : (why : Refused) → named (cause_told why) ≡ 0
no_number refused.Absent = refl
no_number refused.FullChanges = refl
no_number refused.FullText = refl
no_number refused.Memory = refl

-- no fewer changes are accepted, and the reply names no later one
pub record Few (h later : List Event) (r : Reply) : Type 0 where
  pub more : length (accepted h) ≤ length (accepted later)
  pub name : named r ≤ length (accepted later)

module _ (set : Settings) (callers : ℕ) (alone : Type 0) (c : ℕ) where
  waits_few : (h later : List Event) → Waits alone c h later → length (accepted h) ≤ length (accepted later)
  waits_few h later waits = no_fewer callers alone Never c h later [] waits

  asks_few : (h later : List Event) → Asks alone c h later → length (accepted h) ≤ length (accepted later)
  asks_few h later asks = no_fewer callers alone Never c h later _ (asks_grow alone c h later asks)

  served_few : (seen : ℕ) (q : Query) (h later : List Event) (view : Option ℕ) → IsServed set callers alone c seen q h later view → length (accepted h) ≤ length (accepted later)
  served_few seen q h later view is = no_fewer callers alone IsUnmade c h later _ (served_grows set callers alone c seen q h later view is)

  -- a reply that names nothing
  silent : (h later : List Event) (r : Reply) → length (accepted h) ≤ length (accepted later) → named r ≡ 0 → Few h later r
  silent h later r more none = record { more = more; name = omega (arith, none) }

  changed_few : (by : ℕ) (h later : List Event) (change : Change) (r : Reply) → IsChangedBy set callers alone c by h change r later → Few h later r
  changed_few by h later change r (inl is) =
      let number : named r ≡ length (accepted is.mid) + 1 = ap named is.reply_is in
      let grown : length (accepted later) ≡ length (accepted is.mid) + 1 = ap (λ g. length (accepted g)) is.accepts ∙ accepted_more by change is.mid in
      record { more = omega (arith, waits_few h is.mid is.waits, grown); name = omega (arith, number, grown) }
  changed_few by h later change r (inr is) = silent h later r (waits_few h later is.waits) (ap named is.reply_is ∙ no_number is.cause)

  answered_few : (seen : ℕ) (h later : List Event) (q : Query) (r : Reply) → IsAnswered set callers alone c seen h q r later → Few h later r
  answered_few seen h later q r (inl is) = silent h later r (asks_few h later is.asks) (ap named is.reply_is)
  answered_few seen h later q r (inr (inl is)) = silent h later r (asks_few h later is.asks) (ap named is.reply_is)
  answered_few seen h later q r (inr (inr is)) =
      record { more = served_few seen q h later (Some is.version) is.served; name = omega (arith, is.within, shown_named set (accepted later) is.version q r is.shows) }

  told_few : (h later : List Event) (r : Reply) → Lawful set callers later → Tells set callers alone c h r later → Few h later r
  told_few h later r law is =
      let few = published_few set callers is.asks.mid (Lawful-prefix set callers is.asks.mid (Ask c ∷ []) (subst (Lawful set callers) is.asks.asks law)) in
      let same : length (accepted later) ≡ length (accepted is.asks.mid) = ap (λ g. length (accepted g)) is.asks.asks ∙ ap length (accepted-append is.asks.mid (Ask c ∷ []) ∙ append-nil (accepted is.asks.mid)) in
      let name : named r ≡ (state callers is.asks.mid).published = ap named is.reply_is in
      record { more = asks_few h later is.asks; name = omega (arith, few, same, name) }

  answer_few : (by seen : ℕ) (h later : List Event) (l : Said) (r : Reply) → Lawful set callers later → IsAnswerBy set callers alone c by seen h l r later → Few h later r
  answer_few by seen h later TooLong r law is = silent h later r (waits_few h later is.1) (ap named is.0)
  answer_few by seen h later (Read (Err why)) r law is = silent h later r (waits_few h later is.1) (ap named is.0)
  answer_few by seen h later (Read (Ok (request.Change change))) r law is = changed_few by h later change r is
  answer_few by seen h later (Read (Ok (request.Query q))) r law is = answered_few seen h later q r is
  answer_few by seen h later (Read (Ok request.State)) r law is = told_few h later r law is

  given_up_few : (seen : ℕ) (h later : List Event) (l : Said) → IsGivenUp set callers alone c seen h l later → length (accepted h) ≤ length (accepted later)
  given_up_few seen h later TooLong is = absurd is
  given_up_few seen h later (Read (Err why)) is = waits_few h later is
  given_up_few seen h later (Read (Ok (request.Change change))) is = waits_few h later is
  given_up_few seen h later (Read (Ok (request.Query q))) (inl waits) = waits_few h later waits
  given_up_few seen h later (Read (Ok (request.Query q))) (inr (inl asks)) = asks_few h later asks
  given_up_few seen h later (Read (Ok (request.Query q))) (inr (inr served)) = served_few seen q h later served.0 served.1
  given_up_few seen h later (Read (Ok request.State)) (inl waits) = waits_few h later waits
  given_up_few seen h later (Read (Ok request.State)) (inr asks) = asks_few h later asks

  any_few : (by seen : ℕ) (h later : List Event) (l : Said) (r : Reply) → Lawful set callers later → AnswersBy set callers alone c by seen h l r later → Few h later r
  any_few by seen h later l r law (inl given) = silent h later r (given_up_few seen h later l given.1) (ap named given.0)
  any_few by seen h later l r law (inr is) = answer_few by seen h later l r law is

  -- what was named is still the number of an accepted change
  pub named_few : (by seen : ℕ) (h later : List Event) (l : Said) (r : Reply) → Lawful set callers later → seen ≤ length (accepted h) → AnswersBy set callers alone c by seen h l r later → max seen (named r) ≤ length (accepted later)
  named_few by seen h later l r law few is = let both = any_few by seen h later l r law is in max-le (omega (arith, few, both.more)) both.name

  -- one line more
  pub Talk-more : (by seen : ℕ) (h mid later : List Event) (lines : List Said) (replies : List Reply) (l : Said) (r : Reply) → TalkBy set callers alone c by seen h lines replies mid → AnswersBy set callers alone c by (seen_after seen replies) mid l r later → TalkBy set callers alone c by seen h (lines ++ l ∷ []) (replies ++ r ∷ []) later
  Talk-more by seen h mid later [] [] l r talk answers = (later, subst (λ (p : List Event). AnswersBy set callers alone c by seen p l r later) talk answers, refl)
  Talk-more by seen h mid later [] (s ∷ replies) l r talk answers = absurd talk
  Talk-more by seen h mid later (k ∷ lines) [] l r talk answers = absurd talk
  Talk-more by seen h mid later (k ∷ lines) (s ∷ replies) l r talk answers = (talk.0, talk.1, Talk-more by (max seen (named s)) talk.0 mid later lines replies l r talk.2 answers)

  pub turn_more : (by seen : ℕ) (h mid later : List Event) (lines : List Said) (replies : List Reply) (l : Said) (r : Reply) → seen ≡ seen_after 0 replies → TalkBy set callers alone c by 0 h lines replies mid → AnswersBy set callers alone c by seen mid l r later → TalkBy set callers alone c by 0 h (lines ++ l ∷ []) (replies ++ r ∷ []) later
  turn_more by seen h mid later lines replies l r is talk answers = Talk-more by 0 h mid later lines replies l r talk (subst (λ (n : ℕ). AnswersBy set callers alone c by n mid l r later) is answers)

pub seen_more : (seen : ℕ) (replies : List Reply) (r : Reply) → seen_after seen (replies ++ r ∷ []) ≡ max (seen_after seen replies) (named r)
seen_more seen [] r = refl
seen_more seen (s ∷ replies) r = seen_more (max seen (named s)) replies r
