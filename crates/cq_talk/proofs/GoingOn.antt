-- The history of a talk only goes on.
use Rattle.std.proofs.Common.{◌≡◌, ◌⊎◌, ℕ, List, [], ◌∷◌, ◌++◌, length, max, Option, Some, Ok, Err, refl, sym, ap, ◌∙◌, inl, inr, arith, append-nil, append_assoc}
use Rattle.std.specs.List.{AllByRecursion}
use Rattle.cq_base.specs.declared.settings.Settings.{Settings}
use Rattle.cq_base.specs.declared.change.Change.{Change}
use Rattle.cq_history.specs.declared.event.Event.{Event}
use Rattle.cq_history.specs.declared.event.Event.TheVariants.{Accept}
use Rattle.cq_history.specs.State.{maker}
use Rattle.cq_request.specs.declared.request.Query.{Query}
use Rattle.cq_request.specs.declared.request.Request.TheVariants as request
use Rattle.cq_reply.specs.declared.reply.Reply.{Reply}
use Rattle.cq_hub.specs.Hubs.{Grows, Never}
use Rattle.cq_hub.proofs.Growing.{all-append, grows_may}
use Rattle.cq_talk.specs.Said.{Said, TooLong, Read}
use Rattle.cq_talk.specs.Replies.{named}
use Rattle.cq_talk.specs.Talk.{Talk, Answers, IsAnswer, IsAnswered, IsChanged, IsServed, IsGivenUp, Asks}
use Rattle.cq_talk.proofs.Served.{asks_grow, served_grows}
use Rattle.cq_talk.proofs.Unmade.{IsUnmade}

-- The second history goes on from the first. Where the caller is alone, all that came is its own or nobody's.
pub record GoesOnTo (alone : Type 0) (c : ℕ) (h later : List Event) : Type 0 where
  pub more : List Event
  pub later_is : later ≡ h ++ more
  pub alone_is : alone → AllByRecursion (λ (e : Event). (maker e ≡ Some c) ⊎ IsUnmade e) more

module _ (alone : Type 0) (c : ℕ) where
  pub goes_further : (h mid later : List Event) → GoesOnTo alone c h mid → GoesOnTo alone c mid later → GoesOnTo alone c h later
  goes_further h mid later one two = record {
    more = one.more ++ two.more;
    later_is = two.later_is ∙ (ap (λ g. g ++ two.more) one.later_is ∙ append_assoc h one.more two.more);
    alone_is = λ a. all-append _ one.more two.more (one.alone_is a) (two.alone_is a);
  }

  pub by_unmade : (h later es : List Event) → Grows alone IsUnmade c h later es → GoesOnTo alone c h later
  by_unmade h later es grows = record { more = grows.more; later_is = grows.after_is; alone_is = grows.alone_is }

  pub by_growing : (h later es : List Event) → Grows alone Never c h later es → GoesOnTo alone c h later
  by_growing h later es grows = by_unmade h later es (grows_may alone c IsUnmade h later es grows)

  pub by_one : (h later : List Event) (e : Event) → maker e ≡ Some c → later ≡ h ++ e ∷ [] → GoesOnTo alone c h later
  by_one h later e own is = record { more = e ∷ []; later_is = is; alone_is = λ a. (inl own, tt) }

  pub by_asking : (h later : List Event) → Asks alone c h later → GoesOnTo alone c h later
  by_asking h later asks = by_growing h later _ (asks_grow alone c h later asks)

module _ (set : Settings) (callers : ℕ) (alone : Type 0) (c : ℕ) where
  pub by_serving : (seen : ℕ) (q : Query) (h later : List Event) (view : Option ℕ) → IsServed set callers alone c seen q h later view → GoesOnTo alone c h later
  by_serving seen q h later view is = by_unmade alone c h later _ (served_grows set callers alone c seen q h later view is)

  by_changing : (h later : List Event) (change : Change) (r : Reply) → IsChanged set callers alone c h change r later → GoesOnTo alone c h later
  by_changing h later change r (inl is) = goes_further alone c h is.mid later (by_growing alone c h is.mid [] is.waits) (by_one alone c is.mid later (Accept c change) refl is.accepts)
  by_changing h later change r (inr is) = by_growing alone c h later [] is.waits

  by_answering : (seen : ℕ) (h later : List Event) (q : Query) (r : Reply) → IsAnswered set callers alone c seen h q r later → GoesOnTo alone c h later
  by_answering seen h later q r (inl is) = by_asking alone c h later is.asks
  by_answering seen h later q r (inr (inl is)) = by_asking alone c h later is.asks
  by_answering seen h later q r (inr (inr is)) = by_serving seen q h later (Some is.version) is.served

  by_answer : (seen : ℕ) (h later : List Event) (l : Said) (r : Reply) → IsAnswer set callers alone c seen h l r later → GoesOnTo alone c h later
  by_answer seen h later TooLong r is = by_growing alone c h later [] is.1
  by_answer seen h later (Read (Err why)) r is = by_growing alone c h later [] is.1
  by_answer seen h later (Read (Ok (request.Change change))) r is = by_changing h later change r is
  by_answer seen h later (Read (Ok (request.Query q))) r is = by_answering seen h later q r is
  by_answer seen h later (Read (Ok request.State)) r is = by_asking alone c h later is.asks

  by_giving_up : (seen : ℕ) (h later : List Event) (l : Said) → IsGivenUp set callers alone c seen h l later → GoesOnTo alone c h later
  by_giving_up seen h later TooLong is = absurd is
  by_giving_up seen h later (Read (Err why)) is = by_growing alone c h later [] is
  by_giving_up seen h later (Read (Ok (request.Change change))) is = by_growing alone c h later [] is
  by_giving_up seen h later (Read (Ok (request.Query q))) (inl waits) = by_growing alone c h later [] waits
  by_giving_up seen h later (Read (Ok (request.Query q))) (inr (inl asks)) = by_asking alone c h later asks
  by_giving_up seen h later (Read (Ok (request.Query q))) (inr (inr served)) = by_serving seen q h later served.0 served.1
  by_giving_up seen h later (Read (Ok request.State)) (inl waits) = by_growing alone c h later [] waits
  by_giving_up seen h later (Read (Ok request.State)) (inr asks) = by_asking alone c h later asks

  by_any : (seen : ℕ) (h later : List Event) (l : Said) (r : Reply) → Answers set callers alone c seen h l r later → GoesOnTo alone c h later
  by_any seen h later l r (inl given) = by_giving_up seen h later l given.1
  by_any seen h later l r (inr is) = by_answer seen h later l r is

  pub talk_goes_on : (seen : ℕ) (h later : List Event) (lines : List Said) (replies : List Reply) → Talk set callers alone c seen h lines replies later → GoesOnTo alone c h later
  talk_goes_on seen h later [] [] talk = record { more = []; later_is = talk ∙ sym (append-nil h); alone_is = λ a. tt }
  talk_goes_on seen h later [] (r ∷ replies) talk = absurd talk
  talk_goes_on seen h later (l ∷ lines) [] talk = absurd talk
  talk_goes_on seen h later (l ∷ lines) (r ∷ replies) talk = goes_further alone c h talk.0 later (by_any seen h talk.0 l r talk.1) (talk_goes_on (max seen (named r)) talk.0 later lines replies talk.2)

  pub talk_many : (seen : ℕ) (h later : List Event) (lines : List Said) (replies : List Reply) → Talk set callers alone c seen h lines replies later → length replies ≡ length lines
  talk_many seen h later [] [] talk = refl
  talk_many seen h later [] (r ∷ replies) talk = absurd talk
  talk_many seen h later (l ∷ lines) [] talk = absurd talk
  talk_many seen h later (l ∷ lines) (r ∷ replies) talk = omega (arith, talk_many (max seen (named r)) talk.0 later lines replies talk.2)
