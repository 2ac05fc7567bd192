-- One more line of bytes, and what was answered and is given up.
use Rattle.std.proofs.Common.{◌≡◌, ℕ, ◌<◌, List, [], ◌∷◌, ◌++◌, length, map, Some, Result, Ok, Err, refl, sym, subst, inl, inr}
use Rattle.std.proofs.lemmas.List.{map-append}
use Rattle.cq_base.specs.declared.change.Change.{Change}
use Rattle.cq_base.specs.declared.settings.Settings.{Settings}
use Rattle.cq_history.specs.declared.event.Event.{Event}
use Rattle.cq_hub.specs.Hubs.{Never}
use Rattle.cq_hub.proofs.Growing.{grows_none}
use Rattle.cq_lines.specs.Pieces.{line_limit}
use Rattle.cq_request.specs.declared.request.Request.{Request}
use Rattle.cq_request.specs.declared.request.Request.TheVariants as request
use Rattle.cq_base.specs.declared.refusal.Refusal.{Refusal}
use Rattle.cq_reply.specs.Lines.{NeedsMemory}
use Rattle.cq_reply.specs.declared.reply.Reply.{Reply}
use Rattle.cq_reply.specs.declared.reply.Reply.TheVariants as reply
use Rattle.cq_talk.specs.Replies.{seen_after}
use Rattle.cq_talk.specs.Said.{Said, said, TooLong, Read}
use Rattle.cq_talk.specs.Talk.{TalkBy, AnswersBy, IsAnswerBy, IsChangedBy, IsGivenUp, Waits}
use Rattle.cq_talk.proofs.Saying.{said_long}
use Rattle.cq_talk.proofs.Talking.{turn_more}
use Rattle.cq_session.specs.Costs.{AtCost, Counts}
use Rattle.cq_session.specs.Turn.{IsTalkBy}

module _ (set : Settings) (callers : ℕ) (alone : Type 0) (c by : ℕ) where
  -- a line more, by what was seen up to it
  pub talk_more : (seen : ℕ) (h mid later : List Event) (lines : List (List ℕ)) (replies : List Reply) (line : List ℕ) (r : Reply) → seen ≡ seen_after 0 replies → IsTalkBy set callers alone c by h mid lines replies
      → AnswersBy set callers alone c by seen mid (said set.chunk line) r later → IsTalkBy set callers alone c by h later (lines ++ line ∷ []) (replies ++ r ∷ [])
  talk_more seen h mid later lines replies line r is talk answers =
      subst (λ (ls : List Said). TalkBy set callers alone c by 0 h ls (replies ++ r ∷ []) later) (sym (map-append (said set.chunk) lines (line ∷ [])))
      (turn_more set callers alone c by seen h mid later (map (said set.chunk) lines) replies (said set.chunk line) r is talk answers)

  -- a line that is too long is answered without a call
  pub answers_long : (seen : ℕ) (h : List Event) (line : List ℕ) → line_limit < length line → AnswersBy set callers alone c by seen h (said set.chunk line) reply.Long h
  answers_long seen h line long = subst (λ (l : Said). AnswersBy set callers alone c by seen h l reply.Long h) (sym (said_long set.chunk line long)) (inr (refl, grows_none alone c Never h))

  changed_given_up : (h later : List Event) (change : Change) (r : Reply) → NeedsMemory r → IsChangedBy set callers alone c by h change r later → Waits alone c h later
  changed_given_up h later change r needs (inl is) = absurd (subst NeedsMemory is.reply_is needs)
  changed_given_up h later change r needs (inr is) = is.waits

  -- what was answered and is not sent since memory was refused is given up
  pub answer_given_up : (seen : ℕ) (h later : List Event) (l : Said) (r : Reply) → NeedsMemory r → IsAnswerBy set callers alone c by seen h l r later → IsGivenUp set callers alone c seen h l later
  answer_given_up seen h later TooLong r needs is = absurd (subst NeedsMemory is.0 needs)
  answer_given_up seen h later (Read (Err why)) r needs is = is.1
  answer_given_up seen h later (Read (Ok (request.Change change))) r needs is = changed_given_up h later change r needs is
  answer_given_up seen h later (Read (Ok (request.Query q))) r needs (inl is) = inr (inl is.asks)
  answer_given_up seen h later (Read (Ok (request.Query q))) r needs (inr (inl is)) = inr (inl is.asks)
  answer_given_up seen h later (Read (Ok (request.Query q))) r needs (inr (inr is)) = inr (inr (Some is.version, is.served))
  answer_given_up seen h later (Read (Ok request.State)) r needs is = inr is.asks

  -- the answer to what a line says, where that is this
  pub answers_as : (seen : ℕ) (h later : List Event) (n : Counts) (r : Reply) (says is : Result Request Refusal) → says ≡ is
      → AtCost set c (Read is) r n h (IsAnswerBy set callers alone c by seen h (Read is) r) later → AtCost set c (Read says) r n h (IsAnswerBy set callers alone c by seen h (Read says) r) later
  answers_as seen h later n r says is same row = subst (λ (s : Result Request Refusal). AtCost set c (Read s) r n h (IsAnswerBy set callers alone c by seen h (Read s) r) later) (sym same) row

  pub given_up_as : (seen : ℕ) (h later : List Event) (n : Counts) (says is : Result Request Refusal) → says ≡ is
      → AtCost set c (Read is) reply.Memory n h (IsGivenUp set callers alone c seen h (Read is)) later → AtCost set c (Read says) reply.Memory n h (IsGivenUp set callers alone c seen h (Read says)) later
  given_up_as seen h later n says is same row = subst (λ (s : Result Request Refusal). AtCost set c (Read s) reply.Memory n h (IsGivenUp set callers alone c seen h (Read s)) later) (sym same) row

  -- a line that was not read since memory was refused did nothing
  pub nothing_done : (seen : ℕ) (h later : List Event) (says : Result Request Refusal) → Waits alone c h later → IsGivenUp set callers alone c seen h (Read says) later
  nothing_done seen h later (Err why) waits = waits
  nothing_done seen h later (Ok (request.Change change)) waits = waits
  nothing_done seen h later (Ok (request.Query q)) waits = inl waits
  nothing_done seen h later (Ok request.State) waits = inl waits
