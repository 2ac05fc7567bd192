-- The replies of a server alone are among those of one with workers beside it.
use Rattle.std.proofs.Common.{◌≡◌, ℕ, ◌+◌, ◌-◌, ◌<◌, ◌≤◌, Bool, true, false, cond, List, [], ◌∷◌, ◌++◌, length, max, get_or, Option, Some, None, Ok, Err, refl, sym, ap, ◌∙◌, subst, inl, inr, ⊎_elim, arith, length-append, lt-ltb, le-ltb}
use Rattle.std.specs.Prelude.{◌||◌}
use Rattle.std.specs.List.{AllByRecursion}
use Rattle.std.proofs.Math.Nat.{max-le}
use Rattle.std.proofs.lemmas.Bool.{cases_lt}
use Rattle.std.proofs.lemmas.List.{get_or_append_left, get_or-append-add}
use Rattle.cq_base.specs.declared.settings.Settings.{Settings}
use Rattle.cq_base.specs.declared.change.Change.{Change}
use Rattle.cq_history.specs.Changes.{is_put}
use Rattle.cq_history.specs.State.{no_slot}
use Rattle.cq_board.specs.declared.answers.Refused.{Refused}
use Rattle.cq_request.specs.declared.request.Query.{Query}
use Rattle.cq_request.specs.declared.request.Request.TheVariants as request
use Rattle.cq_reply.specs.declared.reply.Reply.{Reply}
use Rattle.cq_reply.specs.declared.reply.Reply.TheVariants as reply
use Rattle.cq_answer.specs.Reply.{IsReply}
use Rattle.cq_talk.specs.Said.{Said, TooLong, Read}
use Rattle.cq_talk.specs.Replies.{version_in, answered_in}
use Rattle.cq_talk.specs.Causes.{cause, change_told}
use Rattle.cq_talk.specs.Alone.{Walk, no_walk, done_with, changed, IsAnsweredAlone, IsReplyAlone, IsAloneUpToMemory}
use Rattle.cq_talk.specs.Beside.{Known, nothing_known, known_then, with_told, IsPut, IsChangedBeside, IsReplyBeside, IsBeside}
use Rattle.cq_talk.specs.Laws.{IsNoMemory}
use Rattle.cq_talk.proofs.BesideTalk.{none_told}
use Rattle.cq_talk.proofs.Rooming.{accepted_beside, refused_beside}
use Rattle.cq_talk.proofs.Shown.{shown_version, shown_answered}
use Rattle.cq_base.specs.declared.refusal.Refusal.TheVariants as refusal

-- what a user knows, and what is walked: the first change that isn't done is a put
pub record Agrees (w : Walk) (k : Known) : Type 0 where
  pub changes : w.changes ≡ k.changes
  pub version : k.version ≤ w.published
  pub order : w.published ≤ w.done
  pub few : w.done ≤ length w.changes
  pub put : w.done < length w.changes → IsPut w.changes (w.done + 1)
  pub answered : k.answered ≤ w.floor
  pub floor : w.floor ≤ length w.changes

pub record Turned (set : Settings) (k : Known) (l : Said) (r : Reply) (later : Walk) : Type 0 where
  pub is : IsReplyBeside set k l r
  pub agrees : Agrees later (known_then k l r)

-- ---- one change more

many_with : (changes : List Change) (change : Change) → length (changes ++ change ∷ []) ≡ length changes + 1
many_with changes change = length-append changes (change ∷ [])

put_stays : (changes : List Change) (change : Change) (n : ℕ) → n < length changes → IsPut changes (n + 1) → IsPut (changes ++ change ∷ []) (n + 1)
put_stays changes change n lt put =
    let one : (n + 1) - 1 ≡ n = omega arith in (
      (omega arith, omega (arith, lt, many_with changes change)),
      ap (λ i. is_put (get_or (changes ++ change ∷ []) i no_slot.change)) one ∙ (ap is_put (get_or_append_left changes (change ∷ []) no_slot.change n lt) ∙ (ap (λ i. is_put (get_or changes i no_slot.change)) (sym one) ∙ put.1)),
    )

put_added : (changes : List Change) (change : Change) → is_put change ≡ true → IsPut (changes ++ change ∷ []) (length changes + 1)
put_added changes change put =
    let one : (length changes + 1) - 1 ≡ length changes + 0 = omega arith in
    ((omega arith, omega (arith, many_with changes change)), ap (λ i. is_put (get_or (changes ++ change ∷ []) i no_slot.change)) one ∙ (ap is_put (get_or-append-add changes (change ∷ []) 0 no_slot.change) ∙ put))

pub record Further (w : Walk) (change : Change) (done : ℕ) : Type 0 where
  pub rises : w.done ≤ done
  pub few : done ≤ length w.changes + 1
  pub put : done < length w.changes + 1 → IsPut (w.changes ++ change ∷ []) (done + 1)

module _ (w : Walk) (change : Change) (few : w.done ≤ length w.changes) (put : w.done < length w.changes → IsPut w.changes (w.done + 1)) where
  all_done : w.done ≡ length w.changes → (b : Bool) → is_put change ≡ b → Further w change (cond b w.done (w.done + 1))
  all_done all true is = record { rises = omega arith; few = omega (arith, all); put = λ less. subst (λ n. IsPut (w.changes ++ change ∷ []) (n + 1)) (sym all) (put_added w.changes change is) }
  all_done all false is = record { rises = omega arith; few = omega (arith, all); put = λ less. absurd (omega (arith, less, all)) }

  further : Further w change (done_with w change)
  further =
      ⊎_elim
      (λ (lt : w.done < length w.changes).
      subst (λ b. Further w change (cond (b || is_put change) w.done (w.done + 1))) (sym (lt-ltb w.done (length w.changes) lt))
      (record { rises = omega arith; few = omega (arith, few); put = λ less. put_stays w.changes change w.done lt (put lt) }))
      (λ (ge : length w.changes ≤ w.done).
      subst (λ b. Further w change (cond (b || is_put change) w.done (w.done + 1))) (sym (le-ltb w.done (length w.changes) ge)) (all_done (omega (arith, ge, few)) (is_put change) refl))
      (cases_lt w.done (length w.changes))

-- ---- one line more

module _ (set : Settings) (w : Walk) (k : Known) (agrees : Agrees w k) where
  long : length w.changes ≡ length k.changes
  long = ap length agrees.changes

  -- nothing is walked, whatever is named
  stays : (later : Walk) (changes : List Change) (version answered : ℕ) → later ≡ w → changes ≡ k.changes → version ≡ 0 → answered ≡ 0 → Agrees later (record { changes = changes; version = max k.version version; answered = max k.answered answered })
  stays later changes version answered same still none unanswered = subst (λ t. Agrees t (record { changes = changes; version = max k.version version; answered = max k.answered answered })) (sym same) (record {
    changes = agrees.changes ∙ sym still;
    version = max-le agrees.version (omega (arith, none));
    order = agrees.order;
    few = agrees.few;
    put = agrees.put;
    answered = max-le agrees.answered (omega (arith, unanswered));
    floor = agrees.floor;
  })

  changes : (change : Change) (r : Reply) (later : Walk) (why : Option Refused) → r ≡ change_told w.changes why → later ≡ changed w change why → Agrees later (known_then k (Read (Ok (request.Change change))) r)
  changes change r later None told is =
      let f = further w change agrees.few agrees.put in
      subst (λ s. Agrees later (known_then k (Read (Ok (request.Change change))) s)) (sym told) (subst (λ t. Agrees t (record { changes = k.changes ++ change ∷ []; version = max k.version 0; answered = max k.answered 0 })) (sym is) (record {
        changes = ap (λ cs. cs ++ change ∷ []) agrees.changes;
        version = max-le agrees.version (omega arith);
        order = omega (arith, agrees.order, f.rises);
        few = omega (arith, f.few, many_with w.changes change);
        put = λ less. f.put (omega (arith, less, many_with w.changes change));
        answered = max-le agrees.answered (omega arith);
        floor = omega (arith, agrees.floor, many_with w.changes change);
      }))
  changes change r later (Some why) told is =
      let none = none_told k.changes change why in
      stays later (with_told k.changes change r) (version_in r) (answered_in r) is (ap (with_told k.changes change) told ∙ none.0) (ap version_in told ∙ none.1) (ap answered_in told ∙ none.2)

  answers : (q : Query) (r : Reply) (later : Walk) → IsAnsweredAlone set w q r later → Turned set k (Read (Ok (request.Query q))) r later
  answers q r later (inl is) = record { is = inl (omega (arith, is.0, long), is.1 ∙ ap (λ (n : ℕ). reply.Refused (refusal.Future n)) long); agrees = stays later k.changes (version_in r) (answered_in r) is.2 refl (ap version_in is.1) (ap answered_in is.1) }
  answers q r later (inr (inl is)) = record {
    is = inr (inl (record {
      within = omega (arith, is.0, long);
      no_work = is.1;
      number = w.done + 1;
      put = subst (λ cs. IsPut cs (w.done + 1)) agrees.changes (agrees.put is.2);
      above = omega (arith, agrees.version, agrees.order);
      reply_is = is.3;
    }));
    agrees = stays later k.changes (version_in r) (answered_in r) is.4 refl (ap version_in is.3) (ap answered_in is.3);
  }
  answers q r later (inr (inr is)) =
      let names : version_in r ≡ length w.changes = shown_version set w.changes (length w.changes) q r is.2 in
      record {
        is = inr (inr (omega (arith, is.0, long), subst (λ cs. IsReply set cs (length cs) q r) agrees.changes is.2));
        agrees = subst (λ t. Agrees t (known_then k (Read (Ok (request.Query q))) r)) (sym is.3) (record {
          changes = agrees.changes;
          version = max-le (omega (arith, agrees.version, agrees.order, agrees.few)) (omega (arith, names));
          order = omega arith;
          few = omega arith;
          put = λ less. absurd (omega (arith, less));
          answered = let same = shown_answered set w.changes (length w.changes) q r is.2 in max-le (omega (arith, agrees.answered, agrees.floor)) (omega (arith, same));
          floor = omega arith;
        });
      }

  said_beside : (change : Change) (r : Reply) (why : Option Refused) → cause set k.changes w.floor change ≡ why → r ≡ change_told k.changes why → IsChangedBeside set k change r
  said_beside change r None is told = accepted_beside set k change r w.floor (omega (arith, agrees.floor, long)) is told
  said_beside change r (Some why) is told = refused_beside set k change r w.floor agrees.answered why is told

  turned : (l : Said) (r : Reply) (later : Walk) → IsReplyAlone set w l r later → Turned set k l r later
  turned TooLong r later is = record { is = is.0; agrees = stays later k.changes (version_in r) (answered_in r) is.1 refl (ap version_in is.0) (ap answered_in is.0) }
  turned (Read (Err why)) r later is = record { is = is.0; agrees = stays later k.changes (version_in r) (answered_in r) is.1 refl (ap version_in is.0) (ap answered_in is.0) }
  turned (Read (Ok (request.Change change))) r later is = record {
    is = said_beside change r (cause set k.changes w.floor change) refl (is.0 ∙ ap (λ cs. change_told cs (cause set cs w.floor change)) agrees.changes);
    agrees = changes change r later (cause set w.changes w.floor change) is.0 is.1;
  }
  turned (Read (Ok (request.Query q))) r later is = answers q r later is
  turned (Read (Ok request.State)) r later is = record {
    is = record { done = w.done; published = w.published; kept = agrees.version; in_order = agrees.order; few = omega (arith, agrees.few, long); reply_is = is.0 ∙ ap (λ n. reply.State n w.done w.published) long };
    agrees = subst (λ t. Agrees t (known_then k (Read (Ok request.State)) r)) (sym is.1) (record {
      changes = agrees.changes;
      version = let names : version_in r ≡ w.published = ap version_in is.0 in max-le agrees.version (omega (arith, names));
      order = agrees.order;
      few = agrees.few;
      put = agrees.put;
      answered = let unanswered : answered_in r ≡ 0 = ap answered_in is.0 in max-le agrees.answered (omega (arith, unanswered));
      floor = agrees.floor;
    });
  }

walked : (set : Settings) (w : Walk) (k : Known) (lines : List Said) (replies : List Reply) → Agrees w k → IsAloneUpToMemory set w lines replies → AllByRecursion IsNoMemory replies → IsBeside set k lines replies
walked set w k [] [] agrees is none = tt
walked set w k [] (r ∷ replies) agrees is none = absurd is
walked set w k (l ∷ lines) [] agrees is none = absurd is
walked set w k (l ∷ lines) (r ∷ replies) agrees is none =
    elim is [
      | inl memory ↦ absurd (none.0 memory.1)
      | inr one ↦ let turn = turned set w k agrees l r one.0 one.1 in (inr turn.is, walked set one.0 (known_then k l r) lines replies turn.agrees one.2 none.1)
    ]

pub alone_beside : (set : Settings) (lines : List Said) (replies : List Reply) → IsAloneUpToMemory set no_walk lines replies → AllByRecursion IsNoMemory replies → IsBeside set nothing_known lines replies
alone_beside set lines replies is none = walked set no_walk nothing_known lines replies (record { changes = refl; version = omega arith; order = omega arith; few = omega arith; put = λ less. absurd (omega (arith, less)); answered = omega arith; floor = omega arith }) is none
