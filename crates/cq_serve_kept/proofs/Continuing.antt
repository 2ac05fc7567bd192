-- The lines of accepted changes continue a log.
use Rattle.std.proofs.Common.{◌≡◌, ℕ, Bool, true, false, List, [], ◌∷◌, ◌++◌, length, Option, None, refl, sym, ap, ◌∙◌, subst, arith, append-nil, append_assoc}
use Rattle.std.specs.Prelude.{is_none}
use Rattle.cq_base.specs.declared.change.Change.{Change}
use Rattle.cq_base.specs.declared.settings.Settings.{Settings}
use Rattle.cq_board.specs.Answers.{cause_among}
use Rattle.cq_board.specs.declared.answers.Refused.{Refused}
use Rattle.cq_history.specs.declared.event.Event.{Event}
use Rattle.cq_history.specs.declared.event.Event.TheVariants.{Accept, Ask, Took, Back, Done, Publish, Open, Shut, Floor}
use Rattle.cq_history.specs.Lawful.{Lawful, is_absent, is_full, is_long}
use Rattle.cq_history.specs.State.{State, state, accepted}
use Rattle.cq_history.proofs.Bounds.{in_order}
use Rattle.cq_history.proofs.Prefixes.{accepted-append}
use Rattle.cq_history.proofs.States.{Lawful-prefix, Lawful_last}
use Rattle.cq_keeper.specs.Kept.{SayAll}
use Rattle.cq_log.specs.Laws.{ContinueWith}
use Rattle.cq_log.specs.Logs.{is_accepted}
use Rattle.cq_talk.specs.Causes.{cause}
use Rattle.cq_talk.specs.Said.{Read}
use Rattle.cq_talk.proofs.Causing.{cause_is}
use Rattle.cq_talk.proofs.Rooming.{none_higher}
use Rattle.cq_talk.proofs.Saying.{said_short}
use Rattle.cq_talk.proofs.Talking.{published_few}

none_among : (absent full long : Bool) → absent ≡ false → full ≡ false → long ≡ false → cause_among absent full long ≡ None
none_among absent full long a b c = ap (λ (x : Bool). cause_among x full long) a ∙ (ap (λ (x : Bool). cause_among false x long) b ∙ ap (λ (x : Bool). cause_among false false x) c)

module _ (set : Settings) (callers : ℕ) where
  -- a change that a history allows next is accepted after its changes, whatever floor it has
  allowed_next : (h : List Event) (by : ℕ) (change : Change) → Lawful set callers (h ++ Accept by change ∷ []) → is_accepted set (accepted h) change ≡ true
  allowed_next h by change law =
      let before = Lawful-prefix set callers h (Accept by change ∷ []) law in
      let ok = (Lawful_last set callers h (Accept by change) law).1 in
      let s : State = state callers h in
      let none : cause set (accepted h) s.floor change ≡ None = sym (cause_is set callers h (accepted h) change refl) ∙ none_among (is_absent s change) (is_full set s) (is_long set s change) ok.0 ok.1 ok.2 in
      let low = (in_order set callers h before).floor in
      let few = published_few set callers h before in
      ap (λ (o : Option Refused). is_none o) (none_higher set (accepted h) s.floor (length (accepted h)) (omega (arith, low, few)) change none)

  -- one event more
  moved : (h es : List Event) (e : Event) → Lawful set callers (h ++ e ∷ es) → Lawful set callers ((h ++ e ∷ []) ++ es)
  moved h es e law = subst (Lawful set callers) (sym (append_assoc h (e ∷ []) es)) law

  module _ (change : Change) (rest : List Change) where
    -- an event accepts nothing
    skipped : (h : List Event) (e : Event) (ds : List Change) → accepted (e ∷ []) ≡ [] → is_accepted set (accepted (h ++ e ∷ []) ++ ds) change ≡ true → is_accepted set (accepted h ++ ds) change ≡ true
    skipped h e ds none then =
        let same : accepted (h ++ e ∷ []) ≡ accepted h = accepted-append h (e ∷ []) ∙ (ap (λ (cs : List Change). accepted h ++ cs) none ∙ append-nil (accepted h)) in
        subst (λ (cs : List Change). is_accepted set (cs ++ ds) change ≡ true) same then

    -- the change is among those that are accepted after a front of the history
    each_from : (h es : List Event) (ds : List Change) → Lawful set callers (h ++ es) → accepted es ≡ ds ++ change ∷ rest → is_accepted set (accepted h ++ ds) change ≡ true
    each_from h [] [] law is = absurd (cc)
    each_from h [] (d ∷ ds) law is = absurd (cc)
    each_from h (Accept by c ∷ es) [] law is =
        let both : c ∷ accepted es ≡ change ∷ rest = is in
        let same : c ≡ change = cc (both) in
        let now = allowed_next h by c (Lawful-prefix set callers (h ++ Accept by c ∷ []) es (moved h es (Accept by c) law)) in
        subst (λ (x : Change). is_accepted set (accepted h ++ []) x ≡ true) same (subst (λ (cs : List Change). is_accepted set cs c ≡ true) (sym (append-nil (accepted h))) now)
    each_from h (Accept by c ∷ es) (d ∷ ds) law is =
        let both : c ∷ accepted es ≡ d ∷ (ds ++ change ∷ rest) = is in
        let same : c ≡ d = cc (both) in
        let left : accepted es ≡ ds ++ change ∷ rest = cc (both) in
        let then = each_from (h ++ Accept by c ∷ []) es ds (moved h es (Accept by c) law) left in
        let more : accepted (h ++ Accept by c ∷ []) ++ ds ≡ accepted h ++ d ∷ ds = ap (λ (cs : List Change). cs ++ ds) (accepted-append h (Accept by c ∷ [])) ∙ (append_assoc (accepted h) (c ∷ []) ds ∙ ap (λ (x : Change). accepted h ++ x ∷ ds) same) in
        subst (λ (cs : List Change). is_accepted set cs change ≡ true) more then
    each_from h (Ask by ∷ es) ds law is = skipped h (Ask by) ds refl (each_from (h ++ (Ask by) ∷ []) es ds (moved h es (Ask by) law) is)
    each_from h (Took by r ∷ es) ds law is = skipped h (Took by r) ds refl (each_from (h ++ (Took by r) ∷ []) es ds (moved h es (Took by r) law) is)
    each_from h (Back by r ∷ es) ds law is = skipped h (Back by r) ds refl (each_from (h ++ (Back by r) ∷ []) es ds (moved h es (Back by r) law) is)
    each_from h (Done by r ∷ es) ds law is = skipped h (Done by r) ds refl (each_from (h ++ (Done by r) ∷ []) es ds (moved h es (Done by r) law) is)
    each_from h (Publish p ∷ es) ds law is = skipped h (Publish p) ds refl (each_from (h ++ (Publish p) ∷ []) es ds (moved h es (Publish p) law) is)
    each_from h (Open by p ∷ es) ds law is = skipped h (Open by p) ds refl (each_from (h ++ (Open by p) ∷ []) es ds (moved h es (Open by p) law) is)
    each_from h (Shut by ∷ es) ds law is = skipped h (Shut by) ds refl (each_from (h ++ (Shut by) ∷ []) es ds (moved h es (Shut by) law) is)
    each_from h (Floor f ∷ es) ds law is = skipped h (Floor f) ds refl (each_from (h ++ (Floor f) ∷ []) es ds (moved h es (Floor f) law) is)

  -- each change of a lawful history is accepted after those before it
  pub each_accepted : (h : List Event) (before rest : List Change) (change : Change) → Lawful set callers h → accepted h ≡ before ++ change ∷ rest → is_accepted set before change ≡ true
  each_accepted h before rest change law is = each_from change rest [] h before law is

  -- so lines that say the last of them continue a log of the others
  pub continue_with : (h : List Event) → Lawful set callers h → (before since : List Change) (lines : List (List ℕ)) → accepted h ≡ before ++ since → SayAll set.chunk lines since → ContinueWith set before lines since
  continue_with h law before [] [] is say = tt
  continue_with h law before [] (line ∷ lines) is say = absurd say
  continue_with h law before (change ∷ since) [] is say = absurd say
  continue_with h law before (change ∷ since) (line ∷ lines) is say = (
    said_short set.chunk line say.0.short ∙ ap Read say.0.says,
    say.0.no_feed,
    each_accepted h before since change law is,
    continue_with h law (before ++ change ∷ []) since lines (is ∙ sym (append_assoc before (change ∷ []) since)) say.1,
  )
