-- A change is accepted by the first caller's pass, which is leveled before with that of whoever sent it; and the other one is leveled with it after.
use Rattle.std.proofs.Common.{◌≡◌, ℕ, List, [], ◌∷◌, ◌++◌, Result, Ok, Err, refl, sym, ap, ◌∙◌, subst, inl, inr, append-nil, append_assoc}
use Rattle.std.specs.Prelude.{IfOk, IfErr, slice_index}
use Rattle.std.specs.List.{AllByRecursion}
use mathlib.Core.List.{IsPrefix}
use Rattle.cq_base.specs.declared.change.Change.{Change}
use Rattle.cq_cells.specs.Callers.{longer}
use Rattle.cq_cells.specs.Passes.{IsSameCaller, by_of}
use Rattle.cq_cells.specs.Steps.{AreOneHistory}
use Rattle.cq_cells.proofs.Fronts.{prefix_self, prefix_trans, left_longer, right_longer, longer_whole}
use Rattle.cq_chain.specs.Held.{IsOfFirst}
use Rattle.cq_chain.specs.Passes.{BoardPass, IsOwn}
use Rattle.cq_history.specs.declared.event.Event.{Event}
use Rattle.cq_history.specs.declared.event.Event.TheVariants.{Accept}
use Rattle.cq_history.specs.State.{accepted, own}
use Rattle.cq_history.proofs.Prefixes.{own-append}
use Rattle.cq_keeper.specs.Firsts.{IsFirst, IsFirstAfter, IsFirstStill}
use Rattle.cq_keeper.proofs.Acceptors.{all_left, nothing_after, first_none, accepted_same, accepted_seen, accepted_last}
use Rattle.cq_shared.specs.Calls.{Calls}
use Rattle.cq_shared.specs.SharedPasses.{IsPassOf}
use Rattle.cq_shared.specs.declared.shared.Shared.{Shared}
use Rattle.cq_shared.proofs.Calling.{ended_after, grows_seen}

pub begins_left : (xs ys : List Event) → AreOneHistory xs ys → IsPrefix xs (longer xs ys)
begins_left xs ys (inl p) = left_longer xs ys ys p (prefix_self ys)
begins_left xs ys (inr p) = left_longer xs ys xs (prefix_self xs) p

pub begins_right : (xs ys : List Event) → AreOneHistory xs ys → IsPrefix ys (longer xs ys)
begins_right xs ys (inl p) = right_longer xs ys ys p (prefix_self ys)
begins_right xs ys (inr p) = right_longer xs ys xs (prefix_self xs) p

longer_front : (xs ys : List Event) → IsPrefix xs ys → longer xs ys ≡ ys
longer_front xs ys p = longer_whole xs ys ys p (prefix_self ys) (inr refl)

pub either : {T E X : Type 0} (r : Result T E) (P : T → Type 0) (Q : E → Type 0) → IfOk r P → IfErr r Q → ((x : T) → P x → X) → ((e : E) → Q e → X) → X
either (Ok x) P Q ok err one two = one x ok
either (Err e) P Q ok err one two = two e err

pub if_ok : {T E : Type 0} (r : Result T E) (P Q : T → Type 0) → IfOk r P → ((x : T) → P x → Q x) → IfOk r Q
if_ok (Ok x) P Q is to = to x is
if_ok (Err e) P Q is to = tt

pub if_err : {T E : Type 0} (r : Result T E) (P Q : E → Type 0) → IfErr r P → ((e : E) → P e → Q e) → IfErr r Q
if_err (Ok x) P Q is to = tt
if_err (Err e) P Q is to = to e is

module _ {W R : Type 0} (hub : Shared W R) where
  call_front : (l m : BoardPass) (events : List Event) (Says : List Event → Type 0) → Calls hub l m events Says → IsPrefix l.seen m.seen
  call_front l m events Says call =
      (call.others.more ++ events, sym (append_assoc l.seen call.others.more events) ∙ (ap (λ h. h ++ events) (sym call.others.after_is) ∙ sym call.seen))

  -- what the first caller's call did is done by whoever is leveled with it, as an event of others
  pub call_passed : (p l m q : BoardPass) (events : List Event) (Says : List Event → Type 0) → Calls hub l m events Says → IsPassOf hub p → IsPrefix p.seen l.seen → IsPassOf hub q → IsSameCaller p q
      → q.seen ≡ longer p.seen m.seen → IsOwn p q.seen → Calls hub p q events Says
  call_passed p l m q events Says call of_p begins of_q same leveled owns =
      let front : IsPrefix p.seen call.mid = prefix_trans p.seen l.seen call.mid begins (call.others.more, sym call.others.after_is) in
      let whole : q.seen ≡ call.mid ++ events = leveled ∙ (longer_front p.seen m.seen (prefix_trans p.seen l.seen m.seen begins (call_front l m events Says call)) ∙ call.seen) in
      let c : ℕ = by_of p in
      let parts : own c p.seen ++ (own c front.0 ++ own c events) ≡ own c p.seen =
      sym (append_assoc (own c p.seen) (own c front.0) (own c events)) ∙ (ap (λ es. es ++ own c events) (sym (own-append c p.seen front.0) ∙ ap (own c) front.1)
      ∙ (sym (own-append c call.mid events) ∙ (ap (own c) (sym whole) ∙ owns.by))) in
      record {
        mid = call.mid;
        others = record { more = front.0; after_is = sym front.1; own_is = first_none (own c front.0) (own c events) (nothing_after (own c p.seen) (own c front.0 ++ own c events) parts); alone_is = λ never. absurd never };
        says = call.says;
        seen = whole;
        of = of_q;
        callers = same.callers;
        next = same.next;
        room = same.room;
        ended = ended_after p q.seen of_p.of.apart owns [] q.seen (λ d other. refl) (sym (append-nil q.seen));
      }

  -- whoever is leveled with another sees more, and nothing more of its own
  pub sees_passed : (p q : BoardPass) → IsPassOf hub p → IsPassOf hub q → IsSameCaller p q → IsPrefix p.seen q.seen → IsOwn p q.seen → Calls hub p q [] (λ _. Unit {0})
  sees_passed p q of_p of_q same begins owns = record {
    mid = q.seen;
    others = grows_seen p q.seen begins owns;
    says = tt;
    seen = sym (append-nil q.seen);
    of = of_q;
    callers = same.callers;
    next = same.next;
    room = same.room;
    ended = ended_after p q.seen of_p.of.apart owns [] q.seen (λ d other. refl) (sym (append-nil q.seen));
  }

  module _ (f l : BoardPass) (first : IsFirst hub f) (of_l : IsPassOf hub l) (same : IsSameCaller f l) (begins : IsPrefix f.seen l.seen) (owns : IsOwn f l.seen) where
    -- it is the first caller's pass after it was leveled, and has seen no further acceptance
    pub first_leveled : IsFirst hub l
    first_leveled = record { of = of_l; caller = ap (λ cs. slice_index cs 0) same.callers ∙ first.caller; only = first.only }

    accepted_leveled : accepted l.seen ≡ accepted f.seen
    accepted_leveled = accepted_same f.seen l.seen (of_l.of.law.accepts first.only) begins (subst (λ n. own n l.seen ≡ own n f.seen) first.caller owns.by)

    module _ (m : BoardPass) (events : List Event) (Says : List Event → Type 0) (call : Calls hub l m events Says) where
      is_first : IsFirst hub m
      is_first = record { of = call.of; caller = ap (λ cs. slice_index cs 0) call.callers ∙ first_leveled.caller; only = first.only }

      accepted_mid : accepted call.mid ≡ accepted f.seen
      accepted_mid =
          let all : AllByRecursion IsOfFirst call.mid = all_left IsOfFirst call.mid events (subst (AllByRecursion IsOfFirst) call.seen (call.of.of.law.accepts first.only)) in
          ap accepted call.others.after_is
          ∙ (accepted_seen l.seen call.others.more (subst (AllByRecursion IsOfFirst) call.others.after_is all) (subst (λ n. own n call.others.more ≡ []) first_leveled.caller call.others.own_is) ∙ accepted_leveled)

    pub first_after : (m : BoardPass) (change : Change) (Says : List Event → Type 0) → Calls hub l m (Accept (by_of l) change ∷ []) Says → IsFirstAfter hub f m change
    first_after m change Says call = record {
      is = is_first m (Accept (by_of l) change ∷ []) Says call;
      accepts = ap accepted call.seen ∙ (accepted_last (by_of l) change call.mid ∙ ap (λ cs. cs ++ change ∷ []) (accepted_mid m (Accept (by_of l) change ∷ []) Says call));
    }

    pub first_still : (m : BoardPass) (Says : List Event → Type 0) → Calls hub l m [] Says → IsFirstStill hub f m
    first_still m Says call = record {
      is = is_first m [] Says call;
      accepts = ap accepted (call.seen ∙ append-nil call.mid) ∙ accepted_mid m [] Says call;
    }
