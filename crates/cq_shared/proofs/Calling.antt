-- What a call does to what its pass has seen.
use Rattle.std.proofs.Common.{◌≡◌, ◌≢◌, ℕ, ◌+◌, ◌<◌, ◌≤◌, true, cond, List, [], ◌∷◌, ◌++◌, length, drop, Option, Some, None, Result, Ok, Err, refl, sym, ap, ◌∙◌, subst, arith, append-nil, length-append, ne_eqb}
use Rattle.std.specs.Prelude.{◌↔◌, IfOk, IfSome, IsNone, MatchOption, option_to_list, slice_index}
use Rattle.std.specs.List.{AllByRecursion}
use mathlib.Core.List.{IsPrefix}
use Rattle.cq_base.specs.declared.memory.Memory.{Memory}
use Rattle.cq_base.specs.declared.change.Change.{Change}
use Rattle.cq_base.specs.declared.settings.Settings.{Settings}
use Rattle.cq_history.specs.declared.event.Event.{Event}
use Rattle.cq_history.specs.declared.event.Event.TheVariants.{Accept, Ask, Took, Back, Done, Open, Shut}
use Rattle.cq_history.specs.State.{State, state, own, maker, is_by, accepted, ready, slot_of, view_of, IsAccepted, IsDone}
use Rattle.cq_history.specs.Lawful.{Lawful}
use Rattle.cq_history.proofs.Prefixes.{own-append, accepted-append}
use Rattle.cq_history.proofs.Doing.{slots_number, accepted_stays}
use Rattle.cq_history.proofs.Falling.{never_falls}
use Rattle.cq_board.specs.Answers.{IsJob}
use Rattle.cq_board.specs.Sound.{HasSoundText}
use Rattle.cq_board.specs.declared.answers.Job.{Job}
use Rattle.cq_board.specs.Stands.{BoardState, Adds}
use Rattle.cq_cells.specs.Callers.{Each, Differ}
use Rattle.cq_cells.specs.Passes.{IsFree, IsSameCaller, by_of, least}
use Rattle.cq_chain.specs.declared.about.About.{About}
use Rattle.cq_chain.specs.Held.{IsBoard, state_in}
use Rattle.cq_chain.specs.Passes as chain
use Rattle.cq_chain.specs.Passes.{BoardCells, BoardPass, IsOwn, MayAdd}
use Rattle.cq_hub.specs.Hubs.{Grows, Never, Extends}
use Rattle.cq_hub.specs.Says.{IsJobFor}
use Rattle.cq_hub.proofs.Growing.{grows_none, grows_then, view_grows}
use Rattle.cq_hub.proofs.Soloing.{not_done}
use Rattle.cq_shared.specs.declared.shared.Shared.{Shared}
use Rattle.cq_shared.specs.declared.deed.Deed.{Deed}
use Rattle.cq_shared.specs.declared.deed.Deed.TheVariants as deed
use Rattle.cq_shared.specs.Deeds.{event_of, asks_of}
use Rattle.cq_shared.specs.SharedPasses.{IsPassOf, SharedStands, cells_of, callers_of, ended_in, state_of}
use Rattle.cq_shared.specs.Calls.{Calls}

-- ---- the board in hand

pub state_is : (about : About) (log : List Event) (b : BoardState) → IsBoard about log b → b.state ≡ state_in about log
state_is about log b is = is.stands.is ∙ ap (λ n. state n log) is.callers

pub adds_board : (about : About) (log : List Event) (old new : BoardState) (e : Event) → IsBoard about log old → Adds e old new → IsBoard about (log ++ e ∷ []) new
adds_board about log old new e is adds = record { stands = adds.history log is.stands; settings = adds.settings ∙ is.settings; callers = adds.callers ∙ is.callers }

pub same_board : (about : About) (log : List Event) (old new : BoardState) → IsBoard about log old → new ≡ old → IsBoard about (log ++ []) new
same_board about log old new is same = subst (λ l. IsBoard about l new) (sym (append-nil log)) (subst (IsBoard about log) (sym same) is)

pub may_add : (cells : BoardCells) (p : BoardPass) (d : Deed) → ((s : ℕ) → s < cells.about.settings.shards → asks_of d ≤ least p s) → IfSome (event_of (by_of p) d) (MayAdd cells p)
may_add cells p deed.Nothing reach = tt
may_add cells p deed.Ask reach = record { maker = refl; accepts = λ only. (tt, tt); applied = reach }
may_add cells p (deed.Took r) reach = record { maker = refl; accepts = λ only. (tt, tt); applied = reach }
may_add cells p (deed.Back r) reach = record { maker = refl; accepts = λ only. (tt, tt); applied = reach }
may_add cells p (deed.Done r) reach = record { maker = refl; accepts = λ only. (tt, tt); applied = reach }
may_add cells p (deed.Publish v) reach = record { maker = tt; accepts = λ only. (tt, tt); applied = reach }
may_add cells p (deed.Open v) reach = record { maker = refl; accepts = λ only. (tt, tt); applied = reach }
may_add cells p deed.Shut reach = record { maker = refl; accepts = λ only. (tt, tt); applied = reach }
may_add cells p (deed.Floor f) reach = record { maker = tt; accepts = λ only. (tt, tt); applied = reach }

pub may_accept : (cells : BoardCells) (p : BoardPass) (change : Change) → (cells.about.first_only ≡ true → by_of p ≡ 0) → MayAdd cells p (Accept (by_of p) change)
may_accept cells p change may = record { maker = refl; accepts = λ only. (may only, tt); applied = λ s near. omega arith }

-- ---- the events of a caller that ended

-- an event of one caller is no other's
own_other : (c by : ℕ) (e : Event) → c ≢ by → maker e ≡ Some by → own c (e ∷ []) ≡ []
own_other c by e other is = ap (λ m. cond (is_by c m) (e ∷ []) []) is ∙ ap (λ b. cond b (e ∷ []) []) (ne_eqb c by other)

-- nor is one that has no caller
own_nobodys : (c : ℕ) (e : Event) → maker e ≡ None → own c (e ∷ []) ≡ []
own_nobodys c e is = ap (λ m. cond (is_by c m) (e ∷ []) []) is

own_deed : (c by : ℕ) (d : Deed) → c ≢ by → own c (option_to_list (event_of by d)) ≡ []
own_deed c by deed.Nothing other = refl
own_deed c by deed.Ask other = own_other c by (Ask by) other refl
own_deed c by (deed.Took r) other = own_other c by (Took by r) other refl
own_deed c by (deed.Back r) other = own_other c by (Back by r) other refl
own_deed c by (deed.Done r) other = own_other c by (Done by r) other refl
own_deed c by (deed.Publish v) other = refl
own_deed c by (deed.Open v) other = own_other c by (Open by v) other refl
own_deed c by deed.Shut other = own_other c by (Shut by) other refl
own_deed c by (deed.Floor f) other = refl

-- of the callers but the first
tail_all : (P Q : ℕ → Type 0) (by : ℕ) (cs : List ℕ) → ((c : ℕ) → c ≢ by → P c → Q c) → Each (λ c. by ≢ c) cs → Each P cs → AllByRecursion Q cs
tail_all P Q by [] to other all = tt
tail_all P Q by (c ∷ cs) to other all = (to c (λ same. other.0 (sym same)) all.0, tail_all P Q by cs to other.1 all.1)

others_all : (P Q : ℕ → Type 0) (cs : List ℕ) → Differ cs → ((c : ℕ) → c ≢ slice_index cs 0 → P c → Q c) → Each P cs → AllByRecursion Q (drop 1 cs)
others_all P Q [] differ to all = tt
others_all P Q (c ∷ cs) differ to all = tail_all P Q c cs to differ.0 all.1

module _ (p : BoardPass) (log : List Event) (apart : Differ p.callers) (owns : IsOwn p log) where
  pub ended_after : (events later : List Event) → ((c : ℕ) → c ≢ by_of p → own c events ≡ []) → later ≡ log ++ events → AllByRecursion (λ (c : ℕ). own c later ≡ own c p.seen) (ended_in p)
  ended_after events later none is =
      others_all (λ c. own c log ≡ own c p.seen) (λ c. own c later ≡ own c p.seen) p.callers apart
      (λ c other same. ap (own c) is ∙ own-append c log events ∙ ap (λ l. own c log ++ l) (none c other) ∙ append-nil (own c log) ∙ same) owns.all

pub same_then : (p m q : BoardPass) → IsSameCaller p m → IsSameCaller m q → IsSameCaller p q
same_then p m q one two = record { callers = two.callers ∙ one.callers; next = two.next ∙ one.next; room = two.room ∙ one.room; asked = two.asked ∙ one.asked }

pub same_itself : (p : BoardPass) → IsSameCaller p p
same_itself p = record { callers = refl; next = refl; room = refl; asked = refl }

-- ---- what was seen between

cut : (xs ys : List Event) → xs ++ ys ≡ xs → ys ≡ []
cut xs [] h = refl
cut xs (y ∷ ys) h = absurd (omega (arith, ap length h, length-append xs (y ∷ ys)))

pub grows_seen : (p : BoardPass) (log : List Event) → IsPrefix p.seen log → IsOwn p log → Grows ⊥ Never (by_of p) p.seen log []
grows_seen p log front owns = record {
  more = front.0;
  after_is = sym front.1;
  own_is = cut (own (by_of p) p.seen) (own (by_of p) front.0) (sym (own-append (by_of p) p.seen front.0) ∙ ap (own (by_of p)) front.1 ∙ owns.by);
  alone_is = λ never. absurd never;
}

-- ---- a call that takes the board, and lets it go

module _ {W R : Type 0} (hub : Shared W R) (p m q : BoardPass) (is : IsPassOf hub p) (front : IsPrefix p.seen m.seen) (owns : IsOwn p m.seen) (same : IsSameCaller p m) (of : chain.IsPassOf (cells_of hub) q) (free : IsFree q) (then : IsSameCaller m q) where
  same_by : by_of m ≡ by_of p
  same_by = ap (λ cs. slice_index cs 0) same.callers

  pass_of : IsPassOf hub q
  pass_of = record { of = of; free = free; shards = is.shards; some_shard = is.some_shard }

  -- after the event of a deed
  pub called : (d : Deed) (Says : List Event → Type 0) → q.seen ≡ m.seen ++ option_to_list (event_of (by_of m) d) → Says m.seen → Calls hub p q (option_to_list (event_of (by_of p) d)) Says
  called d Says seen says =
      let here : q.seen ≡ m.seen ++ option_to_list (event_of (by_of p) d) = seen ∙ ap (λ n. m.seen ++ option_to_list (event_of n d)) same_by in
      record {
        mid = m.seen;
        others = grows_seen p m.seen front owns;
        says = says;
        seen = here;
        of = pass_of;
        callers = then.callers ∙ same.callers;
        next = then.next ∙ same.next;
        room = then.room ∙ same.room;
        ended = ended_after p m.seen is.of.apart owns (option_to_list (event_of (by_of p) d)) q.seen (λ c other. own_deed c (by_of p) d other) here;
      }

  pub called_accepted : (change : Change) (Says : List Event → Type 0) → q.seen ≡ m.seen ++ Accept (by_of m) change ∷ [] → Says m.seen → Calls hub p q (Accept (by_of p) change ∷ []) Says
  called_accepted change Says seen says =
      let here : q.seen ≡ m.seen ++ Accept (by_of p) change ∷ [] = seen ∙ ap (λ n. m.seen ++ Accept n change ∷ []) same_by in
      record {
        mid = m.seen;
        others = grows_seen p m.seen front owns;
        says = says;
        seen = here;
        of = pass_of;
        callers = then.callers ∙ same.callers;
        next = then.next ∙ same.next;
        room = then.room ∙ same.room;
        ended = ended_after p m.seen is.of.apart owns (Accept (by_of p) change ∷ []) q.seen (λ c other. own_other c (by_of p) (Accept (by_of p) change) other refl) here;
      }

  -- after an event that is nobody's, as a publication and a floor are
  pub called_nobodys : (e : Event) (Says : List Event → Type 0) → maker e ≡ None → q.seen ≡ m.seen ++ e ∷ [] → Says (m.seen ++ e ∷ []) → Calls hub p q [] Says
  called_nobodys e Says nobodys seen says = record {
    mid = m.seen ++ e ∷ [];
    others = grows_then ⊥ (by_of p) Never p.seen m.seen (m.seen ++ e ∷ []) [] [] (grows_seen p m.seen front owns) (record { more = e ∷ []; after_is = refl; own_is = own_nobodys (by_of p) e nobodys; alone_is = λ never. absurd never });
    says = says;
    seen = seen ∙ sym (append-nil (m.seen ++ e ∷ []));
    of = pass_of;
    callers = then.callers ∙ same.callers;
    next = then.next ∙ same.next;
    room = then.room ∙ same.room;
    ended = ended_after p m.seen is.of.apart owns (e ∷ []) q.seen (λ c other. own_nobodys c e nobodys) seen;
  }

all_same : (h : List Event) (cs : List ℕ) → AllByRecursion (λ (c : ℕ). own c h ≡ own c h) cs
all_same h [] = tt
all_same h (c ∷ cs) = (refl, all_same h cs)

all_both : (P Q S : ℕ → Type 0) (cs : List ℕ) → ((c : ℕ) → P c → Q c → S c) → AllByRecursion P cs → AllByRecursion Q cs → AllByRecursion S cs
all_both P Q S [] to p q = tt
all_both P Q S (c ∷ cs) to p q = (to c p.0 q.0, all_both P Q S cs to p.1 q.1)

module _ {W R : Type 0} (hub : Shared W R) where
  -- a call that adds no event, and sees none
  pub stays : (p q : BoardPass) (Says : List Event → Type 0) → IsPassOf hub q → q.callers ≡ p.callers → q.next ≡ p.next → q.room ≡ p.room → q.seen ≡ p.seen → Says p.seen → Calls hub p q [] Says
  stays p q Says of callers next room seen says = record {
    mid = p.seen;
    others = grows_none ⊥ (by_of p) Never p.seen;
    says = says;
    seen = seen ∙ sym (append-nil p.seen);
    of = of;
    callers = callers;
    next = next;
    room = room;
    ended = subst (λ l. AllByRecursion (λ (c : ℕ). own c l ≡ own c p.seen) (ended_in p)) (sym seen) (all_same p.seen (ended_in p));
  }

  -- one call after another, with nothing seen between
  pub calls_join : (p a b q : BoardPass) (Says After : List Event → Type 0) → Calls hub p a [] Says → IsSameCaller a b → b.seen ≡ a.seen → Calls hub b q [] After → Calls hub p q [] After
  calls_join p a b q Says After one same seen two = record {
    mid = two.mid;
    others = grows_then ⊥ (by_of p) Never p.seen one.mid two.mid [] [] one.others (subst (λ l. Grows ⊥ Never (by_of p) l two.mid []) (seen ∙ one.seen ∙ append-nil one.mid) (subst (λ n. Grows ⊥ Never n b.seen two.mid []) (ap (λ cs. slice_index cs 0) callers) two.others));
    says = two.says;
    seen = two.seen;
    of = two.of;
    callers = two.callers ∙ callers;
    next = two.next ∙ same.next ∙ one.next;
    room = two.room ∙ same.room ∙ one.room;
    ended = all_both (λ c. own c a.seen ≡ own c p.seen) (λ c. own c q.seen ≡ own c b.seen) (λ c. own c q.seen ≡ own c p.seen) (ended_in p) (λ c first later. later ∙ ap (own c) seen ∙ first) one.ended
        (subst (λ cs. AllByRecursion (λ (c : ℕ). own c q.seen ≡ own c b.seen) (drop 1 cs)) callers two.ended);
  }
    where
      callers : b.callers ≡ p.callers
      callers = same.callers ∙ one.callers

  -- the same with nothing seen since
  pub calls_still : (p a b : BoardPass) (Says After : List Event → Type 0) → Calls hub p a [] Says → IsPassOf hub b → IsSameCaller a b → b.seen ≡ a.seen → After b.seen → Calls hub p b [] After
  calls_still p a b Says After one of same seen after = calls_join p a b b Says After one same seen (stays b b After of refl refl refl refl after)

  -- what is said of the history then is said of what was seen at last
  pub calls_end : (p q : BoardPass) (Says : List Event → Type 0) → Calls hub p q [] Says → Says q.seen
  calls_end p q Says call = subst Says (sym (append-nil call.mid) ∙ sym call.seen) call.says

  pub calls_front : (p q : BoardPass) (Says : List Event → Type 0) → Calls hub p q [] Says → IsPrefix p.seen q.seen
  calls_front p q Says call = (call.others.more, sym call.others.after_is ∙ sym (append-nil call.mid) ∙ sym call.seen)

  -- what a hub's trait asks of a call
  pub extends : (p q : BoardPass) (May : Event → Type 0) (made : ℕ → List Event) (Says : ℕ → List Event → Type 0) → Calls hub p q (made (by_of p)) (Says (by_of p)) → Extends SharedStands ⊥ May hub p q made Says
  extends p q May made Says call = λ c h is. record {
    mid = call.mid;
    others = record {
      more = call.others.more;
      after_is = call.others.after_is ∙ ap (λ l. l ++ call.others.more) is.seen;
      own_is = subst (λ n. own n call.others.more ≡ []) is.caller call.others.own_is;
      alone_is = λ never. absurd never;
    };
    says = subst (λ n. Says n call.mid) is.caller call.says;
    stands = record { is = call.of; caller = ap (λ cs. slice_index cs 0) call.callers ∙ is.caller; seen = call.seen ∙ ap (λ n. call.mid ++ made n) is.caller };
  }

-- ---- a pass that counted questions

module _ {W R : Type 0} (hub : Shared W R) (p : BoardPass) where
  counted_of : (n : ℕ) → IsPassOf hub p → IsPassOf hub (record p { asked = n })
  counted_of n is = record {
    of = record {
      of = record { table = is.of.of.table; about = is.of.of.about; has_caller = is.of.of.has_caller; below = is.of.of.below; first = is.of.of.first; later = is.of.of.later };
      law = is.of.law;
      caller = is.of.caller;
      apart = is.of.apart;
      room = is.of.room;
      few = is.of.few;
      made = is.of.made;
      unmade = is.of.unmade;
    };
    free = is.free;
    shards = is.shards;
    some_shard = is.some_shard;
  }

  -- it stands for what it stood for
  pub counted_stands : (q : BoardPass) (n : ℕ) → q ≡ record p { asked = n } → (c : ℕ) (h : List Event) → SharedStands hub p c h → SharedStands hub q c h
  counted_stands q n same c h is = subst (λ (r : BoardPass). SharedStands hub r c h) (sym same) (record { is = counted_of n is.is; caller = is.caller; seen = is.seen })

pub number_is : (about : About) (log : List Event) (new : BoardState) (by : ℕ) (change : Change) → IsBoard about (log ++ Accept by change ∷ []) new → length new.state.slots ≡ length (accepted log) + 1
number_is about log new by change is =
    ap (λ (s : State). length s.slots) (state_is about (log ++ Accept by change ∷ []) new is) ∙ slots_number about.callers (log ++ Accept by change ∷ []) ∙ ap length (accepted-append log (Accept by change ∷ [])) ∙ length-append (accepted log) (change ∷ [])

-- ---- what stays of what was seen

module _ {W R : Type 0} (hub : Shared W R) where
  pub accepted_seen : (seen log : List Event) → IsPrefix seen log → (r : ℕ) → IsAccepted (state_of hub seen) r → IsAccepted (state_of hub log) r × ((slot_of (state_of hub log) r).change ≡ (slot_of (state_of hub seen) r).change)
  accepted_seen seen log front r is = subst (λ l. IsAccepted (state_of hub l) r × ((slot_of (state_of hub l) r).change ≡ (slot_of (state_of hub seen) r).change)) front.1 (accepted_stays (callers_of hub) seen front.0 r is)

  pub view_seen : (p : BoardPass) (log : List Event) → IsPrefix p.seen log → IsOwn p log → view_of (state_of hub log) (by_of p) ≡ view_of (state_of hub p.seen) (by_of p)
  view_seen p log front owns = view_grows (callers_of hub) ⊥ Never (by_of p) p.seen log [] (grows_seen p log front owns) tt

  pub ready_seen : (set : Settings) (seen log : List Event) → IsPrefix seen log → Lawful set (callers_of hub) log → (to : ℕ) → to ≤ ready (state_of hub seen) → to ≤ ready (state_of hub log)
  ready_seen set seen log front law to low =
      let up = (never_falls set (callers_of hub) seen front.0 (subst (Lawful set (callers_of hub)) (sym front.1) law)).0 in
      let there = ap (λ l. ready (state_of hub l)) front.1 in
      omega (arith, low, up, there)

pub job_for : (s : State) (r : ℕ) (result : Result (Option Job) Memory) → IsAccepted s r → IfOk result (λ job. IsNone job ↔ IsDone s r) → IfOk result (λ job. IfSome job (λ j. (j.change ≡ r) × IsJob s j)) → IfOk result (λ job. IfSome job HasSoundText) → IfOk result (IsJobFor s r)
job_for s r (Ok (Some j)) there none job text = (not_done s r there (λ d. absurd (cc (none.1 d))), job.0, job.1, text)
job_for s r (Ok None) there none job text = none.0 refl
job_for s r (Err e) there none job text = tt

-- ---- answers that say less

pub match_weaker : {A : Type 0} (o : Option A) (P P' : Type 0) (Q Q' : A → Type 0) → (P → P') → ((a : A) → Q a → Q' a) → MatchOption o P Q → MatchOption o P' Q'
match_weaker None P P' Q Q' none some is = none is
match_weaker (Some a) P P' Q Q' none some is = some a is
