-- Workers' passes joined into that of a talk.
use Rattle.std.proofs.Common.{◌≡◌, ◌⊎◌, ℕ, zero, suc, ◌+◌, ◌-◌, ◌<◌, ◌≤◌, List, [], ◌∷◌, ◌++◌, length, refl, sym, ap, ◌∙◌, subst, arith, inl, inr, ⊎_elim}
use Rattle.std.specs.Prelude.{slice_index, flat_map}
use Rattle.std.specs.List.{AllByRecursion}
use Rattle.std.proofs.lemmas.Bool.{cases_eq}
use Rattle.std.proofs.lemmas.List.Concat.{flat_map-cons}
use mathlib.Core.List.{IsPrefix}
use Rattle.cq_cells.specs.Callers.{Each, Among, longer}
use Rattle.cq_cells.specs.Passes.{by_of}
use Rattle.cq_cells.proofs.Fronts.{prefix_trans, prefix_self, left_longer, right_longer}
use Rattle.cq_chain.specs.Passes.{BoardPass, IsOwn, HasNoneFrom}
use Rattle.cq_history.specs.declared.event.Event.{Event}
use Rattle.cq_history.specs.State.{own}
use Rattle.cq_history.proofs.Prefixes.{own-append}
use Rattle.cq_hub.proofs.Growing.{all-append}
use Rattle.cq_shared.specs.declared.shared.Shared.{Shared}
use Rattle.cq_shared.specs.SharedPasses.{IsPassOf, callers_of}
use Rattle.cq_talk.specs.Gathered.{IsQuiet, StaysQuiet}
use Rattle.cq_talk.specs.Steps.{IsClosed}
use Rattle.cq_beside.specs.Besides.{Besides, Worked}
use Rattle.cq_serve.specs.Labours.{IsOfTurn, Labour}
use Rattle.cq_serve.proofs.Easing.{unmade_closed}

-- ---- a worker accepts nothing, and opens no view

turn_quiet : (c : ℕ) (events : List Event) → IsOfTurn c events → AllByRecursion IsQuiet events
turn_quiet c events of = elim of.1 [
  | inl done ↦ subst (AllByRecursion IsQuiet) (sym done) (tt, (tt, (tt, tt)))
  | inr (inl back) ↦ subst (AllByRecursion IsQuiet) (sym back) (tt, (tt, (tt, tt)))
  | inr (inr late) ↦ subst (AllByRecursion IsQuiet) (sym late) (tt, (tt, tt))
]

work_quiet : (c : ℕ) (turns : List (List Event)) → AllByRecursion (IsOfTurn c) turns → AllByRecursion IsQuiet (flat_map (λ (events : List Event). events) turns)
work_quiet c [] all = tt
work_quiet c (events ∷ turns) all =
    let rest = flat_map (λ (more : List Event). more) turns in
    subst (AllByRecursion IsQuiet) (sym (flat_map-cons (λ (more : List Event). more) events turns)) (all-append IsQuiet events rest (turn_quiet c events all.0) (work_quiet c turns all.1))

pub labour_quiet : (alone : Type 0) (c : ℕ) (h after : List Event) → Labour alone c h after → StaysQuiet h c → StaysQuiet after c
labour_quiet alone c h after l quiet =
    subst (AllByRecursion IsQuiet) (sym (ap (own c) l.grows.after_is ∙ own-append c h l.grows.more))
    (all-append IsQuiet (own c h) (own c l.grows.more) quiet (subst (AllByRecursion IsQuiet) (sym l.grows.own_is) (work_quiet c l.turns l.each)))

-- ---- whose numbers a pass has

each_among : (P : ℕ → Type 0) (cs : List ℕ) (c : ℕ) → Each P cs → Among c cs → P c
each_among P [] c all is = absurd is
each_among P (x ∷ xs) c all is = ⊎_elim (λ (same : c ≡ x). subst P (sym same) all.0) (λ later. each_among P xs c all.1 later) is

pub first_among : (cs : List ℕ) → 0 < length cs → Among (slice_index cs 0) cs
first_among [] some = absurd (omega (arith, some))
first_among (c ∷ cs) some = inl refl

among_left : (cs ds : List ℕ) (c : ℕ) → Among c cs → Among c (cs ++ ds)
among_left [] ds c is = absurd is
among_left (x ∷ xs) ds c is = ⊎_elim (λ (same : c ≡ x). inl same) (λ later. inr (among_left xs ds c later)) is

among_right : (cs ds : List ℕ) (c : ℕ) → Among c ds → Among c (cs ++ ds)
among_right [] ds c is = is
among_right (x ∷ xs) ds c is = inr (among_right xs ds c is)

none_or_some : (n : ℕ) → (n ≡ 0) ⊎ (0 < n)
none_or_some zero = inl refl
none_or_some (suc n) = inr (omega arith)

at_or_above : (n c : ℕ) → n ≤ c → (c ≡ n) ⊎ (n < c)
at_or_above n c low = ⊎_elim (λ same. inl same) (λ other. inr (omega (arith, low, other))) (cases_eq c n)

-- of two histories of which one begins with the other, the longer begins with both
longer_begins : (xs ys : List Event) → IsPrefix xs ys ⊎ IsPrefix ys xs → IsPrefix xs (longer xs ys) × IsPrefix ys (longer xs ys)
longer_begins xs ys (inl begins) = (left_longer xs ys ys begins (prefix_self ys), right_longer xs ys ys begins (prefix_self ys))
longer_begins xs ys (inr begins) = (left_longer xs ys xs (prefix_self xs) begins, right_longer xs ys xs (prefix_self xs) begins)

-- ---- a pass that is split off

-- it, and what is left of the pass
abbrev pub child_of : BoardPass → BoardPass
child_of p = record p { callers = p.next ∷ []; next = 0; room = 0; asked = 0 }

abbrev pub rest_of : BoardPass → BoardPass
rest_of p = record p { next = p.next + 1; room = p.room - 1 }

-- it has asked no question
pub child_unasked : (p child : BoardPass) → child ≡ child_of p → child.asked ≡ 0
child_unasked p child child_is = ap (λ (z : BoardPass). z.asked) child_is

module _ {W R : Type 0} (hub : Shared W R) where
  -- there is a next number if there is room
  pub some_next : (p : BoardPass) → IsPassOf hub p → 0 < p.room → 0 < p.next
  some_next p of room = ⊎_elim (λ (none : p.next ≡ 0). let full = of.of.of.later none in absurd (omega (arith, room, full))) (λ (some : 0 < p.next). some) (none_or_some p.next)

  -- it has no view open
  pub child_closed : (p child : BoardPass) → child ≡ child_of p → IsPassOf hub p → 0 < p.room → IsClosed (callers_of hub) (by_of child) child.seen
  child_closed p child child_is of room =
      subst (λ (z : BoardPass). IsClosed (callers_of hub) (by_of z) z.seen) (sym child_is) (unmade_closed (callers_of hub) p.next p.seen (of.of.unmade (some_next p of room) p.next (omega arith)))

  module _ (Said : ℕ → List Event → List Event → ℕ → Type 0) where
    -- a talk with no worker: one is what is left of the pass, child what was split off for the talk, own what became of that,
    -- and r what they are joined to
    pub besides_none : (p one child own_pass r : BoardPass) → one ≡ rest_of p → child ≡ child_of p → IsPassOf hub p
        → Said (by_of child) child.seen own_pass.seen own_pass.asked
        → IsPassOf hub r → r.seen ≡ longer one.seen own_pass.seen → IsPrefix one.seen own_pass.seen ⊎ IsPrefix own_pass.seen one.seen
        → r.callers ≡ one.callers ++ own_pass.callers → r.next ≡ one.next → IsOwn one r.seen → (0 < r.next → HasNoneFrom r.next r.seen)
        → Besides hub p 0 r Said
    besides_none p one child own_pass r one_is child_is is said of longest ordered all next own_one none_from =
        let seen : one.seen ≡ p.seen = ap (λ (z : BoardPass). z.seen) one_is in
        let callers : one.callers ≡ p.callers = ap (λ (z : BoardPass). z.callers) one_is in
        let by : by_of one ≡ by_of p = ap (λ (z : BoardPass). by_of z) one_is in
        let next_is : r.next ≡ p.next + 1 = next ∙ ap (λ (z : BoardPass). z.next) one_is in
        let number : p.next ≡ p.next + 0 = omega arith in
        record {
          heard = own_pass.seen;
          asked = own_pass.asked;
          said = subst (λ n. Said n p.seen own_pass.seen own_pass.asked) number (subst (λ (z : BoardPass). Said (by_of z) z.seen own_pass.seen own_pass.asked) child_is said);
          front = subst (IsPrefix own_pass.seen) (sym longest) (longer_begins one.seen own_pass.seen ordered).1;
          of = of;
          next = omega (arith, next_is);
          first = subst (Among (by_of p)) (sym all) (among_left one.callers own_pass.callers (by_of p) (subst (Among (by_of p)) (sym callers) (first_among p.callers is.of.of.has_caller)));
          first_quiet = λ quiet. subst (AllByRecursion IsQuiet) (sym (subst (λ n. own n r.seen ≡ own n one.seen) by own_one.by ∙ ap (own (by_of p)) seen)) quiet;
          joined = λ c low high. absurd (omega (arith, low, high));
          quiet = λ c low high. absurd (omega (arith, low, high));
          unmade = λ c low. let from = none_from (omega (arith, next_is)) in from c (omega (arith, low, next_is));
        }

    -- one worker more
    pub besides_one : (p one mine q back r : BoardPass) (fewer workers : ℕ) → workers ≡ fewer + 1 → one ≡ rest_of p → mine ≡ child_of p
        → Besides hub one fewer q Said → Worked hub mine back
        → IsPassOf hub r → r.seen ≡ longer q.seen back.seen → IsPrefix q.seen back.seen ⊎ IsPrefix back.seen q.seen
        → r.callers ≡ q.callers ++ back.callers → r.next ≡ q.next → IsOwn q r.seen → IsOwn back r.seen → (0 < r.next → HasNoneFrom r.next r.seen)
        → Besides hub p workers r Said
    besides_one p one mine q back r fewer workers more one_is mine_is b w of longest ordered all next own_q own_back none_from =
        let by_is : by_of mine ≡ p.next = ap (λ (z : BoardPass). by_of z) mine_is in
        let seen : mine.seen ≡ p.seen = ap (λ (z : BoardPass). z.seen) mine_is in
        let one_seen : one.seen ≡ p.seen = ap (λ (z : BoardPass). z.seen) one_is in
        let by : by_of one ≡ by_of p = ap (λ (z : BoardPass). by_of z) one_is in
        let one_next : one.next ≡ p.next + 1 = ap (λ (z : BoardPass). z.next) one_is in
        let b_next = b.next in
        let next_is : r.next ≡ p.next + (workers + 1) = omega (arith, next, one_next, b_next, more) in
        let number : one.next + fewer ≡ p.next + workers = omega (arith, one_next, more) in
        let back_is : by_of back ≡ p.next = w.caller ∙ by_is in
        let back_in : Among p.next r.callers = subst (Among p.next) (sym all) (among_right q.callers back.callers p.next (subst (λ n. Among n back.callers) back_is (first_among back.callers (w.of.of.of.has_caller)))) in
        let stays : (c : ℕ) → Among c q.callers → StaysQuiet q.seen c → StaysQuiet r.seen c =
        λ c there quiet. subst (AllByRecursion IsQuiet) (sym (each_among (λ n. own n r.seen ≡ own n q.seen) q.callers c own_q.all there)) quiet in
        record {
          heard = b.heard;
          asked = b.asked;
          said = subst (λ h. Said (p.next + workers) h b.heard b.asked) one_seen (subst (λ n. Said n one.seen b.heard b.asked) number b.said);
          front = prefix_trans _ _ _ b.front (subst (IsPrefix q.seen) (sym longest) (longer_begins q.seen back.seen ordered).0);
          of = of;
          next = next_is;
          first = subst (Among (by_of p)) (sym all) (among_left q.callers back.callers (by_of p) (subst (λ n. Among n q.callers) by b.first));
          first_quiet = λ none. subst (StaysQuiet r.seen) by
              (stays (by_of one) b.first (b.first_quiet (subst (λ h. StaysQuiet h (by_of one)) (sym one_seen) (subst (StaysQuiet p.seen) (sym by) none))));
          joined = λ c low high. ⊎_elim
              (λ (same : c ≡ p.next). subst (λ n. Among n r.callers) (sym same) back_in)
              (λ (above : p.next < c). subst (Among c) (sym all) (among_left q.callers back.callers c (b.joined c (omega (arith, above, one_next)) (omega (arith, high, more, one_next)))))
              (at_or_above p.next c low);
          quiet = λ c low high none. ⊎_elim
              (λ (same : c ≡ p.next).
              let c_is : c ≡ by_of mine = same ∙ sym by_is in
              let there : StaysQuiet back.seen (by_of mine) = w.quiet (subst (λ h. StaysQuiet h (by_of mine)) (sym seen) (subst (StaysQuiet p.seen) c_is none)) in
              let last : own (by_of mine) r.seen ≡ own (by_of mine) back.seen = subst (λ n. own n r.seen ≡ own n back.seen) w.caller own_back.by in
              subst (StaysQuiet r.seen) (sym c_is) (subst (AllByRecursion IsQuiet) (sym last) there))
              (λ (above : p.next < c).
              let low' : one.next ≤ c = omega (arith, above, one_next) in
              let high' : c < one.next + fewer = omega (arith, high, more, one_next) in
              stays c (b.joined c low' high') (b.quiet c low' high' (subst (λ h. StaysQuiet h c) (sym one_seen) none)))
              (at_or_above p.next c low);
          unmade = λ c low. let from = none_from (omega (arith, next_is)) in from c (omega (arith, low, next_is));
        }
