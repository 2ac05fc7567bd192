-- What each lawful history keeps: no open version is below the floor, and floor, published and ready stand in order.
use Rattle.std.proofs.Common.{◌≡◌, ℕ, zero, suc, ◌+◌, ◌-◌, ◌<◌, ◌≤◌, true, false, cond, List, [], ◌∷◌, ◌++◌, length, get_or, set, replicate, Option, Some, None, refl, sym, ap, ◌∙◌, subst, arith, ◌⊎◌, inl, inr, ⊎_elim, get_or-set_other}
use Rattle.std.proofs.lemmas.Bool.{cases_eq, cases_lt}
use Rattle.std.proofs.lemmas.List.{get_or_past}
use Rattle.std.proofs.lemmas.List.Elements.{All-get_or}
use Rattle.std.specs.Prelude.{not, All}
use Rattle.std.specs.List.{prefix_len, fold}
use Rattle.cq_base.specs.declared.settings.Settings.{Settings}
use Rattle.cq_base.proofs.Bools.{or-true}
use Rattle.cq_history.specs.declared.event.Event.{Event}
use Rattle.cq_history.specs.declared.event.Event.TheVariants.{Accept, Ask, Took, Back, Done, Publish, Open, Shut, Floor}
use Rattle.cq_history.specs.Changes.{is_put}
use Rattle.cq_history.specs.State.{State, Slot, no_slot, slot_of, start, after, state, is_done, ready, view_of}
use Rattle.cq_history.specs.Lawful.{Allowed, Lawful, IsBelow}
use Rattle.cq_history.proofs.States.{by_events}

pub prefix_len-append-le : (xs ys : List Slot) → prefix_len is_done xs ≤ prefix_len is_done (xs ++ ys)
prefix_len-append-le [] ys = omega arith
prefix_len-append-le (x ∷ xs) ys =
    elim (is_done x) as (λ b. cond b (1 + prefix_len is_done xs) 0 ≤ cond b (1 + prefix_len is_done (xs ++ ys)) 0) [ true ↦ omega (arith, prefix_len-append-le xs ys) | false ↦ omega arith ]

-- a slot that is at least as done
pub prefix_len-set-le : (xs : List Slot) (i : ℕ) (y : Slot) → (is_done (get_or xs i no_slot) ≡ true → is_done y ≡ true) → prefix_len is_done xs ≤ prefix_len is_done (set xs i y)
prefix_len-set-le [] i y up = omega arith
prefix_len-set-le (x ∷ xs) zero y up = grind arith
prefix_len-set-le (x ∷ xs) (suc i) y up =
    elim (is_done x) as (λ b. cond b (1 + prefix_len is_done xs) 0 ≤ cond b (1 + prefix_len is_done (set xs i y)) 0) [ true ↦ omega (arith, prefix_len-set-le xs i y up) | false ↦ omega arith ]

-- ready never falls
pub ready_after : (s : State) (e : Event) → ready s ≤ ready (after s e)
ready_after s (Accept by change) = prefix_len-append-le s.slots _
ready_after s (Ask by) = omega arith
ready_after s (Took by r) = prefix_len-set-le s.slots (r - 1) _ (λ h. h)
ready_after s (Back by r) = prefix_len-set-le s.slots (r - 1) _ (λ h. h)
ready_after s (Done by r) = prefix_len-set-le s.slots (r - 1) _ (λ h. or-true (not (is_put (slot_of s r).change)))
ready_after s (Publish p) = omega arith
ready_after s (Open by p) = omega arith
ready_after s (Shut by) = omega arith
ready_after s (Floor f) = omega arith

pub record InOrder (s : State) : Type 0 where
  pub floor : s.floor ≤ s.published
  pub published : s.published ≤ ready s
  pub views : (by p : ℕ) → view_of s by ≡ Some p → (s.floor ≤ p) × (p ≤ s.published)

view-set_same : (views : List (Option ℕ)) (by : ℕ) (v w : Option ℕ) → get_or (set views by v) by None ≡ w → (v ≡ w) ⊎ (w ≡ None)
view-set_same [] by v w h = inr (sym h)
view-set_same (x ∷ xs) zero v w h = inl h
view-set_same (x ∷ xs) (suc by) v w h = view-set_same xs by v w h

-- after a view is set: it is the caller's, or another one's from before
view-set_cases : (views : List (Option ℕ)) (by c p : ℕ) (v : Option ℕ) → get_or (set views by v) c None ≡ Some p → (v ≡ Some p) ⊎ (get_or views c None ≡ Some p)
view-set_cases views by c p v h =
    ⊎_elim
    (λ (same : c ≡ by). ⊎_elim (λ e. inl e) (λ (e : Some p ≡ None). absurd (cc)) (view-set_same views by v (Some p) (ap (λ n. get_or (set views by v) n None) (sym same) ∙ h)))
    (λ other. inr (sym (get_or-set_other views by c v None other) ∙ h))
    (cases_eq c by)

open_below : (views : List (Option ℕ)) (f c p : ℕ) → All (IsBelow f) views → get_or views c None ≡ Some p → f ≤ p
open_below views f c p all h =
    ⊎_elim
    (λ (lt : c < length views). let below : IsBelow f (get_or views c None) = All-get_or (IsBelow f) views c None lt all in subst (IsBelow f) h below)
    (λ (past : length views ≤ c). let none : None ≡ Some p = sym (get_or_past views c None past) ∙ h in absurd (cc))
    (cases_lt c (length views))

pub in_order_after : (set : Settings) (s : State) (e : Event) → InOrder s → Allowed set s e → InOrder (after s e)
in_order_after set s (Accept by change) i ok = record { floor = i.floor; published = omega (arith, ready_after s (Accept by change), i.published); views = i.views }
in_order_after set s (Ask by) i ok = i
in_order_after set s (Took by r) i ok = record { floor = i.floor; published = omega (arith, ready_after s (Took by r), i.published); views = i.views }
in_order_after set s (Back by r) i ok = record { floor = i.floor; published = omega (arith, ready_after s (Back by r), i.published); views = i.views }
in_order_after set s (Done by r) i ok = record { floor = i.floor; published = omega (arith, ready_after s (Done by r), i.published); views = i.views }
in_order_after set s (Publish p) i ok = record { floor = omega (arith, i.floor, ok.1.0); published = ok.1.1; views = λ c v h. ((i.views c v h).0, omega (arith, (i.views c v h).1, ok.1.0)) }
in_order_after set s (Open by p) i ok = record {
  floor = i.floor;
  published = i.published;
  views = λ c v h. ⊎_elim (λ (e : Some p ≡ Some v). let same : v ≡ s.published = cc (ok.1.0) in (omega (arith, i.floor, same), omega (arith, same))) (λ e. i.views c v e) (view-set_cases s.views by c v (Some p) h);
}
in_order_after set s (Shut by) i ok = record {
  floor = i.floor;
  published = i.published;
  views = λ c v h. ⊎_elim (λ (e : None ≡ Some v). absurd (cc)) (λ e. i.views c v e) (view-set_cases s.views by c v None h);
}
in_order_after set s (Floor f) i ok = record {
  floor = ok.1.1;
  published = i.published;
  views = λ c v h. (open_below s.views f c v ok.1.2 h, (i.views c v h).1);
}

pub no_view : (n c : ℕ) → get_or (replicate n (let none : Option ℕ = None in none)) c None ≡ None
no_view zero c = refl
no_view (suc n) zero = refl
no_view (suc n) (suc c) = no_view n c

pub in_order : (set : Settings) (callers : ℕ) (h : List Event) → Lawful set callers h → InOrder (state callers h)
in_order set callers h law =
    by_events set InOrder (in_order_after set) (start callers) h (record {
      floor = omega arith;
      published = omega arith;
      views = λ c p e. let none : None ≡ Some p = sym (no_view callers c) ∙ e in absurd (cc);
    }) law

-- no open version is ever below the floor
pub views_above_floor : (set : Settings) (callers : ℕ) (h : List Event) → Lawful set callers h → (by p : ℕ) → view_of (state callers h) by ≡ Some p → (state callers h).floor ≤ p
views_above_floor set callers h law by p is = ((in_order set callers h law).views by p is).0

-- ready never falls
pub ready-append : (s : State) (es : List Event) → ready s ≤ ready (fold after s es)
ready-append s [] = omega arith
ready-append s (e ∷ es) = omega (arith, ready_after s e, ready-append (after s e) es)
