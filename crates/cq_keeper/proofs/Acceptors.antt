-- Who accepts: what follows an event that the first caller has seen has no acceptance, if it has no event of the first caller.
use Rattle.std.proofs.Common.{◌≡◌, ℕ, Bool, true, false, cond, List, [], ◌∷◌, ◌++◌, length, refl, sym, ap, ◌∙◌, subst, arith, append-nil, length-append}
use Rattle.std.specs.Prelude.{◌==◌}
use Rattle.std.specs.List.{AllByRecursion}
use mathlib.Core.List.{IsPrefix}
use Rattle.cq_base.specs.declared.change.Change.{Change}
use Rattle.cq_chain.specs.Held.{IsOfFirst}
use Rattle.cq_history.specs.declared.event.Event.{Event}
use Rattle.cq_history.specs.declared.event.Event.TheVariants.{Accept, Ask, Took, Back, Done, Publish, Open, Shut, Floor}
use Rattle.cq_history.specs.State.{accepted, own}
use Rattle.cq_history.proofs.Prefixes.{accepted-append, own-append}

pub all_left : {A : Type 0} (P : A → Type 0) (xs ys : List A) → AllByRecursion P (xs ++ ys) → AllByRecursion P xs
all_left P [] ys all = tt
all_left P (x ∷ xs) ys all = (all.0, all_left P xs ys all.1)

pub all_right : {A : Type 0} (P : A → Type 0) (xs ys : List A) → AllByRecursion P (xs ++ ys) → AllByRecursion P ys
all_right P [] ys all = all
all_right P (x ∷ xs) ys all = all_right P xs ys all.1

pub nothing_after : {A : Type 0} (xs ys : List A) → xs ++ ys ≡ xs → ys ≡ []
nothing_after xs [] same = refl
nothing_after xs (y ∷ ys) same = absurd (omega (arith, ap length same, length-append xs (y ∷ ys)))

pub first_none : {A : Type 0} (xs ys : List A) → xs ++ ys ≡ [] → xs ≡ []
first_none [] ys none = refl
first_none (x ∷ xs) ys none = absurd (cc (none))

rest_none : (b : Bool) (e : Event) (xs : List Event) → cond b (e ∷ xs) xs ≡ [] → xs ≡ []
rest_none true e xs none = absurd (cc (none))
rest_none false e xs none = none

-- events of others have no acceptance, if only the first caller accepts
pub others_accept_none : (more : List Event) → AllByRecursion IsOfFirst more → own 0 more ≡ [] → accepted more ≡ []
others_accept_none [] all none = refl
others_accept_none (Accept by change ∷ es) all none =
    let mine : Accept 0 change ∷ own 0 es ≡ [] = subst (λ n. own 0 (Accept n change ∷ es) ≡ []) all.0 none in
    absurd (cc (mine))
others_accept_none (Ask by ∷ es) all none = others_accept_none es all.1 (rest_none (0 == by) (Ask by) (own 0 es) none)
others_accept_none (Took by r ∷ es) all none = others_accept_none es all.1 (rest_none (0 == by) (Took by r) (own 0 es) none)
others_accept_none (Back by r ∷ es) all none = others_accept_none es all.1 (rest_none (0 == by) (Back by r) (own 0 es) none)
others_accept_none (Done by r ∷ es) all none = others_accept_none es all.1 (rest_none (0 == by) (Done by r) (own 0 es) none)
others_accept_none (Publish p ∷ es) all none = others_accept_none es all.1 none
others_accept_none (Open by p ∷ es) all none = others_accept_none es all.1 (rest_none (0 == by) (Open by p) (own 0 es) none)
others_accept_none (Shut by ∷ es) all none = others_accept_none es all.1 (rest_none (0 == by) (Shut by) (own 0 es) none)
others_accept_none (Floor f ∷ es) all none = others_accept_none es all.1 none

-- so whoever has seen all events of the first caller has seen each acceptance
pub accepted_seen : (seen more : List Event) → AllByRecursion IsOfFirst (seen ++ more) → own 0 more ≡ [] → accepted (seen ++ more) ≡ accepted seen
accepted_seen seen more all none =
    accepted-append seen more ∙ (ap (λ cs. accepted seen ++ cs) (others_accept_none more (all_right IsOfFirst seen more all) none) ∙ append-nil (accepted seen))

-- if what it saw of its own events is the same
pub accepted_same : (seen log : List Event) → AllByRecursion IsOfFirst log → IsPrefix seen log → own 0 log ≡ own 0 seen → accepted log ≡ accepted seen
accepted_same seen log all front same =
    let none : own 0 front.0 ≡ [] = nothing_after (own 0 seen) (own 0 front.0) (sym (own-append 0 seen front.0) ∙ (ap (own 0) front.1 ∙ same)) in
    ap accepted (sym front.1) ∙ accepted_seen seen front.0 (subst (AllByRecursion IsOfFirst) (sym front.1) all) none

-- an acceptance more
pub accepted_last : (by : ℕ) (change : Change) (h : List Event) → accepted (h ++ Accept by change ∷ []) ≡ accepted h ++ change ∷ []
accepted_last by change h = accepted-append h (Accept by change ∷ [])
