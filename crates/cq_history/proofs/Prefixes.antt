-- What later events do not change.
use Rattle.std.proofs.Common.{◌≡◌, ℕ, zero, suc, ◌+◌, ◌-◌, ◌≤◌, Bool, true, false, cond, List, [], ◌∷◌, ◌++◌, length, get_or, set, take, map, refl, sym, ap, ◌∙◌, arith}
use Rattle.std.proofs.lemmas.List.{map-append, append-nil, append_assoc, take-append-le}
use Rattle.std.specs.List.{fold, filter}
use Rattle.cq_base.specs.declared.change.Change.{Change}
use Rattle.cq_base.specs.declared.change.Condition.{Condition}
use Rattle.cq_history.specs.declared.event.Event.{Event}
use Rattle.cq_history.specs.declared.event.Event.TheVariants.{Accept, Ask, Took, Back, Done, Publish, Open, Shut, Floor}
use Rattle.cq_history.specs.Files.{Source, files_from, files_of, files_at, files_after, conditions_from, conditions_at, conditions_after}
use Rattle.cq_history.specs.State.{State, Slot, no_slot, start, after, state, changes_in, accepted, own, is_by, maker}

pub map_change-set : (slots : List Slot) (i : ℕ) (slot : Slot) → slot.change ≡ (get_or slots i no_slot).change → map (λ (s : Slot). s.change) (set slots i slot) ≡ map (λ (s : Slot). s.change) slots
map_change-set [] i slot same = refl
map_change-set (x ∷ xs) zero slot same = ap (λ c. c ∷ map (λ (s : Slot). s.change) xs) same
map_change-set (x ∷ xs) (suc i) slot same = ap (λ cs. x.change ∷ cs) (map_change-set xs i slot same)

-- only Accept changes the accepted changes
pub changes_after : (s : State) (e : Event) → changes_in (after s e) ≡ changes_in s ++ accepted (e ∷ [])
changes_after s (Accept by change) = map-append (λ (slot : Slot). slot.change) s.slots _
changes_after s (Ask by) = sym (append-nil (changes_in s))
changes_after s (Took by r) = map_change-set s.slots (r - 1) _ refl ∙ sym (append-nil (changes_in s))
changes_after s (Back by r) = map_change-set s.slots (r - 1) _ refl ∙ sym (append-nil (changes_in s))
changes_after s (Done by r) = map_change-set s.slots (r - 1) _ refl ∙ sym (append-nil (changes_in s))
changes_after s (Publish p) = sym (append-nil (changes_in s))
changes_after s (Open by p) = sym (append-nil (changes_in s))
changes_after s (Shut by) = sym (append-nil (changes_in s))
changes_after s (Floor f) = sym (append-nil (changes_in s))

pub accepted-append : (h es : List Event) → accepted (h ++ es) ≡ accepted h ++ accepted es
accepted-append [] es = refl
accepted-append (Accept by change ∷ h) es = ap (λ cs. change ∷ cs) (accepted-append h es)
accepted-append (Ask by ∷ h) es = accepted-append h es
accepted-append (Took by r ∷ h) es = accepted-append h es
accepted-append (Back by r ∷ h) es = accepted-append h es
accepted-append (Done by r ∷ h) es = accepted-append h es
accepted-append (Publish p ∷ h) es = accepted-append h es
accepted-append (Open by p ∷ h) es = accepted-append h es
accepted-append (Shut by ∷ h) es = accepted-append h es
accepted-append (Floor f ∷ h) es = accepted-append h es

changes_from : (s : State) (h : List Event) → changes_in (fold after s h) ≡ changes_in s ++ accepted h
changes_from s [] = sym (append-nil (changes_in s))
changes_from s (e ∷ es) =
    changes_from (after s e) es ∙ ap (λ cs. cs ++ accepted es) (changes_after s e) ∙ append_assoc (changes_in s) (accepted (e ∷ [])) (accepted es) ∙ ap (λ cs. changes_in s ++ cs) (sym (accepted-append (e ∷ []) es))

-- the changes of the state are those of the Accept events
pub changes_in-state : (callers : ℕ) (h : List Event) → changes_in (state callers h) ≡ accepted h
changes_in-state callers h = changes_from (start callers) h

-- the files at a version do not depend on what comes after the accept of that version
pub files_at-append : (h es : List Event) (v : ℕ) (q : List ℕ) → v ≤ length (accepted h) → files_at (accepted (h ++ es)) v q ≡ files_at (accepted h) v q
files_at-append h es v q le = ap (λ cs. files_of q (take v cs)) (accepted-append h es) ∙ ap (files_of q) (take-append-le v (accepted h) (accepted es) le)

pub conditions_at-append : (h es : List Event) (v : ℕ) (q : List ℕ) → v ≤ length (accepted h) → conditions_at (accepted (h ++ es)) v q ≡ conditions_at (accepted h) v q
conditions_at-append h es v q le = ap (λ cs. conditions_from q [] (take v cs)) (accepted-append h es) ∙ ap (conditions_from q []) (take-append-le v (accepted h) (accepted es) le)

-- one change more
files_from_push : (q : List ℕ) (r : ℕ) (old : List Source) (cs : List Change) (c : Change) → files_from q r old (cs ++ c ∷ []) ≡ files_after q (r + length cs) (files_from q r old cs) c
files_from_push q r old [] c = ap (λ n. files_after q n old c) (omega arith)
files_from_push q r old (d ∷ ds) c = files_from_push q (r + 1) (files_after q r old d) ds c ∙ ap (λ n. files_after q n (files_from q (r + 1) (files_after q r old d) ds) c) (omega arith)

pub files_of_push : (q : List ℕ) (cs : List Change) (c : Change) → files_of q (cs ++ c ∷ []) ≡ files_after q (length cs + 1) (files_of q cs) c
files_of_push q cs c = files_from_push q 1 [] cs c ∙ ap (λ n. files_after q n (files_of q cs) c) (omega arith)

pub conditions_from_push : (q : List ℕ) (old : List Condition) (cs : List Change) (c : Change) → conditions_from q old (cs ++ c ∷ []) ≡ conditions_after q (conditions_from q old cs) c
conditions_from_push q old [] c = refl
conditions_from_push q old (d ∷ ds) c = conditions_from_push q (conditions_after q old d) ds c

filter-append : {X : Type 0} (p : X → Bool) (xs ys : List X) → filter p (xs ++ ys) ≡ filter p xs ++ filter p ys
filter-append p [] ys = refl
filter-append p (x ∷ xs) ys = elim (p x) as (λ b. cond b (x ∷ filter p (xs ++ ys)) (filter p (xs ++ ys)) ≡ cond b (x ∷ filter p xs) (filter p xs) ++ filter p ys) [ true ↦ ap (λ zs. x ∷ zs) (filter-append p xs ys) | false ↦ filter-append p xs ys ]

pub own-append : (c : ℕ) (h es : List Event) → own c (h ++ es) ≡ own c h ++ own c es
own-append c h es = filter-append (λ (e : Event). is_by c (maker e)) h es
