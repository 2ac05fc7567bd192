-- What a caller has open, by its own events.
use Rattle.std.proofs.Common.{◌≡◌, ℕ, ◌<◌, Bool, true, false, cond, List, [], ◌∷◌, length, fold, get_or, set, Option, Some, None, refl, ap, ◌∙◌, subst, ⊎_elim}
use Rattle.std.specs.Prelude.{◌==◌, Contains, IfSome}
use Rattle.std.proofs.lemmas.List.{get_or-set_same, get_or-set_other, length-set, length-replicate}
use Rattle.cq_base.specs.declared.settings.Settings.{Settings}
use Rattle.cq_base.proofs.Lists.{Contains-cases, Contains-nil}
use Rattle.cq_history.specs.declared.event.Event.{Event}
use Rattle.cq_history.specs.declared.event.Event.TheVariants.{Accept, Ask, Took, Back, Done, Publish, Open, Shut, Floor}
use Rattle.cq_history.specs.State.{State, start, after, state, view_of, own, is_by, maker}
use Rattle.cq_history.specs.Lasts.{view_after, view_in}
use Rattle.cq_history.specs.Lawful.{Allowed, Lawful, LawfulFrom}
use Rattle.cq_history.proofs.Numbers.{same_number, other_number}
use Rattle.cq_history.proofs.Bounds.{no_view}

-- ---- how many callers there are

pub views_after : (s : State) (e : Event) → length (after s e).views ≡ length s.views
views_after s (Accept by change) = refl
views_after s (Ask by) = refl
views_after s (Took by r) = refl
views_after s (Back by r) = refl
views_after s (Done by r) = refl
views_after s (Publish p) = refl
views_after s (Open by p) = length-set s.views by _
views_after s (Shut by) = length-set s.views by _
views_after s (Floor f) = refl

callers_from : (set : Settings) (s : State) (h : List Event) (e : Event) → LawfulFrom set s h → Contains h e → IfSome (maker e) (λ by. by < length s.views)
callers_from set s [] e law c = absurd (Contains-nil e c)
callers_from set s (d ∷ ds) e law c =
    ⊎_elim
    (λ (here : d ≡ e). subst (λ x. IfSome (maker x) (λ by. by < length s.views)) here law.0.0)
    (λ later. subst (λ n. IfSome (maker e) (λ by. by < n)) (views_after s d) (callers_from set (after s d) ds e law.1 later))
    (Contains-cases d e ds c)

pub callers_there : (set : Settings) (callers : ℕ) (h : List Event) (e : Event) → Lawful set callers h → Contains h e → IfSome (maker e) (λ by. by < callers)
callers_there set callers h e law c = subst (λ n. IfSome (maker e) (λ by. by < n)) (length-replicate callers _) (callers_from set (start callers) h e law c)

-- ---- the last opening

view-set : (views : List (Option ℕ)) (by c : ℕ) (v : Option ℕ) → by < length views → get_or (set views by v) c None ≡ cond (c == by) v (get_or views c None)
view-set views by c v there = go (c == by) refl
  where
    go : (b : Bool) → (c == by) ≡ b → get_or (set views by v) c None ≡ cond b v (get_or views c None)
    go true h = ap (λ n. get_or (set views by v) n None) (same_number c by h) ∙ get_or-set_same views by v None there
    go false h = get_or-set_other views by c v None (other_number c by h)

view_step : (set : Settings) (s : State) (e : Event) (c : ℕ) → Allowed set s e → view_of (after s e) c ≡ view_after c (view_of s c) e
view_step set s (Accept by change) c ok = refl
view_step set s (Ask by) c ok = refl
view_step set s (Took by r) c ok = refl
view_step set s (Back by r) c ok = refl
view_step set s (Done by r) c ok = refl
view_step set s (Publish p) c ok = refl
view_step set s (Open by p) c ok = view-set s.views by c (Some p) ok.0
view_step set s (Shut by) c ok = view-set s.views by c None ok.0
view_step set s (Floor f) c ok = refl

view_from : (set : Settings) (s : State) (h : List Event) (c : ℕ) → LawfulFrom set s h → view_of (fold after s h) c ≡ fold (view_after c) (view_of s c) h
view_from set s [] c law = refl
view_from set s (e ∷ es) c law = view_from set (after s e) es c law.1 ∙ ap (λ now. fold (view_after c) now es) (view_step set s e c law.0)

pub view_is : (set : Settings) (callers : ℕ) (h : List Event) (c : ℕ) → Lawful set callers h → view_of (state callers h) c ≡ view_in c h
view_is set callers h c law = view_from set (start callers) h c law ∙ ap (λ now. fold (view_after c) now h) (no_view callers c)

-- ---- by its own events

-- an event of nobody or of another caller opens and shuts nothing
unmoved : (c : ℕ) (now : Option ℕ) (e : Event) → is_by c (maker e) ≡ false → view_after c now e ≡ now
unmoved c now (Accept by change) h = refl
unmoved c now (Ask by) h = refl
unmoved c now (Took by r) h = refl
unmoved c now (Back by r) h = refl
unmoved c now (Done by r) h = refl
unmoved c now (Publish p) h = refl
unmoved c now (Open by p) h = ap (λ b. cond b (Some p) now) h
unmoved c now (Shut by) h = ap (λ b. cond b None now) h
unmoved c now (Floor f) h = refl

own_from : (c : ℕ) (now : Option ℕ) (h : List Event) → fold (view_after c) now h ≡ fold (view_after c) now (own c h)
own_from c now [] = refl
own_from c now (e ∷ es) = go (is_by c (maker e)) refl (λ v. own_from c v es)
  where
    go : (b : Bool) → is_by c (maker e) ≡ b → ((v : Option ℕ) → fold (view_after c) v es ≡ fold (view_after c) v (own c es)) → fold (view_after c) (view_after c now e) es ≡ fold (view_after c) now (cond b (e ∷ own c es) (own c es))
    go true h rest = rest (view_after c now e)
    go false h rest = ap (λ v. fold (view_after c) v es) (unmoved c now e h) ∙ rest now

pub view_own : (c : ℕ) (h : List Event) → view_in c h ≡ view_in c (own c h)
view_own c h = own_from c None h
