-- The last publication and the last floor.
use Rattle.std.proofs.Common.{◌≡◌, ℕ, List, [], ◌∷◌, fold, refl, ap, ◌∙◌}
use Rattle.cq_history.specs.declared.event.Event.{Event}
use Rattle.cq_history.specs.declared.event.Event.TheVariants.{Accept, Ask, Took, Back, Done, Publish, Open, Shut, Floor}
use Rattle.cq_history.specs.State.{State, start, after, state}
use Rattle.cq_history.specs.Lasts.{published_after, published_in, floor_after, floor_in}

lasts_step : (s : State) (e : Event) → ((after s e).published ≡ published_after s.published e) × ((after s e).floor ≡ floor_after s.floor e)
lasts_step s (Accept by change) = (refl, refl)
lasts_step s (Ask by) = (refl, refl)
lasts_step s (Took by r) = (refl, refl)
lasts_step s (Back by r) = (refl, refl)
lasts_step s (Done by r) = (refl, refl)
lasts_step s (Publish p) = (refl, refl)
lasts_step s (Open by p) = (refl, refl)
lasts_step s (Shut by) = (refl, refl)
lasts_step s (Floor f) = (refl, refl)

lasts_from : (s : State) (h : List Event) → ((fold after s h).published ≡ fold published_after s.published h) × ((fold after s h).floor ≡ fold floor_after s.floor h)
lasts_from s [] = (refl, refl)
lasts_from s (e ∷ es) =
    let rest = lasts_from (after s e) es in
    let here = lasts_step s e in
    (rest.0 ∙ ap (λ n. fold published_after n es) here.0, rest.1 ∙ ap (λ n. fold floor_after n es) here.1)

pub lasts_are : (callers : ℕ) (h : List Event) → ((state callers h).published ≡ published_in h) × ((state callers h).floor ≡ floor_in h)
lasts_are callers h = lasts_from (start callers) h
