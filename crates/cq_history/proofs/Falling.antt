-- What only rises, and what later events leave as it is.
use Rattle.std.proofs.Common.{ℕ, ◌≤◌, Bool, true, false, cond, List, [], ◌∷◌, ◌++◌, fold, All, refl, sym, subst, inl, inr, arith}
use Rattle.std.proofs.lemmas.List.Elements.{All-cons, All-nil, All-head}
use Rattle.cq_base.specs.declared.settings.Settings.{Settings}
use Rattle.cq_history.specs.declared.event.Event.{Event}
use Rattle.cq_history.specs.declared.event.Event.TheVariants.{Accept, Ask, Took, Back, Done, Publish, Open, Shut, Floor}
use Rattle.cq_history.specs.State.{State, state, start, after, own, maker, is_by, ready}
use Rattle.cq_history.specs.Lawful.{Allowed, Lawful, LawfulFrom}
use Rattle.cq_history.specs.Core.{IsReached, IsAppliedFor}
use Rattle.cq_history.specs.Laws.{IsPartOf}
use Rattle.cq_history.proofs.States.{state-append, LawfulFrom-rest}
use Rattle.cq_history.proofs.Bounds.{ready-append}
use Rattle.cq_history.proofs.Cores.{floor-rises, reached_after}

published-rises : (set : Settings) (s : State) (e : Event) → Allowed set s e → s.published ≤ (after s e).published
published-rises set s (Accept by change) ok = omega arith
published-rises set s (Ask by) ok = omega arith
published-rises set s (Took by r) ok = omega arith
published-rises set s (Back by r) ok = omega arith
published-rises set s (Done by r) ok = omega arith
published-rises set s (Publish p) ok = omega (arith, ok.1.0)
published-rises set s (Open by p) ok = omega arith
published-rises set s (Shut by) ok = omega arith
published-rises set s (Floor f) ok = omega arith

rises : (set : Settings) (s : State) (es : List Event) → LawfulFrom set s es → (s.published ≤ (fold after s es).published) × (s.floor ≤ (fold after s es).floor)
rises set s [] law = (omega arith, omega arith)
rises set s (e ∷ es) law =
    let later = rises set (after s e) es law.1 in
    (omega (arith, published-rises set s e law.0, later.0), omega (arith, floor-rises set s e law.0, later.1))

pub never_falls : (set : Settings) (callers : ℕ) (h later : List Event) → Lawful set callers (h ++ later) → (ready (state callers h) ≤ ready (state callers (h ++ later))) × ((state callers h).published ≤ (state callers (h ++ later)).published) × ((state callers h).floor ≤ (state callers (h ++ later)).floor)
never_falls set callers h later law =
    let rest = rises set (state callers h) later (LawfulFrom-rest set (start callers) h later law) in
    subst (λ (t : State). (ready (state callers h) ≤ ready t) × ((state callers h).published ≤ t.published) × ((state callers h).floor ≤ t.floor)) (sym (state-append callers h later)) (ready-append (state callers h) later, rest.0, rest.1)

pub stays_reached : (s : State) (e : Event) (applied : ℕ) → IsAppliedFor (applied ∷ []) e → IsReached s applied → IsReached (after s e) applied
stays_reached s e applied asks reached =
    let all : All (IsReached s) (applied ∷ []) = All-cons (IsReached s) applied [] reached (All-nil (IsReached s)) in
    All-head (IsReached (after s e)) applied [] (reached_after s e (applied ∷ []) asks all)

part_left : (x : Event) (xs ys : List Event) (b : Bool) → IsPartOf xs ys → IsPartOf (cond b (x ∷ xs) xs) (x ∷ ys)
part_left x xs ys true part = inl (refl, part)
part_left x xs ys false part = part_behind xs x ys part
  where
    part_behind : (xs : List Event) (y : Event) (ys : List Event) → IsPartOf xs ys → IsPartOf xs (y ∷ ys)
    part_behind [] y ys part = tt
    part_behind (x ∷ xs) y ys part = inr part

-- the events of one caller are a part of all
pub own_part : (by : ℕ) (h : List Event) → IsPartOf (own by h) h
own_part by [] = tt
own_part by (e ∷ h) = part_left e (own by h) h (is_by by (maker e)) (own_part by h)
