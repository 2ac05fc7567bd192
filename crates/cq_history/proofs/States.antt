-- One event more: what it leaves, and whether the history stays lawful.
use Rattle.std.proofs.Common.{◌≡◌, ℕ, List, [], ◌∷◌, ◌++◌}
use Rattle.std.proofs.lemmas.List.Sums.{fold_push, fold-append}
use Rattle.std.specs.List.{fold}
use Rattle.cq_base.specs.declared.settings.Settings.{Settings}
use Rattle.cq_history.specs.declared.event.Event.{Event}
use Rattle.cq_history.specs.State.{State, start, after, state}
use Rattle.cq_history.specs.Lawful.{Allowed, LawfulFrom, Lawful}

pub state_push : (callers : ℕ) (h : List Event) (e : Event) → state callers (h ++ e ∷ []) ≡ after (state callers h) e
state_push callers h e = fold_push after (start callers) h e

pub state-append : (callers : ℕ) (h es : List Event) → state callers (h ++ es) ≡ fold after (state callers h) es
state-append callers h es = fold-append after (start callers) h es

LawfulFrom_push : (set : Settings) (s : State) (h : List Event) (e : Event) → LawfulFrom set s h → Allowed set (fold after s h) e → LawfulFrom set s (h ++ e ∷ [])
LawfulFrom_push set s [] e law ok = (ok, tt)
LawfulFrom_push set s (d ∷ ds) e law ok = (law.0, LawfulFrom_push set (after s d) ds e law.1 ok)

LawfulFrom-prefix : (set : Settings) (s : State) (h es : List Event) → LawfulFrom set s (h ++ es) → LawfulFrom set s h
LawfulFrom-prefix set s [] es law = tt
LawfulFrom-prefix set s (d ∷ ds) es law = (law.0, LawfulFrom-prefix set (after s d) ds es law.1)

pub LawfulFrom-rest : (set : Settings) (s : State) (h es : List Event) → LawfulFrom set s (h ++ es) → LawfulFrom set (fold after s h) es
LawfulFrom-rest set s [] es law = law
LawfulFrom-rest set s (d ∷ ds) es law = LawfulFrom-rest set (after s d) ds es law.1

pub Lawful_push : (set : Settings) (callers : ℕ) (h : List Event) (e : Event) → Lawful set callers h → Allowed set (state callers h) e → Lawful set callers (h ++ e ∷ [])
Lawful_push set callers h e law ok = LawfulFrom_push set (start callers) h e law ok

pub Lawful-prefix : (set : Settings) (callers : ℕ) (h es : List Event) → Lawful set callers (h ++ es) → Lawful set callers h
Lawful-prefix set callers h es law = LawfulFrom-prefix set (start callers) h es law

-- the last event was allowed
pub Lawful_last : (set : Settings) (callers : ℕ) (h : List Event) (e : Event) → Lawful set callers (h ++ e ∷ []) → Allowed set (state callers h) e
Lawful_last set callers h e law = (LawfulFrom-rest set (start callers) h (e ∷ []) law).0

-- a fact that holds at the start and that each allowed event keeps holds in each lawful history
pub by_events : (set : Settings) (P : State → Type 0) → ((s : State) (e : Event) → P s → Allowed set s e → P (after s e)) → (s : State) (h : List Event) → P s → LawfulFrom set s h → P (fold after s h)
by_events set P step s [] p law = p
by_events set P step s (e ∷ es) p law = by_events set P step (after s e) es (step s e p law.0) law.1
