-- The callers by their numbers, and the events of each.
use Rattle.std.specs.Prelude.{◌≡◌, ◌≢◌, ◌⊎◌, ℕ, ◌<◌, ◌≤◌, ◌==◌, Bool, false, List, [], ◌∷◌, length, slice_index, Option, Some, None, nat_lt, cond}

abbrev pub Each : {A : Type 0} → (A → Type 0) → List A → Type 0
Each P [] = Unit {0}
Each P (x ∷ xs) = P x × Each P xs

-- no number is there twice
abbrev pub Differ : List ℕ → Type 0
Differ [] = Unit {0}
Differ (c ∷ cs) = Each (λ d. c ≢ d) cs × Differ cs

-- the number is there
abbrev pub Among : ℕ → List ℕ → Type 0
Among c [] = ⊥
Among c (d ∷ ds) = (c ≡ d) ⊎ Among c ds

abbrev pub is_by : ℕ → Option ℕ → Bool
is_by c None = false
is_by c (Some d) = c == d

-- the events of one caller, in their order
abbrev pub own : {E : Type 0} → (E → Option ℕ) → ℕ → List E → List E
own caller c [] = []
own caller c (e ∷ es) = cond (is_by c (caller e)) (e ∷ own caller c es) (own caller c es)

-- the event is nobody's, or its caller is the first of these
abbrev pub MayCall : Option ℕ → List ℕ → Type 0
MayCall None callers = Unit {0}
MayCall (Some c) callers = (0 < length callers) × (c ≡ slice_index callers 0)

-- each of these callers has the same events in both histories
abbrev pub OwnSame : {E : Type 0} → (E → Option ℕ) → List ℕ → List E → List E → Type 0
OwnSame caller callers new old = Each (λ c. own caller c new ≡ own caller c old) callers

-- numbers from this one on have no event
abbrev pub NoneFrom : {E : Type 0} → (E → Option ℕ) → ℕ → List E → Type 0
NoneFrom caller next log = (c : ℕ) → next ≤ c → own caller c log ≡ []

-- the second if it is longer, else the first
abbrev pub longer : {A : Type 0} → List A → List A → List A
longer xs ys = cond (nat_lt (length xs) (length ys)) ys xs
