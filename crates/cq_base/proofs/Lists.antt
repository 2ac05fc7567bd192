-- Elements and pairs of lists, beside std's `lemmas.List`: what a list contains, and what each of its pairs has.
use Rattle.std.proofs.Common.{◌≡◌, ◌⊎◌, ℕ, zero, suc, ◌<◌, Bool, true, false, cond, Some, List, [], ◌∷◌, ◌++◌, length, map, get_or, slice_get, refl, sym, ap, ◌∙◌, subst, subst₂, inl, inr, ⊎_elim, arith, length-append}
use Rattle.std.specs.Prelude.{AllPairs, All, Contains, filter}
use Rattle.std.proofs.Math.Seq.{get_or-append_seam}
use Rattle.std.proofs.lemmas.List.{get_or-map, length-map}
use Rattle.std.proofs.lemmas.List.Elements.{Contains-get_or, Contains-append_left, All-append}
use Rattle.std.proofs.lemmas.List.Kept.{AllPairs-cons}
use Rattle.std.proofs.lemmas.Option.{slice_get_cases, slice_get-get_or}

-- ---- what a list contains

pub Contains-here : {X : Type 0} (x : X) (xs : List X) → Contains (x ∷ xs) x
Contains-here x xs = (0, omega arith, refl)

pub Contains-there : {X : Type 0} (x z : X) (xs : List X) → Contains xs z → Contains (x ∷ xs) z
Contains-there x z xs (k, within, is) = (suc k, omega arith, is)

pub Contains-cases : {X : Type 0} (x z : X) (xs : List X) → Contains (x ∷ xs) z → (x ≡ z) ⊎ Contains xs z
Contains-cases x z xs (zero, within, is) = inl is
Contains-cases x z xs (suc k, within, is) = inr (k, omega arith, is)

pub Contains-nil : {X : Type 0} (z : X) → Contains [] z → ⊥
Contains-nil z (k, within, is) = omega arith

-- an element at a position within
pub element : {X : Type 0} (xs : List X) (i : ℕ) → i < length xs → X
element xs i inside = ⊎_elim (λ (x, within, here, read). x) (λ (past, none). absurd (omega arith)) (slice_get_cases xs i).1

pub same_default : {X : Type 0} (xs : List X) (k : ℕ) (d : X) → k < length xs → get_or xs k (get_or xs k d) ≡ get_or xs k d
same_default [] k d inside = absurd (omega arith)
same_default (x ∷ xs) zero d inside = refl
same_default (x ∷ xs) (suc k) d inside = same_default xs k d (omega arith)

pub Contains-map : {X Y : Type 0} (f : X → Y) (xs : List X) (x : X) → Contains xs x → Contains (map f xs) (f x)
Contains-map f xs x (k, within, at) =
    let many = length-map xs f in
    (k, omega arith, get_or-map f xs k x (f x) within ∙ ap f at)

pub Contains-from_map : {X Y : Type 0} (f : X → Y) (xs : List X) (y : Y) → Contains (map f xs) y → (x : X) × Contains xs x × (f x ≡ y)
Contains-from_map f xs y (k, within, at) =
    let many = length-map xs f in
    let inside : k < length xs = omega arith in
    let d = element xs k inside in
    (get_or xs k d, (k, inside, same_default xs k d inside), sym (get_or-map f xs k d y inside) ∙ at)

-- ---- what a filter keeps

kept_cases : {X : Type 0} (p : X → Bool) (b : Bool) (x z : X) (xs : List X) → p x ≡ b → Contains (cond b (x ∷ xs) xs) z → ((x ≡ z) × (p z ≡ true)) ⊎ Contains xs z
kept_cases p true x z xs is c = ⊎_elim (λ e. inl (e, subst (λ y. p y ≡ true) e is)) (λ later. inr later) (Contains-cases x z xs c)
kept_cases p false x z xs is c = inr c

kept_later : {X : Type 0} (b : Bool) (x z : X) (xs : List X) → Contains xs z → Contains (cond b (x ∷ xs) xs) z
kept_later true x z xs c = Contains-there x z xs c
kept_later false x z xs c = c

kept_here : {X : Type 0} (b : Bool) (x : X) (xs : List X) → b ≡ true → Contains (cond b (x ∷ xs) xs) x
kept_here true x xs is = Contains-here x xs
kept_here false x xs is = absurd (cc)

pub Contains-from_filter : {X : Type 0} (p : X → Bool) (xs : List X) (z : X) → Contains (filter p xs) z → Contains xs z × (p z ≡ true)
Contains-from_filter p [] z c = absurd (Contains-nil z c)
Contains-from_filter p (x ∷ xs) z c =
    ⊎_elim
    (λ h. (subst (Contains (x ∷ xs)) h.0 (Contains-here x xs), h.1))
    (λ later. let found = Contains-from_filter p xs z later in (Contains-there x z xs found.0, found.1))
    (kept_cases p (p x) x z (filter p xs) refl c)

pub Contains-filter : {X : Type 0} (p : X → Bool) (xs : List X) (z : X) → Contains xs z → p z ≡ true → Contains (filter p xs) z
Contains-filter p [] z c is = absurd (Contains-nil z c)
Contains-filter p (x ∷ xs) z c is =
    ⊎_elim
    (λ h. subst (Contains (cond (p x) (x ∷ filter p xs) (filter p xs))) h (kept_here (p x) x (filter p xs) (ap p h ∙ is)))
    (λ later. kept_later (p x) x z (filter p xs) (Contains-filter p xs z later is))
    (Contains-cases x z xs c)

-- ---- what each pair of a list has

-- the first element is before each later one
pub AllPairs-head : {X : Type 0} (Before : X → X → Type 0) (x z : X) (xs : List X) → AllPairs Before (x ∷ xs) → Contains xs z → Before x z
AllPairs-head Before x z xs ordered (k, within, is) = subst (Before x) is (ordered 0 (suc k) z (omega arith) (omega arith))

pub AllPairs-tail : {X : Type 0} (Before : X → X → Type 0) (x : X) (xs : List X) → AllPairs Before (x ∷ xs) → AllPairs Before xs
AllPairs-tail Before x xs ordered i j d lt within = ordered (suc i) (suc j) d (omega arith) (omega arith)

pub AllPairs-nil : {X : Type 0} (R : X → X → Type 0) → AllPairs R []
AllPairs-nil R i j d lt within = absurd (omega (arith, within))

-- what each element that the list contains has
pub All-from_contains : {X : Type 0} (P : X → Type 0) (xs : List X) → ((x : X) → Contains xs x → P x) → All P xs
All-from_contains P xs each k d within = each (get_or xs k d) (Contains-get_or xs k d within)

pub AllPairs-append : {X : Type 0} (R : X → X → Type 0) (xs ys : List X) → AllPairs R xs → AllPairs R ys → ((x y : X) → Contains xs x → Contains ys y → R x y) → AllPairs R (xs ++ ys)
AllPairs-append R [] ys first later across = later
AllPairs-append R (x ∷ xs) ys first later across =
    AllPairs-cons R x (xs ++ ys)
    (All-append (R x) xs ys (All-from_contains (R x) xs (λ z c. AllPairs-head R x z xs first c)) (All-from_contains (R x) ys (λ z c. across x z (Contains-here x xs) c)))
    (AllPairs-append R xs ys (AllPairs-tail R x xs first) later (λ a b c d. across a b (Contains-there x a xs c) d))

pub AllPairs-front : {X : Type 0} (R : X → X → Type 0) (xs ys : List X) → AllPairs R (xs ++ ys) → AllPairs R xs
AllPairs-front R [] ys pairs = AllPairs-nil R
AllPairs-front R (x ∷ xs) ys pairs =
    AllPairs-cons R x xs
    (All-from_contains (R x) xs (λ z c. AllPairs-head R x z (xs ++ ys) pairs (Contains-append_left xs ys z c)))
    (AllPairs-front R xs ys (AllPairs-tail R x (xs ++ ys) pairs))

pub AllPairs-from_map : {X Y : Type 0} (R : Y → Y → Type 0) (f : X → Y) (xs : List X) → AllPairs R (map f xs) → AllPairs (λ a b. R (f a) (f b)) xs
AllPairs-from_map R f xs pairs i j d less within =
    let many = length-map xs f in
    subst₂ R (get_or-map f xs i d (f d) (omega arith)) (get_or-map f xs j d (f d) within) (pairs i j (f d) less (omega arith))

pub AllPairs-map : {X Y : Type 0} (R : Y → Y → Type 0) (f : X → Y) (xs : List X) → AllPairs (λ a b. R (f a) (f b)) xs → AllPairs R (map f xs)
AllPairs-map R f xs pairs i j d less within =
    let many = length-map xs f in
    let inside : j < length xs = omega arith in
    let e = element xs j inside in
    subst₂ R (sym (get_or-map f xs i e d (omega arith))) (sym (get_or-map f xs j e d inside)) (pairs i j e less inside)

-- a weaker relation, by what the elements have
pub AllPairs-weaker : {X : Type 0} (R S : X → X → Type 0) (xs : List X) → ((a b : X) → Contains xs a → Contains xs b → R a b → S a b) → AllPairs R xs → AllPairs S xs
AllPairs-weaker R S xs to pairs i j d less within =
    to _ _ (i, omega arith, same_default xs i d (omega arith)) (j, within, same_default xs j d within) (pairs i j d less within)

-- ---- what stands at a position

pub slice_get-append_left : {X : Type 0} (xs ys : List X) (i : ℕ) → i < length xs → slice_get (xs ++ ys) i ≡ slice_get xs i
slice_get-append_left [] ys i lt = absurd (omega arith)
slice_get-append_left (x ∷ xs) ys zero lt = refl
slice_get-append_left (x ∷ xs) ys (suc i) lt = slice_get-append_left xs ys i (omega arith)

pub slice_get-push : {X : Type 0} (xs : List X) (y : X) → slice_get (xs ++ y ∷ []) (length xs) ≡ Some y
slice_get-push xs y =
    let all = length-append xs (y ∷ []) in
    slice_get-get_or (xs ++ y ∷ []) (length xs) y (omega arith) ∙ ap Some (get_or-append_seam xs y [] y)
