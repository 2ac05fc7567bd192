-- Events that nobody makes, which may come anywhere between a caller's own, and what is accepted where no other caller's are.
use Rattle.std.proofs.Common.{◌≡◌, ◌⊎◌, ℕ, Bool, true, false, cond, List, [], ◌∷◌, ◌++◌, Option, Some, None, refl, sym, ap, ◌∙◌, inl, inr, append-nil, true≢false, eq-eqb}
use Rattle.std.specs.Prelude.{◌==◌}
use Rattle.std.specs.List.{AllByRecursion}
use Rattle.cq_history.specs.declared.event.Event.{Event}
use Rattle.cq_history.specs.declared.event.Event.TheVariants.{Accept, Ask, Took, Back, Done, Publish, Open, Shut, Floor}
use Rattle.cq_history.specs.State.{accepted, own, maker, is_by}
use Rattle.cq_history.proofs.Prefixes.{accepted-append}
use Rattle.cq_hub.specs.Hubs.{Grows, IsFloor, IsPublication}
use Rattle.cq_talk.specs.Laws.{ActsBy}
use Rattle.cq_talk.specs.Talk.{MayFollow}

abbrev pub IsUnmade : Event → Type 0
IsUnmade e = maker e ≡ None

pub published_unmade : (e : Event) → IsPublication e → IsUnmade e
published_unmade (Accept by change) is = absurd is
published_unmade (Ask by) is = absurd is
published_unmade (Took by r) is = absurd is
published_unmade (Back by r) is = absurd is
published_unmade (Done by r) is = absurd is
published_unmade (Publish p) is = refl
published_unmade (Open by p) is = absurd is
published_unmade (Shut by) is = absurd is
published_unmade (Floor f) is = refl

floor_unmade : (e : Event) → IsFloor e → IsUnmade e
floor_unmade (Accept by change) is = absurd is
floor_unmade (Ask by) is = absurd is
floor_unmade (Took by r) is = absurd is
floor_unmade (Back by r) is = absurd is
floor_unmade (Done by r) is = absurd is
floor_unmade (Publish p) is = refl
floor_unmade (Open by p) is = absurd is
floor_unmade (Shut by) is = absurd is
floor_unmade (Floor f) is = refl

pub following_unmade : (view : Option ℕ) (e : Event) → MayFollow view e → IsUnmade e
following_unmade None e is = absurd is
following_unmade (Some v) e is = floor_unmade e is

all_unmade : (c : ℕ) (May : Event → Type 0) (more : List Event) → ((e : Event) → May e → IsUnmade e) → AllByRecursion (λ (e : Event). (maker e ≡ Some c) ⊎ May e) more → AllByRecursion (λ (e : Event). (maker e ≡ Some c) ⊎ IsUnmade e) more
all_unmade c May [] to all = tt
all_unmade c May (e ∷ more) to all = (elim all.0 [ inl mine ↦ inl mine | inr may ↦ inr (to e may) ], all_unmade c May more to all.1)

-- the same, where of the events that may come none is made by anybody
pub grows_unmade : (alone : Type 0) (c : ℕ) (May : Event → Type 0) (h later es : List Event) → ((e : Event) → May e → IsUnmade e) → Grows alone May c h later es → Grows alone IsUnmade c h later es
grows_unmade alone c May h later es to grows = record { more = grows.more; after_is = grows.after_is; own_is = grows.own_is; alone_is = λ a. all_unmade c May grows.more to (grows.alone_is a) }

-- ---- what is accepted is the caller's

not_by : (c by : ℕ) → by ≡ c → (c == by) ≡ false → ⊥
not_by c by same other = true≢false (sym (eq-eqb c c refl) ∙ ap (λ n. c == n) (sym same) ∙ other)

own_step : (c : ℕ) (e : Event) (es : List Event) (b : Bool) → ActsBy c e → is_by c (maker e) ≡ b → accepted (e ∷ []) ++ accepted es ≡ accepted (cond b (e ∷ es) es)
own_step c e es true by is = sym (accepted-append (e ∷ []) es)
own_step c (Accept by change) es false own is = absurd (not_by c by own is)
own_step c (Ask by) es false own is = refl
own_step c (Took by r) es false own is = refl
own_step c (Back by r) es false own is = refl
own_step c (Done by r) es false own is = refl
own_step c (Publish p) es false own is = refl
own_step c (Open by p) es false own is = refl
own_step c (Shut by) es false own is = refl
own_step c (Floor f) es false own is = refl

pub accepted_own : (c : ℕ) (more : List Event) → AllByRecursion (ActsBy c) more → accepted more ≡ accepted (own c more)
accepted_own c [] all = refl
accepted_own c (e ∷ more) all = accepted-append (e ∷ []) more ∙ (ap (λ cs. accepted (e ∷ []) ++ cs) (accepted_own c more all.1) ∙ own_step c e (own c more) (is_by c (maker e)) all.0 refl)

accepts_one : (c : ℕ) (e : Event) → (maker e ≡ Some c) ⊎ IsUnmade e → ActsBy c e
accepts_one c (Accept by change) (inl own) = cc (own)
accepts_one c (Accept by change) (inr none) = absurd (cc (none))
accepts_one c (Ask by) is = tt
accepts_one c (Took by r) is = tt
accepts_one c (Back by r) is = tt
accepts_one c (Done by r) is = tt
accepts_one c (Publish p) is = tt
accepts_one c (Open by p) (inl own) = cc (own)
accepts_one c (Open by p) (inr none) = absurd (cc (none))
accepts_one c (Shut by) is = tt
accepts_one c (Floor f) is = tt

-- where no other caller makes an event, none accepts a change
pub accepts_all : (c : ℕ) (more : List Event) → AllByRecursion (λ (e : Event). (maker e ≡ Some c) ⊎ IsUnmade e) more → AllByRecursion (ActsBy c) more
accepts_all c [] all = tt
accepts_all c (e ∷ more) all = (accepts_one c e all.0, accepts_all c more all.1)

-- nothing more is accepted, where none of the caller's own further events accepts a change
pub none_more : (c : ℕ) (h later more : List Event) → later ≡ h ++ more → accepted (own c more) ≡ [] → AllByRecursion (ActsBy c) more → accepted later ≡ accepted h
none_more c h later more is none accepts =
    ap accepted is ∙ (accepted-append h more ∙ (ap (λ cs. accepted h ++ cs) (accepted_own c more accepts ∙ none) ∙ append-nil (accepted h)))

pub none_accepted : (c : ℕ) (h later es : List Event) → Grows (Unit {0}) IsUnmade c h later es → accepted es ≡ [] → accepted later ≡ accepted h
none_accepted c h later es grows none = none_more c h later grows.more grows.after_is (ap accepted grows.own_is ∙ none) (accepts_all c grows.more (grows.alone_is tt))
