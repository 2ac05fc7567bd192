-- A history that grows, and what stays of its state.
use Rattle.std.proofs.Common.{◌≡◌, ◌⊎◌, ℕ, ◌+◌, ◌≤◌, Bool, true, false, cond, List, [], ◌∷◌, ◌++◌, length, fold, get_or, Option, Some, None, refl, sym, ap, ap₂, ◌∙◌, subst, inl, inr, arith, append-nil, append_assoc, get_or-set_other, true≢false, set, length-append, eq-eqb}
use Rattle.std.specs.Prelude.{◌==◌}
use Rattle.std.specs.List.{AllByRecursion}
use Rattle.cq_base.specs.declared.change.Change.{Change}
use Rattle.cq_base.specs.declared.settings.Settings.{Settings}
use Rattle.cq_history.specs.declared.event.Event.{Event}
use Rattle.cq_history.specs.declared.event.Event.TheVariants.{Accept, Ask, Took, Back, Done, Publish, Open, Shut, Floor}
use Rattle.cq_history.specs.State.{State, after, state, accepted, own, maker, is_by, ready, view_of}
use Rattle.cq_history.specs.Lawful.{Lawful}
use Rattle.cq_history.proofs.States.{state-append}
use Rattle.cq_history.proofs.Prefixes.{own-append, accepted-append}
use Rattle.cq_history.proofs.Falling.{never_falls}
use Rattle.cq_hub.specs.Hubs.{Grows, Calls, Never}

pub all-append : {A : Type 0} (P : A → Type 0) (xs ys : List A) → AllByRecursion P xs → AllByRecursion P ys → AllByRecursion P (xs ++ ys)
all-append P [] ys a b = b
all-append P (x ∷ xs) ys a b = (a.0, all-append P xs ys a.1 b)

own_one : (c : ℕ) (e : Event) → maker e ≡ Some c → own c (e ∷ []) ≡ e ∷ []
own_one c e is = ap (λ m. cond (is_by c m) (e ∷ []) []) is ∙ ap (λ b. cond b (e ∷ []) []) (eq-eqb c c refl)

module _ (alone : Type 0) (c : ℕ) where
  pub grows_none : (May : Event → Type 0) (h : List Event) → Grows alone May c h h []
  grows_none May h = record { more = []; after_is = sym (append-nil h); own_is = refl; alone_is = λ a. tt }

  pub grows_then : (May : Event → Type 0) (h mid later es fs : List Event) → Grows alone May c h mid es → Grows alone May c mid later fs → Grows alone May c h later (es ++ fs)
  grows_then May h mid later es fs one two = record {
    more = one.more ++ two.more;
    after_is = two.after_is ∙ ap (λ xs. xs ++ two.more) one.after_is ∙ append_assoc h one.more two.more;
    own_is = own-append c one.more two.more ∙ ap₂ (λ xs ys. xs ++ ys) one.own_is two.own_is;
    alone_is = λ a. all-append _ one.more two.more (one.alone_is a) (two.alone_is a);
  }

  pub grows_own : (May : Event → Type 0) (h : List Event) (e : Event) → maker e ≡ Some c → Grows alone May c h (h ++ e ∷ []) (e ∷ [])
  grows_own May h e is = record { more = e ∷ []; after_is = refl; own_is = own_one c e is; alone_is = λ a. (inl is, tt) }

  -- others' events, and then one of the caller's
  pub grows_event : (May : Event → Type 0) (h mid : List Event) (e : Event) → maker e ≡ Some c → Grows alone May c h mid [] → Grows alone May c h (mid ++ e ∷ []) (e ∷ [])
  grows_event May h mid e is one = grows_then May h mid (mid ++ e ∷ []) [] (e ∷ []) one (grows_own May mid e is)

  all_may : (May Could : Event → Type 0) (more : List Event) → ((e : Event) → May e → Could e) → AllByRecursion (λ (e : Event). (maker e ≡ Some c) ⊎ May e) more → AllByRecursion (λ (e : Event). (maker e ≡ Some c) ⊎ Could e) more
  all_may May Could [] to all = tt
  all_may May Could (e ∷ more) to all = (elim all.0 [ inl mine ↦ inl mine | inr may ↦ inr (to e may) ], all_may May Could more to all.1)

  pub grows_may : (Could : Event → Type 0) (h later es : List Event) → Grows alone Never c h later es → Grows alone Could c h later es
  grows_may Could h later es one = record { more = one.more; after_is = one.after_is; own_is = one.own_is; alone_is = λ a. all_may Never Could one.more (λ e never. absurd never) (one.alone_is a) }

  -- the same with another list of the caller's events
  pub grows_as : (May : Event → Type 0) (h later es fs : List Event) → es ≡ fs → Grows alone May c h later es → Grows alone May c h later fs
  grows_as May h later es fs same one = subst (λ xs. Grows alone May c h later xs) same one

-- others did nothing, and the call's own events come at once
pub calls_now : {S P : Type 0} (Stands : S → P → ℕ → List Event → Type 0) (alone : Type 0) (May : Event → Type 0) (c : ℕ) (hub : S) (pass : P) (h events : List Event) (Says : List Event → Type 0) → Says h → Stands hub pass c (h ++ events) → Calls Stands alone May c hub pass h events Says
calls_now Stands alone May c hub pass h events Says says stands = record { mid = h; others = grows_none alone c May h; says = says; stands = stands }

-- ---- what stays

-- an event that opens no view and shuts none
abbrev pub KeepsView : Event → Type 0
KeepsView (Accept by change) = Unit {0}
KeepsView (Ask by) = Unit {0}
KeepsView (Took by r) = Unit {0}
KeepsView (Back by r) = Unit {0}
KeepsView (Done by r) = Unit {0}
KeepsView (Publish p) = Unit {0}
KeepsView (Open by p) = ⊥
KeepsView (Shut by) = ⊥
KeepsView (Floor f) = Unit {0}

others_view : (views : List (Option ℕ)) (c by : ℕ) (v : Option ℕ) → ⊥ ⊎ ((c == by) ≡ false) → get_or (set views by v) c None ≡ get_or views c None
others_view views c by v (inl no₁) = absurd no₁
others_view views c by v (inr other) = get_or-set_other views by c v None (λ same. true≢false (sym (eq-eqb c c refl) ∙ ap (λ n. c == n) same ∙ other))

view_after : (s : State) (e : Event) (c : ℕ) → KeepsView e ⊎ (is_by c (maker e) ≡ false) → view_of (after s e) c ≡ view_of s c
view_after s (Accept by change) c keeps = refl
view_after s (Ask by) c keeps = refl
view_after s (Took by r) c keeps = refl
view_after s (Back by r) c keeps = refl
view_after s (Done by r) c keeps = refl
view_after s (Publish p) c keeps = refl
view_after s (Open by p) c keeps = others_view s.views c by (Some p) keeps
view_after s (Shut by) c keeps = others_view s.views c by None keeps
view_after s (Floor f) c keeps = refl

view_step : (c : ℕ) (s later : State) (e : Event) (rest : List Event) (b : Bool) → is_by c (maker e) ≡ b → (AllByRecursion KeepsView rest → view_of later c ≡ view_of (after s e) c) → AllByRecursion KeepsView (cond b (e ∷ rest) rest) → view_of later c ≡ view_of s c
view_step c s later e rest true is so all = so all.1 ∙ view_after s e c (inl all.0)
view_step c s later e rest false is so all = so all ∙ view_after s e c (inr is)

view_same : (c : ℕ) (s : State) (more : List Event) → AllByRecursion KeepsView (own c more) → view_of (fold after s more) c ≡ view_of s c
view_same c s [] all = refl
view_same c s (e ∷ more) all = view_step c s (fold after (after s e) more) e (own c more) (is_by c (maker e)) refl (view_same c (after s e) more) all

module _ (callers : ℕ) (alone : Type 0) (May : Event → Type 0) (c : ℕ) (h later es : List Event) (grows : Grows alone May c h later es) where
  -- the caller's view stays where its own events keep it
  pub view_grows : AllByRecursion KeepsView es → view_of (state callers later) c ≡ view_of (state callers h) c
  view_grows all =
      ap (λ g. view_of (state callers g) c) grows.after_is ∙ ap (λ s. view_of s c) (state-append callers h grows.more)
      ∙ view_same c (state callers h) grows.more (subst (AllByRecursion KeepsView) (sym grows.own_is) all)

  pub rises : (set : Settings) → Lawful set callers later → (ready (state callers h) ≤ ready (state callers later)) × ((state callers h).published ≤ (state callers later).published)
  rises set law =
      let all = never_falls set callers h grows.more (subst (Lawful set callers) grows.after_is law) in
      subst (λ g. (ready (state callers h) ≤ ready (state callers g)) × ((state callers h).published ≤ (state callers g).published)) (sym grows.after_is) (all.0, all.1)

  pub more_accepted : accepted later ≡ accepted h ++ accepted grows.more
  more_accepted = ap accepted grows.after_is ∙ accepted-append h grows.more

  pub no_fewer : length (accepted h) ≤ length (accepted later)
  no_fewer = let e = ap length more_accepted in let f = length-append (accepted h) (accepted grows.more) in omega (arith, e, f)

pub accepted_more : (c : ℕ) (change : Change) (h : List Event) → length (accepted (h ++ Accept c change ∷ [])) ≡ length (accepted h) + 1
accepted_more c change h = ap length (accepted-append h (Accept c change ∷ [])) ∙ length-append (accepted h) (change ∷ [])
