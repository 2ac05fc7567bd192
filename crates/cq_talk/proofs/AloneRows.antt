-- Where nobody else calls the hub, and nothing may come, a history has just the caller's events more.
use Rattle.std.proofs.Common.{◌≡◌, ◌⊎◌, ℕ, true, cond, List, [], ◌∷◌, ◌++◌, Some, refl, sym, ap, ◌∙◌, inl, inr, append-nil, eq-eqb}
use Rattle.std.specs.List.{AllByRecursion}
use Rattle.cq_history.specs.declared.event.Event.{Event}
use Rattle.cq_history.specs.State.{own, maker, is_by}
use Rattle.cq_hub.specs.Hubs.{Grows, Never}

mine : (c : ℕ) (e : Event) → maker e ≡ Some c → is_by c (maker e) ≡ true
mine c e is = ap (is_by c) is ∙ eq-eqb c c refl

-- all of them are the caller's
alone_own : (c : ℕ) (more : List Event) → AllByRecursion (λ (e : Event). (maker e ≡ Some c) ⊎ Never e) more → own c more ≡ more
alone_own c [] all = refl
alone_own c (e ∷ more) all =
    let is : maker e ≡ Some c = elim all.0 [ inl is ↦ is | inr never ↦ absurd never ] in
    ap (λ b. cond b (e ∷ own c more) (own c more)) (mine c e is) ∙ ap (λ es. e ∷ es) (alone_own c more all.1)

pub alone_exact : (c : ℕ) (h later es : List Event) → Grows (Unit {0}) Never c h later es → later ≡ h ++ es
alone_exact c h later es grows = grows.after_is ∙ ap (λ xs. h ++ xs) (sym (alone_own c grows.more (grows.alone_is tt)) ∙ grows.own_is)

pub alone_same : (c : ℕ) (h later : List Event) → Grows (Unit {0}) Never c h later [] → later ≡ h
alone_same c h later grows = alone_exact c h later [] grows ∙ append-nil h
