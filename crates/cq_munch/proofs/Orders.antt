-- Units one after the other.
use Rattle.std.proofs.Common.{◌≡◌, ℕ, zero, suc, ◌+◌, ◌-◌, ◌<◌, ◌≤◌, List, [], ◌∷◌, length, take, drop, sym, ap, subst, arith}
use Rattle.cq_munch.specs.declared.unit.Unit.{Unit}
use Rattle.cq_munch.specs.Lexed.{InOrder, unit_at, end_of}

pub InOrder-from : (a b : ℕ) (units : List Unit) (to : ℕ) → a ≤ b → InOrder b units to → InOrder a units to
InOrder-from a b [] to h order = omega arith
InOrder-from a b (u ∷ units) to h order = (omega (arith, order.0), order.1, order.2)

pub InOrder-end : (from : ℕ) (units : List Unit) (to : ℕ) → InOrder from units to → from ≤ to
InOrder-end from [] to order = order
InOrder-end from (u ∷ units) to order = let e = InOrder-end (u.start + u.len) units to order.2 in omega (arith, e, order.0)

pub InOrder-take : (n from : ℕ) (units : List Unit) (to : ℕ) → InOrder from units to → InOrder from (take n units) to
InOrder-take zero from units to order = InOrder-end from units to order
InOrder-take (suc n) from [] to order = order
InOrder-take (suc n) from (u ∷ units) to order = (order.0, order.1, InOrder-take n (u.start + u.len) units to order.2)

pub InOrder-drop : (n from : ℕ) (units : List Unit) (to : ℕ) → InOrder from units to → InOrder from (drop n units) to
InOrder-drop zero from units to order = order
InOrder-drop (suc n) from [] to order = order
InOrder-drop (suc n) from (u ∷ units) to order =
    InOrder-from from (u.start + u.len) (drop n units) to (omega (arith, order.0)) (InOrder-drop n (u.start + u.len) units to order.2)

pub InOrder-part : (n at from : ℕ) (units : List Unit) (to : ℕ) → InOrder from units to → InOrder from (take n (drop at units)) to
InOrder-part n at from units to order = InOrder-take n from (drop at units) to (InOrder-drop at from units to order)

-- the end of two or more is the end of all but the first
end-cons : (u v : Unit) (units : List Unit) → end_of (u ∷ v ∷ units) ≡ end_of (v ∷ units)
end-cons u v units =
    let place : length (u ∷ v ∷ units) - 1 ≡ suc (length (v ∷ units) - 1) = omega arith in
    ap (λ k. (unit_at (u ∷ v ∷ units) k).start + (unit_at (u ∷ v ∷ units) k).len) place

-- there are at least as many bytes
pub InOrder-long : (from : ℕ) (units : List Unit) (to : ℕ) → InOrder from units to → from + length units ≤ to
InOrder-long from [] to order = omega (arith, order)
InOrder-long from (u ∷ units) to order = let rest = InOrder-long (u.start + u.len) units to order.2 in omega (arith, rest, order.0, order.1)

-- from the start of the first to the end of the last
pub InOrder-tight : (from : ℕ) (units : List Unit) (to : ℕ) → InOrder from units to → 0 < length units → InOrder (unit_at units 0).start units (end_of units)
InOrder-tight from [] to order some = absurd (omega arith)
InOrder-tight from (u ∷ []) to order some = (omega arith, order.1, omega arith)
InOrder-tight from (u ∷ v ∷ units) to order some = (
  omega arith,
  order.1,
  subst (λ e. InOrder (u.start + u.len) (v ∷ units) e) (sym (end-cons u v units))
      (InOrder-from (u.start + u.len) v.start (v ∷ units) (end_of (v ∷ units)) order.2.0 (InOrder-tight (u.start + u.len) (v ∷ units) to order.2 (omega arith))),
)

-- the first starts after `from` and before the end of the last, which is within
pub InOrder-ends : (from : ℕ) (units : List Unit) (to : ℕ) → InOrder from units to → 0 < length units
    → (from ≤ (unit_at units 0).start) × ((unit_at units 0).start < end_of units) × (end_of units ≤ to)
InOrder-ends from [] to order some = absurd (omega arith)
InOrder-ends from (u ∷ []) to order some = (order.0, omega (arith, order.1), order.2)
InOrder-ends from (u ∷ v ∷ units) to order some =
    let rest = InOrder-ends (u.start + u.len) (v ∷ units) to order.2 (omega arith) in
    let same = end-cons u v units in
    (order.0, omega (arith, same, rest.0, rest.1, order.1), omega (arith, same, rest.2))

-- what is left starts after the end of what was taken
pub InOrder-behind : (n from : ℕ) (units : List Unit) (to : ℕ) → 0 < n → n ≤ length units → InOrder from units to → InOrder (end_of (take n units)) (drop n units) to
InOrder-behind zero from units to some within order = absurd (omega arith)
InOrder-behind (suc n) from [] to some within order = absurd (omega arith)
InOrder-behind (suc zero) from (u ∷ units) to some within order = order.2
InOrder-behind (suc (suc n)) from (u ∷ []) to some within order = absurd (omega arith)
InOrder-behind (suc (suc n)) from (u ∷ v ∷ units) to some within order =
    subst (λ e. InOrder e (drop (suc n) (v ∷ units)) to) (sym (end-cons u v (take n units)))
    (InOrder-behind (suc n) (u.start + u.len) (v ∷ units) to (omega arith) (omega arith) order.2)

pub InOrder-to : (from : ℕ) (units : List Unit) (to more : ℕ) → to ≤ more → InOrder from units to → InOrder from units more
InOrder-to from [] to more h order = omega arith
InOrder-to from (u ∷ units) to more h order = (order.0, order.1, InOrder-to (u.start + u.len) units to more h order.2)
