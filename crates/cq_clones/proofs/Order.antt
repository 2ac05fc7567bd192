-- The orders of places and of groups.
use Rattle.std.proofs.Common.{◌≡◌, ℕ, List, arith}
use Rattle.cq_base.specs.declared.group.Place.{Place}
use Rattle.cq_base.specs.declared.group.Group.{Group}
use Rattle.cq_clones.specs.Groups.{IsBefore, ComesBefore, AreGroups}
use Rattle.cq_base.specs.Places.{first_place}
use Rattle.cq_clones.proofs.InOrder.{AreAllInOrder-same}

pub IsBefore-apart : (p q : Place) → IsBefore p q → IsBefore q p → ⊥
IsBefore-apart p q a b = grind arith

pub IsBefore-trans : (p q r : Place) → IsBefore p q → IsBefore q r → IsBefore p r
IsBefore-trans p q r a b = grind arith

pub IsBefore-cases : (p q : Place) → (IsBefore p q → ⊥) → (IsBefore q p → ⊥) → p ≡ q
IsBefore-cases p q a b = grind arith

pub ComesBefore-apart : (g h : Group) → ComesBefore g h → ComesBefore h g → ⊥
ComesBefore-apart g h a b = grind arith

pub ComesBefore-trans : (f g h : Group) → ComesBefore f g → ComesBefore g h → ComesBefore f h
ComesBefore-trans f g h a b = grind arith

-- two groups that come neither before nor after each other
pub ComesBefore-ties : (g h : Group) → (ComesBefore g h → ⊥) → (ComesBefore h g → ⊥) → (first_place g ≡ first_place h) × (g.tokens ≡ h.tokens)
ComesBefore-ties g h a b = grind arith

-- a corpus has one list of groups
pub AreGroups-same : {T : Type 0} (corpus : List (List T)) (least : ℕ) (xs ys : List Group) → AreGroups corpus least xs → AreGroups corpus least ys → xs ≡ ys
AreGroups-same corpus least xs ys a b = AreAllInOrder-same ComesBefore ComesBefore-apart _ xs ys a b
