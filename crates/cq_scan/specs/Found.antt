-- The groups that a listing has found so far, by the pairs of places that it has compared.
use Rattle.std.specs.Prelude.{◌≡◌, ◌⊎◌, ℕ, List, AllPairs, Contains}
use Rattle.cq_base.specs.declared.group.Place.{Place}
use Rattle.cq_base.specs.declared.group.Group.{Group}
use Rattle.cq_clones.specs.Lists.{AreAllInOrder}
use Rattle.cq_clones.specs.Groups.{IsPlace, IsBefore, StandsAt, word_at, IsMaximalAt, IsGroup, ComesBefore}
use Rattle.cq_base.specs.Places.{first_place}
use Rattle.cq_order.specs.Order.{AreOrdered}

-- a group whose word is maximal at these two places
pub record IsGroupOf {T : Type 0} (corpus : List (List T)) (least : ℕ) (p q : Place) (group : Group) : Type 0 where
  pub is : IsGroup corpus least group
  pub pair : IsMaximalAt corpus is.word p q

-- all places of the corpus, in order
abbrev pub AreAllPlaces : {T : Type 0} → List (List T) → List Place → Type 0
AreAllPlaces corpus places = AreAllInOrder IsBefore (IsPlace corpus) places

-- the new list has what the old one has and the places of the file, in order
abbrev pub AddsPlacesOf : {T : Type 0} → List (List T) → ℕ → List Place → List Place → Type 0
AddsPlacesOf corpus file old new = AreAllInOrder IsBefore (λ z. Contains old z ⊎ (IsPlace corpus z × (z.file ≡ file))) new

-- all places at which the `n` tokens from this one on occur, in order
abbrev pub AreOccurrences : {T : Type 0} → List (List T) → Place → ℕ → List Place → Type 0
AreOccurrences corpus p n places = AreAllInOrder IsBefore (StandsAt corpus (word_at corpus p n)) places

-- these two places
abbrev pub IsPair : Place → Place → Place → Place → Type 0
IsPair p q a b = (a ≡ p) × (b ≡ q)

-- the first place and a later one
abbrev pub IsPairFrom : Place → Place → Place → Type 0
IsPairFrom p a b = (a ≡ p) × IsBefore p b

-- a group whose word is maximal at some two places of a kind
pub record IsFoundBy {T : Type 0} (corpus : List (List T)) (least : ℕ) (Pairs : Place → Place → Type 0) (group : Group) : Type 0 where
  pub p : Place
  pub q : Place
  pub pair : Pairs p q
  pub group_of : IsGroupOf corpus least p q group

-- groups of the corpus, no two of which tie in their order
pub record AreFound {T : Type 0} (corpus : List (List T)) (least : ℕ) (groups : List Group) : Type 0 where
  pub ordered : AllPairs (AreOrdered ComesBefore) groups
  pub each : (g : Group) → Contains groups g → IsGroup corpus least g

-- the `n` tokens from the first place on are maximal at both
abbrev pub IsMaximalWord : {T : Type 0} → List (List T) → ℕ → Place → Place → Type 0
IsMaximalWord corpus n p q = IsMaximalAt corpus (word_at corpus p n) p q

-- the new list has what the old one has and the groups with the property, each once
abbrev pub Adds : (Group → Type 0) → List Group → List Group → Type 0
Adds Is old new = AreAllInOrder (AreOrdered ComesBefore) (λ g. Contains old g ⊎ Is g) new

-- both begin at the same place and are equally long
abbrev pub AreTied : Group → Group → Type 0
AreTied g h = (first_place g ≡ first_place h) × (g.tokens ≡ h.tokens)

-- the group's tokens are as many as these at the place, and the same
abbrev pub IsOfWord : {T : Type 0} → List (List T) → Place → ℕ → Group → Type 0
IsOfWord corpus p n g = (g.tokens ≡ n) × (word_at corpus (first_place g) n ≡ word_at corpus p n)
