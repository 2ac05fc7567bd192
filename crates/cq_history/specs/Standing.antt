-- The files and the conditions of a project said without a fold: each path whose last put or drop is a put, in path order,
-- and the conditions of the last gate.
use Rattle.std.specs.Prelude.{◌≡◌, ◌⊎◌, ◌↔◌, ℕ, ◌<◌, true, List, [], ◌∷◌, Some}
use Rattle.std.specs.List.{AllByRecursion}
use Rattle.cq_base.specs.declared.change.Condition.{Condition}
use Rattle.cq_base.specs.declared.change.Change.{Change}
use Rattle.cq_base.specs.declared.change.Change.TheVariants.{Put, Gate}
use Rattle.cq_history.specs.Changes.{change_at, is_of_file, IsNumber}
use Rattle.cq_history.specs.Files.{Source, is_before}

-- the file is one of the list
abbrev pub Has : List Source → Source → Type 0
Has [] f = ⊥
Has (g ∷ files) f = (g ≡ f) ⊎ Has files f

-- each is before all later ones
abbrev pub AreInPathOrder : List Source → Type 0
AreInPathOrder [] = Unit {0}
AreInPathOrder (f ∷ files) = AllByRecursion (λ (g : Source). is_before f.path g.path ≡ true) files × AreInPathOrder files

-- its change put the file, and no later change puts or drops one at its path
pub record IsLastPut (changes : List Change) (q : List ℕ) (f : Source) : Type 0 where
  pub accepted : IsNumber changes f.number
  pub put : change_at changes f.number ≡ Some (Put q f.path f.lang f.body)
  pub last : (k : ℕ) (c : Change) → f.number < k → change_at changes k ≡ Some c → is_of_file q f.path c ≡ true → ⊥

-- exactly the files of the last puts, in path order
pub record AreStanding (changes : List Change) (q : List ℕ) (files : List Source) : Type 0 where
  pub ordered : AreInPathOrder files
  pub each : (f : Source) → Has files f ↔ IsLastPut changes q f

-- the change is a gate of the project, and no later one is
pub record IsLastGate (changes : List Change) (q : List ℕ) (r : ℕ) (conditions : List Condition) : Type 0 where
  pub accepted : IsNumber changes r
  pub gate : change_at changes r ≡ Some (Gate q conditions)
  pub last : (k : ℕ) (later : List Condition) → r < k → change_at changes k ≡ Some (Gate q later) → ⊥

-- those of the last gate, or none
pub record AreConditions (changes : List Change) (q : List ℕ) (conditions : List Condition) : Type 0 where
  pub last : (r : ℕ) (given : List Condition) → IsLastGate changes q r given → conditions ≡ given
  pub none : ((r : ℕ) (given : List Condition) → IsNumber changes r → change_at changes r ≡ Some (Gate q given) → ⊥) → conditions ≡ []
