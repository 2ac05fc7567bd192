-- Which puts a floor forgets: those that a later change of their file, numbered at most the floor, replaced or dropped.
use Rattle.std.specs.Prelude.{◌≡◌, ◌↔◌, ℕ, ◌<◌, ◌≤◌, true, List, Contains, Some}
use Rattle.std.specs.List.Sorted.{IsStrictlyIncreasing}
use Rattle.cq_base.specs.declared.lang.Lang.{Lang}
use Rattle.cq_base.specs.declared.change.Change.{Change}
use Rattle.cq_base.specs.declared.change.Change.TheVariants.{Put}
use Rattle.cq_history.specs.Changes.{change_at, is_of_file, IsNumber}

-- the change of this number is a put, and a later change numbered at most the floor puts or drops its file
pub record IsSuperseded (changes : List Change) (floor number : ℕ) : Type 0 where
  pub project : List ℕ
  pub path : List ℕ
  pub lang : Lang
  pub text : List ℕ
  pub later : ℕ
  pub change : Change
  pub accepted : IsNumber changes number
  pub put : change_at changes number ≡ Some (Put project path lang text)
  pub behind : number < later
  pub within : later ≤ floor
  pub next : change_at changes later ≡ Some change
  pub same_file : is_of_file project path change ≡ true

-- the numbers of exactly these puts, ascending
pub record AreSuperseded (changes : List Change) (floor : ℕ) (dead : List ℕ) : Type 0 where
  pub rising : IsStrictlyIncreasing dead
  pub each : (number : ℕ) → Contains dead number ↔ IsSuperseded changes floor number
