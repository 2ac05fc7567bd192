-- The changes that put some files.
use Rattle.std.proofs.Common.{Global, ◌≡◌, ℕ, zero, suc, ◌<◌, List, [], ◌∷◌, length, map, get_or, slice_get, Some, refl, sym, ap, arith}
use Rattle.std.specs.Arc.{arc_value}
use Rattle.std.specs.declared.sync.Arc.{Arc}
use Rattle.cq_history.specs.Files.{File}
use Rattle.cq_projects.specs.Spotted.{numbers_of}

module _ {W : Type 0} where
  -- the number of the change that put the file at a position
  pub number_read : (hs : List (Arc (File W) Global)) (i : ℕ) (h : Arc (File W) Global) → i < length hs → h ≡ get_or hs i h → slice_get (numbers_of (map arc_value hs)) i ≡ Some (arc_value h).number
  number_read [] i h within is = absurd (omega (arith, within))
  number_read (k ∷ hs) zero h within is = ap (λ (x : Arc (File W) Global). Some (arc_value x).number) (sym is)
  number_read (k ∷ hs) (suc i) h within is = number_read hs i h (omega (arith, within)) is

  pub length_numbers : (hs : List (Arc (File W) Global)) → length (numbers_of (map arc_value hs)) ≡ length hs
  length_numbers [] = refl
  length_numbers (h ∷ hs) = ap suc (length_numbers hs)
