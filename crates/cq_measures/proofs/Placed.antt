-- The extents of places lie in the files of the places.
use Rattle.std.proofs.Common.{ℕ, ◌<◌, ◌≤◌, List, [], ◌∷◌, map, length, Contains, refl, arith}
use Rattle.std.proofs.lemmas.List.Elements.{All-nil, All-append, All-map, All-weaker, All-contains_itself, Contains-append_right}
use Rattle.std.proofs.lemmas.List.{length-map}
use Rattle.cq_base.specs.declared.token.Token.{Token}
use Rattle.cq_base.specs.declared.group.Place.{Place}
use Rattle.cq_base.specs.declared.group.Group.{Group}
use Rattle.cq_measures.specs.declared.extent.FileLines.{FileLines}
use Rattle.cq_measures.specs.Measures.{extent_of, extents_of, spans_of, IsInside, IsGroupInside}
use Rattle.cq_measures.specs.Sorted.{AreBelow}

pub extents_below : (n : ℕ) (spans : List (List Token)) (groups : List Group) → length spans ≤ n → ((g : Group) → Contains groups g → IsGroupInside spans g) → AreBelow n (extents_of spans groups)
extents_below n spans [] few inside = All-nil (λ e. e.file < n)
extents_below n spans (g ∷ groups) few inside =
    All-append (λ e. e.file < n) (map (extent_of spans g.tokens) g.places) (extents_of spans groups)
    (All-map (λ e. e.file < n) (extent_of spans g.tokens) g.places (All-weaker (λ p. Contains g.places p) (λ p. p.file < n) (λ p here. below n spans g.tokens p few ((inside g (0, omega arith, refl)).1 p here)) g.places (All-contains_itself g.places)))
    (extents_below n spans groups few (λ h there. inside h (Contains-append_right (g ∷ []) groups h there)))
  where
    below : (n : ℕ) (spans : List (List Token)) (tokens : ℕ) (p : Place) → length spans ≤ n → IsInside spans tokens p → p.file < n
    below n spans tokens p few at = let first = at.0 in omega (arith, few, first)

pub extents_of_files : (n : ℕ) (files : List FileLines) (groups : List Group) → length files ≤ n → ((g : Group) → Contains groups g → IsGroupInside (spans_of files) g) → AreBelow n (extents_of (spans_of files) groups)
extents_of_files n files groups few inside =
    let as_many = length-map files (λ f. f.spans.now) in
    extents_below n (spans_of files) groups (omega (arith, as_many, few)) inside
