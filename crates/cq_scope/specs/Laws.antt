-- What stars mean, stated with fronts of a list.
use Rattle.std.specs.Prelude.{◌≡◌, ◌↔◌, ℕ, List, ◌∷◌, ◌++◌, Bool, IsTrue, codes}
use Rattle.cq_scope.specs.Fits.{part_fits, parts_fit}

-- it has a front, of any length, after which all passes
abbrev pub HasFrontBefore : {X : Type 0} → (List X → Bool) → List X → Type 0
HasFrontBefore {X} passes xs = (front : List X) × (back : List X) × (xs ≡ front ++ back) × IsTrue (passes back)

-- `*` stands for any characters of a part, or none
abbrev pub StarTakesAnyFront : Type 0
StarTakesAnyFront = (symbols name : List ℕ) → IsTrue (part_fits (42 ∷ symbols) name) ↔ HasFrontBefore (part_fits symbols) name

-- `**` stands for any parts, or none
abbrev pub TwoStarsTakeAnyParts : Type 0
TwoStarsTakeAnyParts = (pattern path : List (List ℕ)) → IsTrue (parts_fit (codes "**" ∷ pattern) path) ↔ HasFrontBefore (parts_fit pattern) path
