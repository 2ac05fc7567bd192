-- Which paths fit a pattern. Both are parts, and a part is characters; parts and characters are compared by one rule.
use Rattle.std.specs.Prelude.{◌&&◌, ◌||◌, ◌==◌, ℕ, List, [], ◌∷◌, Bool, true, false, if◌then◌else◌, codes}
use Rattle.std.specs.List.{list_any}
use Rattle.std.specs.Str.{chars, bytes_eq}
use Rattle.cq_names.specs.Names.{parts}

-- what follows in a list: all of it, what comes after its first element, and so on, and nothing at last
abbrev pub suffixes : {X : Type 0} → List X → List (List X)
suffixes [] = [] ∷ []
suffixes (x ∷ xs) = (x ∷ xs) ∷ suffixes xs

abbrev pub is_nothing : {X : Type 0} → List X → Bool
is_nothing [] = true
is_nothing (x ∷ xs) = false

-- there is a first element, which fits, and the rest fits after it
abbrev pub begins : {X : Type 0} → (X → Bool) → (List X → Bool) → List X → Bool
begins first rest [] = false
begins first rest (x ∷ xs) = first x && rest xs

-- a star and a rest fit if the rest fits what follows somewhere; anything else and a rest fit if both fit
abbrev pub leads : {X : Type 0} → Bool → (X → Bool) → (List X → Bool) → List X → Bool
leads is_star first rest xs = if is_star then list_any rest (suffixes xs) else begins first rest xs

-- `?` (63) fits any one character, and another character fits itself
abbrev pub one_fits : ℕ → ℕ → Bool
one_fits symbol c = symbol == 63 || symbol == c

-- characters of a part: nothing fits nothing, and `*` (42) is a star
abbrev pub part_fits : List ℕ → List ℕ → Bool
part_fits [] = is_nothing
part_fits (symbol ∷ symbols) = leads (symbol == 42) (one_fits symbol) (part_fits symbols)

-- a part of a path fits a part of a pattern, character by character
abbrev pub name_fits : List ℕ → List ℕ → Bool
name_fits part name = part_fits (chars part) (chars name)

-- parts: no parts fit no parts, and `**` is a star
abbrev pub parts_fit : List (List ℕ) → List (List ℕ) → Bool
parts_fit [] = is_nothing
parts_fit (part ∷ rest) = leads (bytes_eq part (codes "**")) (name_fits part) (parts_fit rest)

-- a path fits a pattern
abbrev pub fits : List ℕ → List ℕ → Bool
fits pattern path = parts_fit (parts pattern) (parts path)
