-- Things that are in the order of a text of theirs, and where a text belongs among them.
use Rattle.std.specs.Prelude.{◌≡◌, ℕ, List, [], ◌∷◌, ◌++◌, length, true}
use Rattle.std.specs.List.{AllByRecursion}
use Rattle.cq_history.specs.Files.{is_before}

module _ {X : Type 0} (text : X → List ℕ) where
  -- each one's text is before those of all later ones
  abbrev pub AreRising : List X → Type 0
  AreRising [] = Unit {0}
  AreRising (x ∷ xs) = AllByRecursion (λ (y : X). is_before (text x) (text y) ≡ true) xs × AreRising xs

  abbrev pub AreBelow : List ℕ → List X → Type 0
  AreBelow p xs = AllByRecursion (λ (x : X). is_before (text x) p ≡ true) xs

  abbrev pub AreAbove : List ℕ → List X → Type 0
  AreAbove p xs = AllByRecursion (λ (x : X). is_before p (text x) ≡ true) xs

  -- the one at the index has the text
  pub record IsAt (p : List ℕ) (xs : List X) (i : ℕ) : Type 0 where
    pub before : List X
    pub item : X
    pub after : List X
    pub is : xs ≡ before ++ item ∷ after
    pub index : length before ≡ i
    pub same : text item ≡ p
    pub low : AreBelow p before
    pub high : AreAbove p after

  -- none has it, and it belongs at the index
  pub record IsGap (p : List ℕ) (xs : List X) (i : ℕ) : Type 0 where
    pub before : List X
    pub after : List X
    pub is : xs ≡ before ++ after
    pub index : length before ≡ i
    pub low : AreBelow p before
    pub high : AreAbove p after
