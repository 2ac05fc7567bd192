-- Changes that were worked out by hand: a file put twice, a file put, dropped and put again, two gates of one project.
use Rattle.std.specs.Prelude.{◌≡◌, ℕ, List, [], ◌∷◌, codes}
use Rattle.cq_base.specs.declared.change.Change.{Change}
use Rattle.cq_base.specs.declared.change.Change.TheVariants.{Put, Drop, Gate}
use Rattle.cq_base.specs.declared.lang.Lang.TheVariants.{Any}
use Rattle.cq_shorten.specs.Needed.{needed, needed_changes, needed_lines}

abbrev put : List ℕ → List ℕ → Change
put path text = Put (codes "p") path Any text

-- t is put, u is put, t is put again, p and q get gates, u is dropped, p gets another gate, u is put again
abbrev pub many_changes : List Change
many_changes =
    put (codes "t") (codes "1") ∷ put (codes "u") (codes "2") ∷ put (codes "t") (codes "3") ∷ Gate (codes "p") [] ∷ Gate (codes "q") []
    ∷ Drop (codes "p") (codes "u") ∷ Gate (codes "p") [] ∷ put (codes "u") (codes "4") ∷ []

pub record IsNeededAsWorkedOut : Type 0 where
  pub numbers : needed many_changes ≡ 3 ∷ 5 ∷ 7 ∷ 8 ∷ []
  pub changes : needed_changes many_changes ≡ put (codes "t") (codes "3") ∷ Gate (codes "q") [] ∷ Gate (codes "p") [] ∷ put (codes "u") (codes "4") ∷ []
  pub lines : needed_lines many_changes (codes "a" ∷ codes "b" ∷ codes "c" ∷ codes "d" ∷ codes "e" ∷ codes "f" ∷ codes "g" ∷ codes "h" ∷ []) ≡ codes "c" ∷ codes "e" ∷ codes "g" ∷ codes "h" ∷ []
  pub nothing : needed [] ≡ []
  -- a file that is dropped and its drop are not needed
  pub dropped : needed (put (codes "t") [] ∷ Drop (codes "p") (codes "t") ∷ []) ≡ []
