-- Changes that were worked out by hand: a file put twice, two gates, and the file dropped.
use Rattle.std.specs.Prelude.{◌≡◌, List, [], ◌∷◌, codes}
use Rattle.cq_base.specs.declared.lang.Lang.TheVariants.{Any}
use Rattle.cq_base.specs.declared.change.Change.{Change}
use Rattle.cq_base.specs.declared.change.Change.TheVariants.{Put, Drop, Gate}
use Rattle.cq_history.specs.Gone.{kept_numbers, kept_count, kept_bytes}

abbrev pub kept_script : List Change
kept_script = Put (codes "p") (codes "t") Any (codes "abc") ∷ Put (codes "p") (codes "t") Any (codes "de") ∷ Gate (codes "p") [] ∷ Gate (codes "p") [] ∷ Gate (codes "q") [] ∷ Drop (codes "p") (codes "t") ∷ []

pub record IsKeptAsWorkedOut : Type 0 where
  pub all : kept_numbers kept_script 0 ≡ 1 ∷ 2 ∷ 3 ∷ 4 ∷ 5 ∷ 6 ∷ []
  -- the second put is above this floor, so the first one is still needed
  pub first : kept_numbers kept_script 1 ≡ 1 ∷ 2 ∷ 3 ∷ 4 ∷ 5 ∷ 6 ∷ []
  pub second : kept_numbers kept_script 2 ≡ 2 ∷ 3 ∷ 4 ∷ 5 ∷ 6 ∷ []
  pub gate : kept_numbers kept_script 3 ≡ 2 ∷ 3 ∷ 4 ∷ 5 ∷ 6 ∷ []
  pub gate_replaced : kept_numbers kept_script 4 ≡ 2 ∷ 4 ∷ 5 ∷ 6 ∷ []
  pub other_gate : kept_numbers kept_script 5 ≡ 2 ∷ 4 ∷ 5 ∷ 6 ∷ []
  pub dropped : kept_numbers kept_script 6 ≡ 4 ∷ 5 ∷ []
  pub count : kept_count kept_script 4 ≡ 4
  pub bytes_first : kept_bytes kept_script 1 ≡ 5
  pub bytes_second : kept_bytes kept_script 2 ≡ 2
  pub bytes_dropped : kept_bytes kept_script 6 ≡ 0
