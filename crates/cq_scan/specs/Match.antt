-- What two places have in common.
use Rattle.std.specs.Prelude.{◌≡◌, ℕ, ◌+◌, ◌≤◌, List, length}
use Rattle.cq_base.specs.declared.group.Place.{Place}
use Rattle.cq_clones.specs.Groups.{file_at, word_at, token_behind, token_before, AreSame}

-- the tokens `n` after two places are there and equal
abbrev pub AreSameBehind : {T : Type 0} → List (List T) → Place → Place → ℕ → Type 0
AreSameBehind corpus p q n = AreSame (token_behind corpus p n) (token_behind corpus q n)

-- the tokens before two places are there and equal
abbrev pub AreSameBefore : {T : Type 0} → List (List T) → Place → Place → Type 0
AreSameBefore corpus p q = AreSame (token_before corpus p) (token_before corpus q)

-- the same `n` tokens are at both places, and the tokens after them differ or one is missing
pub record Matches {T : Type 0} (corpus : List (List T)) (p q : Place) (n : ℕ) : Type 0 where
  pub first : p.at + n ≤ length (file_at corpus p.file)
  pub second : q.at + n ≤ length (file_at corpus q.file)
  pub equal : word_at corpus p n ≡ word_at corpus q n
  pub right : ¬ AreSameBehind corpus p q n
