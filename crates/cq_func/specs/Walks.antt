-- A walk along the tokens of a file, with the bodies that are open: the last that began is on top.
use Rattle.std.specs.Prelude.{◌≡◌, ℕ, ◌+◌, ◌<◌, ◌≤◌, ◌==◌, ◌&&◌, nat_lt, List, [], ◌∷◌, length, slice_index, slice_set, count_by, All, Contains, if◌then◌else◌}
use Rattle.std.specs.List.{range_with_len}
use Rattle.cq_base.specs.declared.lang.Lang.{Lang}
use Rattle.cq_base.specs.declared.token.Spelled.{Spelled}
use Rattle.cq_func.specs.declared.found.Found.{Found}
use Rattle.cq_func.specs.Functions.{decides, is_own}

-- Bodies of functions never cross: of one that begins inside another, all is inside. Two with one beginning end together.
pub record AreBodies (many : ℕ) (fs : List Found) : Type 0 where
  pub within : (f : Found) → Contains fs f → (f.name < many) × (f.brace < many) × (f.close < many)
  pub ordered : (f : Found) → Contains fs f → f.brace < f.close
  pub same : (f g : Found) → Contains fs f → Contains fs g → f.brace ≡ g.brace → f.close ≡ g.close
  pub nested : (f g : Found) → Contains fs f → Contains fs g → f.brace < g.brace → g.brace ≤ f.close → g.close < f.close

-- for each place at which a body begins, where it ends, and for each other place the number of places
pub record AreCloses (fs : List Found) (many : ℕ) (closes : List ℕ) : Type 0 where
  pub long : length closes ≡ many
  pub each : (f : Found) → Contains fs f → slice_index closes f.brace ≡ f.close
  pub only : (at : ℕ) → at < many → slice_index closes at < many → (f : Found) × Contains fs f × (f.brace ≡ at)

-- ---- what one token does

-- a decision counts for the body on top
abbrev pub noted : List ℕ → List ℕ → List ℕ
noted [] own = own
noted (top ∷ rest) own = slice_set own top (slice_index own top + 1)

-- the body on top ends, if it ends here
abbrev pub popped : List ℕ → ℕ → List ℕ → List ℕ
popped closes at [] = []
popped closes at (top ∷ rest) = if slice_index closes top == at then rest else top ∷ rest

-- a body begins, or the one on top may end
abbrev pub moved : List ℕ → ℕ → List ℕ → List ℕ
moved closes at stack = if nat_lt (slice_index closes at) (length closes) then at ∷ stack else popped closes at stack

-- ---- what is so before each token

-- of the bodies that have begun before the place and have not ended, the last to begin is this one
pub record IsTop (fs : List Found) (at top : ℕ) : Type 0 where
  pub body : Found
  pub among : Contains fs body
  pub here : body.brace ≡ top
  pub begun : top < at
  pub still : at ≤ body.close
  pub last : (f : Found) → Contains fs f → f.brace < at → at ≤ f.close → f.brace ≤ top

-- what lies below it was so when it began
abbrev pub IsStack : List Found → ℕ → List ℕ → Type 0
IsStack fs at [] = (f : Found) → Contains fs f → f.brace < at → at ≤ f.close → ⊥
IsStack fs at (top ∷ rest) = IsTop fs at top × IsStack fs top rest

-- how many of the tokens before the place decide and are a function's own
abbrev pub own_before : Lang → List Spelled → List Found → Found → ℕ → ℕ
own_before l ts fs f at = count_by (λ k. decides l ts k && is_own fs f k) (range_with_len 0 at)

pub record AreOwn (l : Lang) (ts : List Spelled) (fs : List Found) (at : ℕ) (own : List ℕ) : Type 0 where
  pub long : length own ≡ length ts
  pub each : (f : Found) → Contains fs f → slice_index own f.brace ≡ own_before l ts fs f at
  pub few : All (λ n. n ≤ at) own
