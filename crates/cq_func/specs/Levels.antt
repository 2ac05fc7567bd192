-- Levels of brackets, by which partners are found: two places have one level if the tokens between them hold equally
-- many openings and closings.
use Rattle.std.specs.Prelude.{◌≡◌, ℕ, ◌+◌, ◌-◌, ◌*◌, ◌≤◌, List, length, slice_index, count_by, codes, if◌then◌else◌}
use Rattle.cq_base.specs.declared.lang.Lang.{Lang}
use Rattle.cq_base.specs.declared.lang.Lang.TheVariants as lang
use Rattle.cq_base.specs.declared.token.Spelled.{Spelled}
use Rattle.cq_func.specs.declared.brackets.Kind.{Kind}
use Rattle.cq_func.specs.declared.brackets.Kind.TheVariants as kind
use Rattle.cq_func.specs.Brackets.{opens, closes, stands, before}

-- before a place: the number of tokens, so that it is never below 0, and the openings less the closings
unfoldable pub level : Lang → Kind → List Spelled → ℕ → ℕ
level l k ts at = length ts + count_by (opens l k) (before ts at) - count_by (closes l k) (before ts at)

-- those before each token, and after the last
pub record AreLevels (l : Lang) (k : Kind) (ts : List Spelled) (levels : List ℕ) : Type 0 where
  pub many : length levels ≡ length ts + 1
  pub each : (at : ℕ) → at ≤ length ts → slice_index levels at ≡ level l k ts at

-- a semicolon of Go has the level of all brackets, and another token a number that is no level
abbrev pub end_mark : List Spelled → ℕ → ℕ
end_mark ts at = if stands lang.Go ts at (codes ";") then level lang.Go kind.All ts at else 2 * length ts + 1
