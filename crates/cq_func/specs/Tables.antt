-- What is looked up of each token, as lists of numbers.
use Rattle.std.specs.Prelude.{◌≡◌, ℕ, ◌<◌, ◌≤◌, ◌==◌, List, length, map, slice_index, codes, if◌then◌else◌}
use Rattle.std.specs.List.{range_with_len}
use Rattle.cq_base.specs.declared.lang.Lang.{Lang}
use Rattle.cq_base.specs.declared.lang.Lang.TheVariants as lang
use Rattle.cq_base.specs.declared.token.Spelled.{Spelled}
use Rattle.cq_func.specs.declared.brackets.Kind.{Kind}
use Rattle.cq_func.specs.declared.brackets.Kind.TheVariants as kind
use Rattle.cq_func.specs.Places.{place_above, place_below}
use Rattle.cq_func.specs.Brackets.{stands, partner}
use Rattle.cq_func.specs.Names.{go_func, go_end, go_open}

-- at each place below `many` there is the function of that place
pub record Tells (f : ℕ → ℕ) (many : ℕ) (table : List ℕ) : Type 0 where
  pub long : many ≤ length table
  pub each : (at : ℕ) → at < many → slice_index table at ≡ f at

abbrev pub ArePartners : Lang → Kind → List Spelled → List ℕ → Type 0
ArePartners l k ts table = Tells (partner l k ts) (length ts) table

-- for each place the least above it whose mark is what it looks for
abbrev pub AreAbove : List ℕ → List ℕ → List ℕ → Type 0
AreAbove wanted marks table =
    Tells (λ at. place_above (λ j. slice_index marks j == slice_index wanted at) at (length marks)) (length marks) table

-- for each number below `width` the least place with that mark
abbrev pub AreFirst : List ℕ → ℕ → List ℕ → Type 0
AreFirst marks width table = Tells (λ v. place_below (λ j. slice_index marks j == v) (length marks)) width table

-- what a mark says about each token
abbrev pub marks_by : (ℕ → ℕ) → List Spelled → List ℕ
marks_by mark ts = map mark (range_with_len 0 (length ts))

-- ---- Go
abbrev pub AreEnds : List Spelled → List ℕ → Type 0
AreEnds ts table = Tells (go_end ts) (length ts) table

-- the partner of each brace that opens, and the number of tokens for another token
abbrev pub open_mark : List Spelled → ℕ → ℕ
open_mark ts at = if stands lang.Go ts at (codes "{") then partner lang.Go kind.Curly ts at else length ts

abbrev pub AreOpens : List Spelled → List ℕ → Type 0
AreOpens ts table = Tells (go_open ts) (length ts) table

abbrev pub AreFuncs : List Spelled → List ℕ → Type 0
AreFuncs ts table = Tells (go_func ts) (length ts) table
