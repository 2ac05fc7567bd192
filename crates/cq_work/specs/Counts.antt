-- What is counted of an uploaded text: its lines, and of all its tokens, also of those that are not listed.
use Rattle.std.specs.Prelude.{ℕ, ◌≤◌, ◌^◌, Option, Some, None, IfSome, List, [], ◌∷◌, unwrap_or}
use Rattle.cq_base.specs.Lines.{lines_of}
use Rattle.cq_base.specs.declared.lang.Lang.{Lang}
use Rattle.cq_base.specs.declared.token.Mark.{Mark}
use Rattle.cq_base.specs.declared.token.Spelled.{Spelled}
use Rattle.cq_base.specs.declared.token.Token.{Token}
use Rattle.cq_base.specs.declared.measures.FileCounts.{FileCounts}
use Rattle.cq_measures.specs.Decisions.{complexity}
use Rattle.cq_measures.specs.Extents.{code_lines}
use Rattle.cq_normal.specs.Kept.{spans_of}
use Rattle.cq_work.specs.declared.counting.Early.{Early}
use Rattle.cq_work.specs.declared.work.State.{State}
use Rattle.cq_work.specs.declared.work.State.TheVariants as state

-- a text without tokens, for a fault or since there are too many, has only lines
abbrev pub counts_of : Lang → List ℕ → State → List Spelled → FileCounts
counts_of lang text state.Ok tokens = record { lines = lines_of text; ncloc = code_lines (spans_of tokens); complexity = complexity lang tokens }
counts_of lang text (state.Fault at) tokens = record { lines = lines_of text; ncloc = 0; complexity = 0 }
counts_of lang text state.Large tokens = record { lines = lines_of text; ncloc = 0; complexity = 0 }

-- ---- in two steps: before it is known which tokens are listed, and after that

abbrev pub early_complexity : Lang → State → List Spelled → ℕ
early_complexity lang state.Ok tokens = complexity lang tokens
early_complexity lang (state.Fault at) tokens = 0
early_complexity lang state.Large tokens = 0

-- lines of code, if there are marks
abbrev pub early_ncloc : List Mark → List Spelled → Option ℕ
early_ncloc [] tokens = None
early_ncloc (m ∷ marks) tokens = Some (code_lines (spans_of tokens))

abbrev pub early_counts : Lang → State → List Spelled → List Mark → Early
early_counts lang state tokens marks = record { complexity = early_complexity lang state tokens; ncloc = early_ncloc marks tokens }

abbrev pub AreEarlySmall : Early → Type 0
AreEarlySmall early = (early.complexity ≤ 2 ^ 32) × IfSome early.ncloc (λ n. n ≤ 2 ^ 32)

-- with the lines of code of the tokens that are listed, if these are all
abbrev pub completed_counts : List ℕ → Early → List Token → FileCounts
completed_counts text early listed = record { lines = lines_of text; ncloc = unwrap_or early.ncloc (code_lines listed); complexity = early.complexity }
