-- What is counted in two steps is what is counted of all tokens.
use Rattle.std.proofs.Common.{◌≡◌, ℕ, List, [], ◌∷◌, refl, sym, ap}
use Rattle.cq_base.specs.Lines.{lines_of}
use Rattle.cq_base.specs.declared.lang.Lang.{Lang}
use Rattle.cq_base.specs.declared.token.Mark.{Mark}
use Rattle.cq_base.specs.declared.token.Spelled.{Spelled}
use Rattle.cq_measures.specs.Decisions.{complexity}
use Rattle.cq_measures.specs.Extents.{code_lines}
use Rattle.cq_munch.specs.declared.munching.Lexed.{Lexed}
use Rattle.cq_munch.specs.declared.munching.Lexed.TheVariants as lexed
use Rattle.cq_normal.specs.Kept.{kept, spans_of}
use Rattle.cq_normal.proofs.Marked.{all_kept}
use Rattle.cq_work.specs.declared.work.State.TheVariants as state
use Rattle.cq_work.specs.Counts.{counts_of, early_counts, completed_counts}
use Rattle.cq_work.specs.Lexing.{tokens_in, marks_in, kept_in, state_of}

-- without marks all tokens are listed
by_marks : (l : Lang) (text : List ℕ) (tokens : List Spelled) (marks : List Mark) → completed_counts text (early_counts l state.Ok tokens marks) (spans_of (kept marks tokens)) ≡ counts_of l text state.Ok tokens
by_marks l text tokens [] = ap (λ (ts : List Spelled). record { lines = lines_of text; ncloc = code_lines (spans_of ts); complexity = complexity l tokens }) (sym (all_kept tokens))
by_marks l text tokens (m ∷ marks) = refl

pub same_counts : (l : Lang) (text : List ℕ) (a : Lexed) → completed_counts text (early_counts l (state_of a) (tokens_in a) (marks_in a)) (spans_of (kept_in a)) ≡ counts_of l text (state_of a) (tokens_in a)
same_counts l text (lexed.Tokens v marks) = by_marks l text v.items marks.items
same_counts l text (lexed.Fault at) = refl
same_counts l text lexed.Large = refl
