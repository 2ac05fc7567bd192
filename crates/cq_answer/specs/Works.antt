-- The files of a listing, each with its work.
use Rattle.std.specs.Prelude.{ℕ, ◌<◌, Bool, List, length, map, All}
use Rattle.std.specs.Arc.{arc_value}
use Rattle.std.specs.declared.sync.Arc.{Arc}
use Rattle.std.specs.declared.alloc.Global.{Global}
use Rattle.cq_base.specs.declared.measures.FileCounts.{FileCounts}
use Rattle.cq_base.specs.declared.norm.Norm.{Norm}
use Rattle.cq_base.specs.declared.token.Token.{Token}
use Rattle.cq_func.specs.declared.function.Function.{Function}
use Rattle.cq_history.specs.Files.{File}
use Rattle.cq_reply.specs.declared.reply.FileRow.{FileRow}
use Rattle.cq_request.specs.declared.request.Query.{Query}
use Rattle.cq_scope.specs.Chosen.{is_chosen_at}
use Rattle.cq_work.specs.declared.work.Work.{Work}
use Rattle.cq_answer.specs.Rows.{Facts, shown_in}

-- a file of a listing, held by its owner, and what it is: a path, a number, a language and a work
abbrev pub Owner : Type 0 → Type 0
Owner L = Arc (File (Work L)) Global

abbrev pub work_in : {L : Type 0} → Owner L → File (Work L)
work_in owner = arc_value owner

abbrev pub works_in : {L : Type 0} → List (Owner L) → List (File (Work L))
works_in owners = map work_in owners

module _ {L : Type 0} where
  abbrev pub paths_in : List (File (Work L)) → List (List ℕ)
  paths_in files = map (λ (f : File (Work L)). f.path) files

  abbrev pub numbers_in : List (File (Work L)) → List ℕ
  numbers_in files = map (λ (f : File (Work L)). f.number) files

  abbrev pub norms_in : List (File (Work L)) → List (List Norm)
  norms_in files = map (λ (f : File (Work L)). arc_value f.body.tokens) files

  abbrev pub keys_in : List (File (Work L)) → List (List ℕ)
  keys_in files = map (λ (f : File (Work L)). arc_value f.body.keys) files

  abbrev pub spans_in : List (File (Work L)) → List (List Token)
  spans_in files = map (λ (f : File (Work L)). f.body.spans.items) files

  abbrev pub counts_in : List (File (Work L)) → List FileCounts
  counts_in files = map (λ (f : File (Work L)). f.body.counts) files

  abbrev pub functions_in : List (File (Work L)) → List (List Function)
  functions_in files = map (λ (f : File (Work L)). f.body.functions.items) files

  -- whether a query chooses the file at a position
  abbrev pub chosen_in : List (File (Work L)) → Query → ℕ → Bool
  chosen_in files q = is_chosen_at q.scope q.since files

  -- each was put by a change from 1 on
  abbrev pub AreNumbered : List (File (Work L)) → Type 0
  AreNumbered files = All (λ n. 0 < n) (numbers_in files)

  -- the row that shows a file
  abbrev pub row_of : File (Work L) → FileRow
  row_of f = record { path = f.path; change = f.number; lang = f.lang; lines = f.body.counts.lines; shown = shown_in f.body.state; tokens = length (arc_value f.body.tokens) }

  abbrev pub facts_in : List (File (Work L)) → Facts
  facts_in files = record { rows = map row_of files; paths = paths_in files; spans = spans_in files; counts = counts_in files; functions = functions_in files }
