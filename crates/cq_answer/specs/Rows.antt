-- Files and groups as a reply shows them, and the measures of a part of a project.
use Rattle.std.specs.Prelude.{ℕ, ◌<◌, ◌^◌, ◌==◌, max, Bool, if◌then◌else◌, Option, List, [], ◌∷◌, length, map, filter, slice_index_or, All}
use Rattle.std.specs.List.{AllByRecursion, position, range_with_len}
use Rattle.cq_base.specs.Lines.{lines_of}
use Rattle.cq_base.specs.Measures.{no_measures}
use Rattle.cq_base.specs.declared.group.Group.{Group}
use Rattle.cq_base.specs.declared.group.Place.{Place}
use Rattle.cq_base.specs.declared.measures.FileCounts.{FileCounts}
use Rattle.cq_base.specs.declared.measures.Measures.{Measures}
use Rattle.cq_base.specs.declared.token.Token.{Token}
use Rattle.cq_func.specs.declared.function.Function.{Function}
use Rattle.cq_measures.specs.Measures.{extent_of, chosen_measures, file_measures, IsMeasurable}
use Rattle.cq_reply.specs.declared.reply.FileRow.{FileRow}
use Rattle.cq_reply.specs.declared.reply.GroupRow.{GroupRow}
use Rattle.cq_reply.specs.declared.reply.PlaceRow.{PlaceRow}
use Rattle.cq_reply.specs.declared.reply.Shown.{Shown}
use Rattle.cq_reply.specs.declared.reply.Shown.TheVariants as shown
use Rattle.cq_reply.specs.Written.{IsFunctionText}
use Rattle.cq_work.specs.declared.work.State.{State}
use Rattle.cq_work.specs.declared.work.State.TheVariants as state
use Rattle.cq_work.specs.Lexing.{kept_in, state_of}
use Rattle.cq_answer.specs.Readings.{Reading, paths_read, spans_read, counts_read, functions_read}
use Rattle.cq_answer.specs.declared.part.Part.{Part}
use Rattle.cq_answer.specs.declared.part.Part.TheVariants as part

abbrev pub shown_in : State → Shown
shown_in state.Ok = shown.Ok
shown_in (state.Fault at) = shown.Fault at
shown_in state.Large = shown.Large

-- a file: its change, its language, the lines of its text, and how many of its tokens are listed
abbrev pub file_row : Reading → FileRow
file_row r = record { path = r.file.path; change = r.file.number; lang = r.file.lang; lines = lines_of r.file.body; shown = shown_in (state_of r.answer); tokens = length (kept_in r.answer) }

-- what a reply shows of some files: their rows, and of each its path, where its listed tokens are, what is counted of it,
-- and its functions
pub record Facts : Type 0 where
  pub rows : List FileRow
  pub paths : List (List ℕ)
  pub spans : List (List Token)
  pub counts : List FileCounts
  pub functions : List (List Function)

abbrev pub facts_read : List Reading → Facts
facts_read readings = record { rows = map file_row readings; paths = paths_read readings; spans = spans_read readings; counts = counts_read readings; functions = functions_read readings }

-- a place of a word of `n` tokens: the path of its file, its first token, and the lines that it covers
abbrev pub place_row : Facts → ℕ → Place → PlaceRow
place_row facts n p = record { path = slice_index_or facts.paths p.file []; at = p.at; first = (extent_of facts.spans n p).first; last = (extent_of facts.spans n p).last }

abbrev pub group_row : Facts → Group → GroupRow
group_row facts g = record { tokens = g.tokens; places = map (place_row facts g.tokens) g.places }

-- the positions of the chosen files, ascending
abbrev pub chosen_of : Facts → (ℕ → Bool) → List ℕ
chosen_of facts is_chosen = filter is_chosen (range_with_len 0 (length facts.counts))

-- those of the chosen files of the whole, or those of one file if it is chosen, with the places that the groups of all
-- files have in them; of nothing all are 0
abbrev pub measures_of : Facts → List Group → (ℕ → Bool) → Part → Measures
measures_of facts groups is_chosen part.Whole = chosen_measures facts.counts facts.spans (chosen_of facts is_chosen) groups
measures_of facts groups is_chosen (part.File i) = if is_chosen i then file_measures facts.counts facts.spans i groups else no_measures
measures_of facts groups is_chosen (part.Alone i) = no_measures
measures_of facts groups is_chosen part.Nothing = no_measures

-- ---- functions

-- those of the file when only it is shown
abbrev pub functions_of : Facts → Part → List Function
functions_of facts part.Whole = []
functions_of facts (part.File i) = []
functions_of facts (part.Alone i) = slice_index_or facts.functions i []
functions_of facts part.Nothing = []

abbrev pub greatest_complexity : List Function → ℕ
greatest_complexity [] = 0
greatest_complexity (f ∷ fs) = max f.complexity (greatest_complexity fs)

-- the position of the first function of greatest complexity
abbrev pub worst_of : List Function → Option ℕ
worst_of fs = position (λ f. f.complexity == greatest_complexity fs) fs

-- ---- what can be shown

-- what of the groups can be shown and measured
abbrev pub AreShowable : Facts → List Group → Type 0
AreShowable facts groups = IsMeasurable facts.counts facts.spans groups

-- each file has fewer functions than four bytes can count
abbrev pub AreFewFunctions : Facts → Type 0
AreFewFunctions facts = All (λ fs. length fs < 2 ^ 32) facts.functions

-- the name of each function is UTF-8
abbrev pub AreNamed : Facts → Type 0
AreNamed facts = AllByRecursion (AllByRecursion IsFunctionText) facts.functions
