-- The files of a project at a version, and what their texts are lexed to.
use Rattle.std.specs.Prelude.{◌≡◌, ℕ, List, map}
use Rattle.cq_base.specs.declared.settings.Settings.{Settings}
use Rattle.cq_base.specs.declared.change.Change.{Change}
use Rattle.cq_base.specs.declared.measures.FileCounts.{FileCounts}
use Rattle.cq_base.specs.declared.norm.Norm.{Norm}
use Rattle.cq_base.specs.declared.token.Token.{Token}
use Rattle.cq_func.specs.Functions.{functions}
use Rattle.cq_func.specs.declared.function.Function.{Function}
use Rattle.cq_history.specs.Files.{Source, files_at}
use Rattle.cq_work.specs.Keys.{window_keys}
use Rattle.cq_munch.specs.declared.munching.Lexed.{Lexed}
use Rattle.cq_normal.specs.Kept.{spans_of}
use Rattle.cq_normal.specs.Normal.{normal}
use Rattle.cq_work.specs.Counts.{counts_of}
use Rattle.cq_work.specs.Lexing.{LexesTo, tokens_in, kept_in, state_of}

-- a file, and what its text is lexed to
pub record Reading : Type 0 where
  pub file : Source
  pub answer : Lexed
  pub lexes : LexesTo file.lang file.body answer

-- the readings are those of the project's files at the version, in path order
abbrev pub AreRead : List Change → ℕ → List ℕ → List Reading → Type 0
AreRead changes version project readings = map (λ (r : Reading). r.file) readings ≡ files_at changes version project

abbrev pub paths_read : List Reading → List (List ℕ)
paths_read readings = map (λ (r : Reading). r.file.path) readings

-- the tokens of a file that are listed, as they are compared
abbrev pub norms_read : Settings → Reading → List Norm
norms_read set r = normal set r.file.lang (kept_in r.answer)

-- those of all files, and the keys of each file's windows
abbrev pub corpus_read : Settings → List Reading → List (List Norm)
corpus_read set readings = map (norms_read set) readings

abbrev pub keys_read : Settings → List Reading → List (List ℕ)
keys_read set readings = map (window_keys set) (corpus_read set readings)

-- where these tokens of each are, and what is counted of it: of all its tokens, also of those that are not listed
abbrev pub spans_read : List Reading → List (List Token)
spans_read readings = map (λ (r : Reading). spans_of (kept_in r.answer)) readings

abbrev pub counts_read : List Reading → List FileCounts
counts_read readings = map (λ (r : Reading). counts_of r.file.lang r.file.body (state_of r.answer) (tokens_in r.answer)) readings

-- the functions of each, also of what is not listed
abbrev pub functions_read : List Reading → List (List Function)
functions_read readings = map (λ (r : Reading). functions r.file.lang (tokens_in r.answer)) readings
