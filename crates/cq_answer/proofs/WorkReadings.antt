-- What the works of files show of their texts.
use Rattle.std.proofs.Common.{◌≡◌, ℕ, zero, suc, ◌≤◌, List, [], ◌∷◌, length, map, get_or, refl, sym, ap, ap₂, ◌∙◌, arith}
use Rattle.std.specs.Prelude.{All}
use Rattle.std.proofs.lemmas.List.{length-map}
use Rattle.std.proofs.lemmas.List.Elements.{All-cons, All-nil}
use Rattle.cq_base.specs.Lines.{lines_of}
use Rattle.cq_base.specs.declared.lang.Lang.{Lang}
use Rattle.cq_base.specs.declared.measures.FileCounts.{FileCounts}
use Rattle.cq_base.specs.declared.norm.Norm.{Norm}
use Rattle.cq_base.specs.declared.settings.Settings.{Settings}
use Rattle.cq_base.specs.declared.token.Spelled.{Spelled}
use Rattle.cq_base.specs.declared.token.Token.{Token}
use Rattle.cq_board.specs.Related.{IsSameFile, AreSameFiles}
use Rattle.cq_func.specs.Functions.{functions}
use Rattle.cq_func.specs.declared.function.Function.{Function}
use Rattle.cq_history.specs.Files.{File, Source}
use Rattle.cq_measures.specs.Measures.{AreSmall}
use Rattle.cq_normal.specs.Normal.{norm_of}
use Rattle.cq_reply.specs.declared.reply.FileRow.{FileRow}
use Rattle.cq_work.specs.Counts.{counts_of}
use Rattle.cq_work.specs.Lexing.{tokens_in, kept_in, state_of}
use Rattle.cq_work.specs.Work.{IsWorkOf}
use Rattle.cq_work.specs.declared.work.State.{State}
use Rattle.cq_work.specs.declared.work.State.TheVariants as state
use Rattle.cq_work.specs.declared.work.Work.{Work}
use Rattle.cq_work.proofs.FunctionLists.{few_functions}
use Rattle.cq_answer.specs.Readings.{Reading, paths_read, corpus_read, keys_read, spans_read, counts_read, functions_read}
use Rattle.cq_answer.specs.Rows.{file_row, shown_in}
use Rattle.cq_answer.specs.Works.{paths_in, numbers_in, norms_in, keys_in, spans_in, counts_in, functions_in, row_of}

-- readings of the files, of which the works show what they show
pub record Reads {L : Type 0} (set : Settings) (sources : List Source) (files : List (File (Work L))) : Type 0 where
  pub readings : List Reading
  pub are : map (λ (r : Reading). r.file) readings ≡ sources
  pub rows : map row_of files ≡ map file_row readings
  pub paths : paths_in files ≡ paths_read readings
  pub norms : norms_in files ≡ corpus_read set readings
  pub keys : keys_in files ≡ keys_read set readings
  pub spans : spans_in files ≡ spans_read readings
  pub counts : counts_in files ≡ counts_read readings
  pub functions : functions_in files ≡ functions_read readings
  pub small : All AreSmall (counts_in files)
  pub few_functions : All (λ fs. length fs ≤ 262144) (functions_in files)
  pub numbers : numbers_in files ≡ map (λ (f : Source). f.number) sources

-- the lines that are counted are those of the text
lines_counted : (l : Lang) (text : List ℕ) (r : Reading) (s : State) → (counts_of l text s (tokens_in r.answer)).lines ≡ lines_of text
lines_counted l text r state.Ok = refl
lines_counted l text r (state.Fault at) = refl
lines_counted l text r state.Large = refl

row_same : {L : Type 0} (set : Settings) (x : Source) (f : File (Work L)) (same : IsSameFile (IsWorkOf set) x f) → row_of f ≡ file_row (record { file = x; answer = same.body.answer; lexes = same.body.lexes })
row_same set x f same =
    let is = same.body in
    let r : Reading = record { file = x; answer = is.answer; lexes = is.lexes } in
    let path = sym same.path in
    let number = sym same.number in
    let lang = sym same.lang in
    let lines = ap (λ (c : FileCounts). c.lines) is.shows.counts_are ∙ lines_counted x.lang x.body r (state_of is.answer) in
    let shown = ap shown_in is.shows.state_is in
    let tokens = ap length is.shows.tokens_are ∙ length-map (kept_in is.answer) (norm_of set x.lang) in
    λ i. record { path = path i; change = number i; lang = lang i; lines = lines i; shown = shown i; tokens = tokens i }

few_shown : (fs : List Function) (l : Lang) (ts : List Spelled) → fs ≡ functions l ts → length ts ≤ 262144 → length fs ≤ 262144
few_shown fs l ts are few = let most = few_functions l ts in let same = ap length are in omega (arith, most, same, few)

pub reads : {L : Type 0} (set : Settings) (sources : List Source) (files : List (File (Work L))) → AreSameFiles (IsWorkOf set) sources files → Reads set sources files
reads set [] [] same = record { readings = []; are = refl; rows = refl; paths = refl; norms = refl; keys = refl; spans = refl; counts = refl; functions = refl; small = All-nil AreSmall; few_functions = All-nil (λ fs. length fs ≤ 262144); numbers = refl }
reads set [] (f ∷ files) same = absurd same
reads set (x ∷ sources) [] same = absurd same
reads set (x ∷ sources) (f ∷ files) same =
    let rest = reads set sources files same.1 in
    let is = same.0.body in
    record {
      readings = record { file = x; answer = is.answer; lexes = is.lexes } ∷ rest.readings;
      are = ap (λ (xs : List Source). x ∷ xs) rest.are;
      rows = ap₂ (λ (row : FileRow) (rows : List FileRow). row ∷ rows) (row_same set x f same.0) rest.rows;
      paths = ap₂ (λ (p : List ℕ) (ps : List (List ℕ)). p ∷ ps) (sym same.0.path) rest.paths;
      norms = ap₂ (λ (n : List Norm) (ns : List (List Norm)). n ∷ ns) is.shows.tokens_are rest.norms;
      keys = ap₂ (λ (k : List ℕ) (ks : List (List ℕ)). k ∷ ks) is.shows.keys_are rest.keys;
      spans = ap₂ (λ (s : List Token) (ss : List (List Token)). s ∷ ss) is.shows.spans_are rest.spans;
      counts = ap₂ (λ (c : FileCounts) (cs : List FileCounts). c ∷ cs) is.shows.counts_are rest.counts;
      functions = ap₂ (λ (fs : List Function) (all : List (List Function)). fs ∷ all) is.shows.functions_are rest.functions;
      small = All-cons AreSmall f.body.counts (counts_in files) is.shows.small rest.small;
      few_functions = All-cons (λ fs. length fs ≤ 262144) f.body.functions.items (functions_in files) (few_shown f.body.functions.items x.lang (tokens_in is.answer) is.shows.functions_are is.shows.few) rest.few_functions;
      numbers = ap₂ (λ (n : ℕ) (ns : List ℕ). n ∷ ns) (sym same.0.number) rest.numbers;
    }

-- as many spans as tokens
pub as_many : (set : Settings) (readings : List Reading) (i : ℕ) → length (get_or (corpus_read set readings) i []) ≡ length (get_or (spans_read readings) i [])
as_many set [] i = refl
as_many set (r ∷ readings) zero = length-map (kept_in r.answer) (norm_of set r.file.lang) ∙ sym (length-map (kept_in r.answer) (λ s. s.token))
as_many set (r ∷ readings) (suc i) = as_many set readings i
