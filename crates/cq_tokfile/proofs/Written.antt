-- A snapshot as it is written: a token for each place, each file after its front, and how many bytes that are.
use Rattle.std.proofs.Common.{◌≡◌, ℕ, zero, suc, ◌+◌, ◌*◌, ◌^◌, ◌<◌, ◌≤◌, List, [], ◌∷◌, ◌++◌, length, map, take, get_or, refl, sym, ap, ◌∙◌, append_assoc, arith, length-append}
use Rattle.std.specs.Prelude.{All}
use Rattle.std.specs.Arc.{arc_value}
use Rattle.std.specs.Int.{w32, w64, to_be_bytes}
use Rattle.std.specs.List.{AllByRecursion, flat_map, sum_by}
use Rattle.std.proofs.lemmas.List.{length-map}
use Rattle.std.proofs.lemmas.List.Concat.{flat_map-cons}
use Rattle.std.proofs.lemmas.List.Elements.{All-nil, All-cons, All-head, All-tail, All-from_recursion, All-weaker}
use Rattle.std.proofs.lemmas.List.Sums.{sum_by-cons, sum_by_more}
use Rattle.cq_base.specs.declared.change.Condition.{Condition}
use Rattle.cq_base.specs.declared.lang.Lang.{Lang}
use Rattle.cq_base.specs.declared.lang.Lang.TheVariants as lang
use Rattle.cq_base.specs.declared.measures.FileCounts.{FileCounts}
use Rattle.cq_base.specs.declared.norm.Norm.{Norm}
use Rattle.cq_base.specs.declared.settings.Settings.{Settings}
use Rattle.cq_base.specs.declared.token.Class.TheVariants as class
use Rattle.cq_base.specs.declared.token.Spelled.{Spelled}
use Rattle.cq_base.specs.declared.token.Token.{Token}
use Rattle.cq_func.specs.declared.function.Function.{Function}
use Rattle.cq_history.specs.Files.{File}
use Rattle.cq_work.specs.declared.work.State.{State}
use Rattle.cq_work.specs.declared.work.Work.{Work}
use Rattle.cq_tokfile.specs.declared.snapshot.Snapshot.{Snapshot}
use Rattle.cq_tokform.specs.Spelling.{Recorded, text, place, token, function, counted, condition, language, outcome, counts, front, file, head, body}
use Rattle.cq_tokform.specs.Sound.{IsSoundToken, IsSoundFunction, IsSoundFile, HasSpelling}
use Rattle.cq_tokfile.specs.Snapshot.{spelled_of, record_of, contents_of, IsOneFile, IsSoundSnapshot, HasTokenForEachPlace, tokens_length, functions_length, file_length, files_length, body_length, capped}

abbrev pub no_place : Token
no_place = record { class = class.Ident; start = 0; len = 0; first_line = 0; last_line = 0 }

abbrev pub no_token : Spelled
no_token = record { token = no_place; text = [] }

abbrev pub no_norm : Norm
no_norm = record { lang = lang.Any; class = class.Ident; text = [] }

-- ---- a token for each place

pub spelled_length : (spans : List Token) (norms : List Norm) → length spans ≡ length norms → length (spelled_of spans norms) ≡ length norms
spelled_length [] [] same = refl
spelled_length [] (n ∷ norms) same = absurd (omega (arith, same))
spelled_length (t ∷ spans) [] same = absurd (omega (arith, same))
spelled_length (t ∷ spans) (n ∷ norms) same = ap suc (spelled_length spans norms (omega (arith, same)))

pub spelled_at : (spans : List Token) (norms : List Norm) (i : ℕ) (d : Spelled) (t : Token) (n : Norm) → length spans ≡ length norms → i < length norms
    → get_or (spelled_of spans norms) i d ≡ record { token = get_or spans i t; text = (get_or norms i n).text }
spelled_at [] [] i d t n same lt = absurd (omega (arith, lt))
spelled_at [] (m ∷ norms) i d t n same lt = absurd (omega (arith, same))
spelled_at (s ∷ spans) [] i d t n same lt = absurd (omega (arith, same))
spelled_at (s ∷ spans) (m ∷ norms) zero d t n same lt = refl
spelled_at (s ∷ spans) (m ∷ norms) (suc i) d t n same lt = spelled_at spans norms i d t n (omega (arith, same)) (omega (arith, lt))

pub one_for_each : {L : Type 0} (settings : Settings) (f : File (Work L)) → IsOneFile settings f → HasTokenForEachPlace f
one_for_each settings f one =
    sym (length-map f.body.spans.items (λ (t : Token). t.class)) ∙ ap length one.classes ∙ length-map (arc_value f.body.tokens) (λ (n : Norm). n.class)

-- the texts of tokens are short where those of spelled ones are
pub short_norms : (spans : List Token) (norms : List Norm) → length spans ≡ length norms → All (λ (s : Spelled). length s.text < 2 ^ 32) (spelled_of spans norms) → All (λ (n : Norm). length n.text < 2 ^ 32) norms
short_norms spans norms same short i n lt =
    let here : i < length (spelled_of spans norms) = let len = spelled_length spans norms same in omega (arith, len, lt) in
    let is = ap (λ (s : Spelled). length s.text) (spelled_at spans norms i no_token no_place n same lt) in
    let less = short i no_token here in
    omega (arith, is, less)

-- ---- what is sound has a spelling

pub has_spelling : (settings : Settings) (version : ℕ) (f : Recorded) → IsSoundFile settings version f → HasSpelling f
has_spelling settings version f sound =
    let few = sound.few in
    record {
      path = sound.path.short;
      few_tokens = omega (arith, few);
      tokens = All-weaker (IsSoundToken settings f.counts.lines) (λ (s : Spelled). length s.text < 2 ^ 32) (λ s of. of.text.short) f.tokens (All-from_recursion (IsSoundToken settings f.counts.lines) f.tokens sound.tokens);
      few_functions = sound.functions.few;
      functions = All-weaker (IsSoundFunction f.counts.lines) (λ (g : Function). length g.name < 2 ^ 32) (λ g of. of.name.short) f.functions (All-from_recursion (IsSoundFunction f.counts.lines) f.functions sound.functions.each);
    }

pub spelled_files : {L : Type 0} (settings : Settings) (version : ℕ) (files : List (File (Work L))) → AllByRecursion (IsSoundFile settings version) (map record_of files) → All (λ (f : File (Work L)). HasSpelling (record_of f)) files
spelled_files {L} settings version [] sound = All-nil (λ (f : File (Work L)). HasSpelling (record_of f))
spelled_files {L} settings version (f ∷ files) sound = All-cons (λ (g : File (Work L)). HasSpelling (record_of g)) f files (has_spelling settings version (record_of f) sound.0) (spelled_files settings version files sound.1)

-- ---- a file after its front

pub file_parts : (path : List ℕ) (change : ℕ) (l : Lang) (state : State) (c : FileCounts) (rest : List ℕ)
    → front path change l state c ++ rest ≡ text path ++ (to_be_bytes w64 change ++ (language l ++ (outcome state ++ (counts c ++ rest))))
file_parts path change l state c rest =
    append_assoc (text path) (to_be_bytes w64 change ++ (language l ++ (outcome state ++ counts c))) rest
    ∙ ap (λ (b : List ℕ). text path ++ b) (append_assoc (to_be_bytes w64 change) (language l ++ (outcome state ++ counts c)) rest
    ∙ ap (λ (b : List ℕ). to_be_bytes w64 change ++ b) (append_assoc (language l) (outcome state ++ counts c) rest
    ∙ ap (λ (b : List ℕ). language l ++ b) (append_assoc (outcome state) (counts c) rest)))

-- ---- how many bytes that are

place_length : (t : Token) → length (place t) ≡ 17
place_length t = refl

token_bytes : (spans : List Token) (norms : List Norm) → length spans ≡ length norms → length (flat_map token (spelled_of spans norms)) ≡ tokens_length norms
token_bytes [] [] same = refl
token_bytes [] (n ∷ norms) same = absurd (omega (arith, same))
token_bytes (t ∷ spans) [] same = absurd (omega (arith, same))
token_bytes (t ∷ spans) (n ∷ norms) same =
    let s : Spelled = record { token = t; text = n.text } in
    let all = ap length (flat_map-cons token s (spelled_of spans norms)) in
    let both = length-append (token s) (flat_map token (spelled_of spans norms)) in
    let one = length-append (place t) (text n.text) in
    let own = length-append (to_be_bytes w32 (length n.text)) n.text in
    let at = place_length t in
    let rest = token_bytes spans norms (omega (arith, same)) in
    let sum = sum_by-cons (λ (m : Norm). 21 + length m.text) n norms in
    omega (arith, all, both, one, own, at, rest, sum)

function_bytes : (functions : List Function) → length (flat_map function functions) ≡ functions_length functions
function_bytes [] = refl
function_bytes (f ∷ functions) =
    let all = ap length (flat_map-cons function f functions) in
    let both = length-append (function f) (flat_map function functions) in
    let one = length-append (text f.name) (to_be_bytes w32 f.first ++ (to_be_bytes w32 f.last ++ to_be_bytes w32 f.complexity)) in
    let own = length-append (to_be_bytes w32 (length f.name)) f.name in
    let rest = function_bytes functions in
    let sum = sum_by-cons (λ (g : Function). 16 + length g.name) f functions in
    omega (arith, all, both, one, own, rest, sum)

condition_bytes : (conditions : List Condition) → length (flat_map condition conditions) ≡ 10 * length conditions
condition_bytes [] = refl
condition_bytes (c ∷ conditions) =
    let all = ap length (flat_map-cons condition c conditions) in
    let both = length-append (condition c) (flat_map condition conditions) in
    let rest = condition_bytes conditions in
    omega (arith, all, both, rest)

module _ {L : Type 0} where
  file_bytes : (f : File (Work L)) → HasTokenForEachPlace f → length (file (record_of f)) ≡ file_length f
  file_bytes f same =
      let r = record_of f in
      let lists = counted token r.tokens ++ counted function r.functions in
      let parts = ap length (file_parts f.path f.number f.lang f.body.state f.body.counts lists) in
      let whole = length-append (front f.path f.number f.lang f.body.state f.body.counts) lists in
      let a = length-append (text f.path) (to_be_bytes w64 f.number ++ (language f.lang ++ (outcome f.body.state ++ counts f.body.counts))) in
      let b = length-append (to_be_bytes w32 (length f.path)) f.path in
      let e = length-append (outcome f.body.state) (counts f.body.counts) in
      let tokens = token_bytes f.body.spans.items (arc_value f.body.tokens) same in
      let functions = function_bytes f.body.functions.items in
      let both = length-append (counted token r.tokens) (counted function r.functions) in
      omega (arith, parts, whole, a, b, e, tokens, functions, both)

  files_bytes : (files : List (File (Work L))) → All HasTokenForEachPlace files → length (flat_map file (map record_of files)) ≡ files_length files
  files_bytes [] each = refl
  files_bytes (f ∷ files) each =
      let all = ap length (flat_map-cons file (record_of f) (map record_of files)) in
      let both = length-append (file (record_of f)) (flat_map file (map record_of files)) in
      let one = file_bytes f (All-head HasTokenForEachPlace f files each) in
      let rest = files_bytes files (All-tail HasTokenForEachPlace f files each) in
      let sum = sum_by-cons file_length f files in
      omega (arith, all, both, one, rest, sum)

  pub each_has_tokens : (settings : Settings) (files : List (File (Work L))) → All (IsOneFile settings) files → All HasTokenForEachPlace files
  each_has_tokens settings files parts = All-weaker (IsOneFile settings) HasTokenForEachPlace (λ f one. one_for_each settings f one) files parts

  pub body_bytes : (settings : Settings) (s : Snapshot L) → IsSoundSnapshot settings s → length (body settings (contents_of s)) ≡ body_length s
  body_bytes settings s sound =
      let c = contents_of s in
      let all = length-append (head settings c.head) (counted condition c.conditions ++ counted file c.files) in
      let lists = length-append (counted condition c.conditions) (counted file c.files) in
      let project = length-append (to_be_bytes w32 (length s.project)) s.project in
      let conditions = condition_bytes s.conditions.items in
      let files = files_bytes s.files (each_has_tokens settings s.files sound.parts) in
      omega (arith, all, lists, project, conditions, files)

-- ---- counts that stay at the greatest number

pub capped_more : (n a b : ℕ) → capped (capped (capped n + a) + b) ≡ capped (n + (a + b))
capped_more n a b = omega arith

pub capped_sum : {X : Type 0} (w : X → ℕ) (xs : List X) (i : ℕ) (d : X) (count m : ℕ) → i < length xs → count ≡ capped (sum_by w (take i xs)) → m ≡ capped (w (get_or xs i d)) → capped (count + m) ≡ capped (sum_by w (take (i + 1) xs))
capped_sum w xs i d count m lt so_far one = let more = sum_by_more w xs i d lt in omega (arith, so_far, one, more)

-- whether a body is too large is told by its count
pub too_large : (count n : ℕ) → count ≡ capped n → 268435456 < count → (n ≤ 268435456 → ⊥)
too_large count n is more le = omega (arith, is, more, le)

pub fits_count : (count n : ℕ) → count ≡ capped n → count ≤ 268435456 → (n ≤ 268435456) × (count ≡ n)
fits_count count n is le = (omega (arith, is, le), omega (arith, is, le))
