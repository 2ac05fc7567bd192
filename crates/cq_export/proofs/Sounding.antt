-- The version of sound changes, each with names of its form, is a sound snapshot.
use Rattle.std.proofs.Common.{◌≡◌, ℕ, get_or, nat_le, ⊎_elim, ◌≤◌, ◌<◌, Bool, true, false, List, [], ◌∷◌, length, map, refl, sym, ap, ◌∙◌, subst, arith}
use Rattle.std.specs.Prelude.{All, AllPairs, ◌≢◌, ◌&&◌, IfOk, Result, Ok, Err}
use Rattle.std.specs.Arc.{arc_value}
use Rattle.std.specs.List.{AllByRecursion, list_all}
use Rattle.std.specs.Str.{IsUtf8}
use Rattle.std.proofs.lemmas.Bool.{cases_lt, leb-true}
use Rattle.std.proofs.lemmas.Bool.Decides.{nat_tests}
use Rattle.std.proofs.lemmas.List.Sums.{AllPass-from_list_all}
use Rattle.std.proofs.lemmas.List.{length-map, get_or_past}
use Rattle.std.proofs.lemmas.List.Elements.{All-nil, All-cons}
use Rattle.std.proofs.lemmas.Str.{is_utf8-from_IsUtf8, IsUtf8-from_ascii}
use Rattle.cq_answer.proofs.Bounding.{version_bounded, named_files}
use Rattle.cq_answer.proofs.VersionFiles.{few_conditions}
use Rattle.cq_answer.specs.Bounds.{IsFileOf}
use Rattle.cq_base.specs.Changes.{IsSoundChange}
use Rattle.cq_base.specs.Settings.{IsInRange}
use Rattle.cq_base.specs.declared.change.Change.{Change}
use Rattle.cq_base.specs.declared.change.Condition.{Condition}
use Rattle.cq_base.specs.declared.lang.Lang.{Lang}
use Rattle.cq_base.specs.declared.norm.Norm.{Norm}
use Rattle.cq_base.specs.declared.settings.Settings.{Settings}
use Rattle.cq_base.specs.declared.token.Token.{Token}
use Rattle.cq_func.specs.declared.function.Function.{Function}
use Rattle.cq_history.specs.Files.{File, is_before}
use Rattle.cq_tokask.specs.Exported.{IsOfChanges}
use Rattle.cq_names.specs.Names.{parts, is_part, is_path_byte, is_name_byte, is_path, is_path_text, is_project}
use Rattle.cq_projects.specs.Ordered.{AreRising}
use Rattle.cq_request.specs.Named.{IsNamed}
use Rattle.cq_tokform.specs.Sound.{IsSoundText, IsSoundState, IsSoundCondition, IsSoundToken, IsSoundFunction, IsSoundFile}
use Rattle.cq_tokfile.specs.Snapshot.{spelled_of, record_of, IsOneFile, IsSoundSnapshot}
use Rattle.cq_tokform.specs.Spelling.{Recorded}
use Rattle.cq_tokfile.specs.declared.snapshot.Snapshot.{Snapshot}
use Rattle.cq_tokfile.proofs.Decoded.{same_changes}
use Rattle.cq_work.specs.Bounds.{is_ignored, IsWithin, IsCompared, IsFunctionWithin, IsFaultWithin, IsBounded}
use Rattle.cq_work.specs.declared.work.State.{State}
use Rattle.cq_work.specs.declared.work.State.TheVariants as states
use Rattle.cq_work.specs.declared.work.Work.{Work}

fault_sound : (s : State) → IsFaultWithin 1048576 s → IsSoundState s
fault_sound states.Ok within = tt
fault_sound (states.Fault at) within = omega (arith, within)
fault_sound states.Large within = tt

-- ---- of one file

module _ (set : Settings) (lines : ℕ) (few : lines ≤ 1048576) where
  token_sound : (l : Lang) (t : Token) (n : Norm) → IsWithin 1048576 lines t → IsCompared set l n → t.class ≡ n.class → IsSoundToken set lines (record { token = t; text = n.text })
  token_sound l t n within compared same =
      let last = within.last in
      let short = compared.text.short in
      record {
        within = within.bytes;
        first = within.first;
        in_order = within.in_order;
        last = within.last;
        last_short = omega (arith, last, few);
        text = record { utf8 = compared.text.utf8; short = omega (arith, short) };
        ignored = λ e. compared.ignored (ap (is_ignored set) (sym same) ∙ e);
      }

  pub tokens_sound : (l : Lang) (spans : List Token) (norms : List Norm) → AllByRecursion (IsWithin 1048576 lines) spans → AllByRecursion (IsCompared set l) norms → map (λ (t : Token). t.class) spans ≡ map (λ (n : Norm). n.class) norms
      → AllByRecursion (IsSoundToken set lines) (spelled_of spans norms)
  tokens_sound l [] norms within compared same = tt
  tokens_sound l (t ∷ spans) [] within compared same = tt
  tokens_sound l (t ∷ spans) (n ∷ norms) within compared same =
      let one : t.class ≡ n.class = cc in
      let rest : map (λ (s : Token). s.class) spans ≡ map (λ (m : Norm). m.class) norms = cc in
      (token_sound l t n within.0 compared.0 one, tokens_sound l spans norms within.1 compared.1 rest)

  pub functions_sound : (functions : List Function) → AllByRecursion (IsFunctionWithin lines) functions → AllByRecursion (IsSoundFunction lines) functions
  functions_sound [] within = tt
  functions_sound (f ∷ functions) within =
      let f_is = within.0 in
      let last = f_is.last in
      let short = f_is.name.short in
      let complexity = f_is.complexity in (
        record {
          name = record { utf8 = f_is.name.utf8; short = omega (arith, short) };
          first = f_is.first;
          in_order = f_is.in_order;
          last = f_is.last;
          last_short = omega (arith, last, few);
          complexity = omega (arith, complexity);
        },
        functions_sound functions within.1,
      )

fewer_spelled : (spans : List Token) (norms : List Norm) → length (spelled_of spans norms) ≤ length spans
fewer_spelled [] norms = omega arith
fewer_spelled (t ∷ spans) [] = omega arith
fewer_spelled (t ∷ spans) (n ∷ norms) = let rest = fewer_spelled spans norms in omega (arith, rest)

none_spelled : (spans : List Token) (norms : List Norm) → spans ≡ [] → spelled_of spans norms ≡ []
none_spelled spans norms none = ap (λ (ts : List Token). spelled_of ts norms) none

each_lang : (set : Settings) (l : Lang) (norms : List Norm) → AllByRecursion (IsCompared set l) norms → All (λ (n : Norm). n.lang ≡ l) norms
each_lang set l [] compared = All-nil (λ (n : Norm). n.lang ≡ l)
each_lang set l (n ∷ norms) compared = All-cons (λ (m : Norm). m.lang ≡ l) n norms compared.0.lang (each_lang set l norms compared.1)

second_of_four : (a b c d : Bool) → (a && b && c && d) ≡ true → b ≡ true
second_of_four true true c d all = refl
second_of_four true false c d all = let bad : false ≡ true = all in absurd (cc)
second_of_four false b c d all = let bad : false ≡ true = all in absurd (cc)

last_two : (a b c : Bool) → (a && b && c) ≡ true → (b ≡ true) × (c ≡ true)
last_two true true true all = (refl, refl)
last_two true true false all = let bad : false ≡ true = all in absurd (cc)
last_two true false c all = let bad : false ≡ true = all in absurd (cc)
last_two false b c all = let bad : false ≡ true = all in absurd (cc)

-- a path has at most 512 bytes
short_path : (path : List ℕ) → is_path_text path ≡ true → length path ≤ 512
short_path path good = leb-true (length path) 512 (second_of_four (nat_le 1 (length path)) (nat_le (length path) 512) (list_all is_path_byte path) (list_all is_part (parts path)) good)

-- a project's name is of ASCII, and has at most 64
name_form : (name : List ℕ) → is_project name ≡ true → (nat_le (length name) 64 ≡ true) × (list_all is_name_byte name ≡ true)
name_form name good = last_two (nat_le 1 (length name)) (nat_le (length name) 64) (list_all is_name_byte name) good

short_project : (name : List ℕ) → is_project name ≡ true → length name ≤ 64
short_project name good = leb-true (length name) 64 (name_form name good).0

name_byte_low : (b : ℕ) → is_name_byte b ≡ true → b < 128
name_byte_low b good = grind (arith, nat_tests, good)

project_utf8 : (name : List ℕ) → is_project name ≡ true → IsUtf8 name
project_utf8 name good =
    IsUtf8-from_ascii name (λ i. ⊎_elim
    (λ lt. name_byte_low (get_or name i 0) (AllPass-from_list_all is_name_byte name (name_form name good).1 i 0 lt))
    (λ past. subst (λ (b : ℕ). b < 128) (sym (get_or_past name i 0 past)) (omega arith))
    (cases_lt i (length name)))

module _ {L : Type 0} (set : Settings) (version : ℕ) (f : File (Work L)) (is : IsFileOf set version f) where
  abbrev bounded : IsBounded set f.body
  bounded = is.work

  pub one_file : IsOneFile set f
  one_file = record {
    lang = is.lang;
    langs = subst (λ (l : Lang). All (λ (n : Norm). n.lang ≡ l) (arc_value f.body.tokens)) is.lang (each_lang set f.body.lang (arc_value f.body.tokens) bounded.tokens);
    classes = bounded.classes;
    keys = bounded.keys;
  }

  pub file_sound : is_path_text f.path ≡ true → IsSoundFile set version (record_of f)
  file_sound named =
      let lines = bounded.lines in
      let few = bounded.few in
      let fewer = fewer_spelled f.body.spans.items (arc_value f.body.tokens) in
      let functions = bounded.few_functions in
      let short = short_path f.path named in
      record {
        path = record { utf8 = is.utf8; short = omega (arith, short) };
        first_change = is.first_change;
        last_change = is.last_change;
        state = fault_sound f.body.state bounded.fault;
        lines = lines;
        ncloc = bounded.ncloc;
        complexity = bounded.complexity;
        few = omega (arith, few, fewer);
        tokens = tokens_sound set f.body.counts.lines lines f.body.lang f.body.spans.items (arc_value f.body.tokens) bounded.spans bounded.tokens bounded.classes;
        functions = record { few = omega (arith, functions); each = functions_sound set f.body.counts.lines lines f.body.functions.items bounded.functions };
        no_tokens = λ none. none_spelled f.body.spans.items (arc_value f.body.tokens) (bounded.no_tokens none);
        no_functions = λ none. bounded.no_functions none;
      }

module _ {L : Type 0} (set : Settings) (version : ℕ) where
  files_sound : (files : List (File (Work L))) → AllByRecursion (IsFileOf set version) files → AllByRecursion (λ (f : File (Work L)). is_path_text f.path ≡ true) files → AllByRecursion (IsSoundFile set version) (map record_of files)
  files_sound [] each named = tt
  files_sound (f ∷ files) each named = (file_sound set version f each.0 named.0, files_sound files each.1 named.1)

  all_one : (files : List (File (Work L))) → AllByRecursion (IsFileOf set version) files → All (IsOneFile set) files
  all_one [] each = All-nil (IsOneFile set)
  all_one (f ∷ files) each = All-cons (IsOneFile set) f files (one_file set version f each.0) (all_one files each.1)

  paths_good : (files : List (File (Work L))) → AllByRecursion (IsFileOf set version) files → AllByRecursion (λ (f : File (Work L)). is_path_text f.path ≡ true) files → AllByRecursion (λ (r : Recorded). is_path r.path ≡ true) (map record_of files)
  paths_good [] each named = tt
  paths_good (f ∷ files) each named = (ap (λ (b : Bool). b && is_path_text f.path) (is_utf8-from_IsUtf8 f.path each.0.utf8) ∙ named.0, paths_good files each.1 named.1)

rising_below : {L : Type 0} (p : List ℕ) (files : List (File (Work L))) → AllByRecursion (λ (f : File (Work L)). is_before p f.path ≡ true) files → AllByRecursion (λ (r : Recorded). is_before p r.path ≡ true) (map record_of files)
rising_below p [] low = tt
rising_below p (f ∷ files) low = (low.0, rising_below p files low.1)

rising_records : {L : Type 0} (files : List (File (Work L))) → AreRising (λ (f : File (Work L)). f.path) files → AreRising (λ (r : Recorded). r.path) (map record_of files)
rising_records [] rising = tt
rising_records (f ∷ files) rising = (rising_below f.path files rising.0, rising_records files rising.1)

pub both_ok : {X E : Type 0} (r : Result X E) (P Q R : X → Type 0) → ((x : X) → P x → Q x → R x) → IfOk r P → IfOk r Q → IfOk r R
both_ok (Ok x) P Q R both p q = both x p q
both_ok (Err e) P Q R both p q = tt

-- the version of sound changes with names of their form is a sound snapshot
pub version_sound : {L : Type 0} (set : Settings) (changes : List Change) (project : List ℕ) (s : Snapshot L) → IsInRange set → All IsSoundChange changes → All IsNamed changes → length changes ≤ set.change_limit → is_project project ≡ true
    → IsOfChanges set changes project s → AllByRecursion IsSoundCondition s.conditions.items → IsSoundSnapshot set s
version_sound {L} set changes project s range sound named few good of errors =
    let version = length changes in
    let files = version_bounded set changes version project s.files s.conditions.items sound of.are in
    let paths = named_files set changes version project s.files s.conditions.items named of.are in
    let name = short_project project good in
    let conditions = few_conditions changes version project sound in
    let chunk = range.chunk_most in
    let limit = range.change_limit_most in
    let many = files.few in
    let number = length-map s.files record_of in
    let is : s.version ≡ version = of.version_is in
    record {
      contents = record {
        head = record {
          chunk = omega (arith, chunk);
          version = omega (arith, is, few, limit);
          project = subst IsSoundText (sym of.project_is) (record { utf8 = project_utf8 project good; short = omega (arith, name) });
        };
        project = ap is_project of.project_is ∙ good;
        few_conditions = subst (λ (cs : List Condition). length cs ≤ 32) (sym of.are.conditions_are) conditions;
        conditions = errors;
        few_files = omega (arith, many, number, few, limit);
        files = subst (λ (v : ℕ). AllByRecursion (IsSoundFile set v) (map record_of s.files)) (sym is) (files_sound set version s.files files.each paths);
        paths = paths_good set version s.files files.each paths;
        rising = rising_records s.files files.rising;
        apart = subst (λ (ns : List ℕ). AllPairs (λ a b. a ≢ b) ns) (sym (same_changes s.files)) files.apart;
      };
      parts = all_one set version s.files files.each;
    }
