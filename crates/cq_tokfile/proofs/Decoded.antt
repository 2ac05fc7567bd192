-- A snapshot that was made of what was read: its parts agree, it has what was read, and its tokens are short.
use Rattle.std.proofs.Common.{◌≡◌, ◌≢◌, ℕ, ◌+◌, ◌≤◌, true, List, [], ◌∷◌, ◌++◌, length, map, refl, sym, ap, ap₂, subst, ◌∙◌, append_assoc, arith, length-append}
use Rattle.std.specs.Prelude.{All, AllPairs}
use Rattle.std.specs.Arc.{arc_value}
use Rattle.std.specs.Int.{w32, w64, to_be_bytes}
use Rattle.std.specs.List.{AllByRecursion, flat_map}
use Rattle.std.proofs.lemmas.List.{append-nil, map_push}
use Rattle.std.proofs.lemmas.List.Concat.{flat_map-cons}
use Rattle.std.proofs.lemmas.List.Elements.{All-nil, All-cons, All-push}
use Rattle.std.proofs.lemmas.List.Sums.{sum_by-cons}
use Rattle.cq_base.specs.declared.lang.Lang.{Lang}
use Rattle.cq_base.specs.declared.norm.Norm.{Norm}
use Rattle.cq_base.specs.declared.settings.Settings.{Settings}
use Rattle.cq_base.specs.declared.token.Spelled.{Spelled}
use Rattle.cq_base.specs.declared.token.Token.{Token}
use Rattle.cq_history.specs.Files.{File, is_before}
use Rattle.cq_work.specs.Keys.{window_keys}
use Rattle.cq_normal.specs.Kept.{spans_of}
use Rattle.cq_projects.specs.Ordered.{AreRising}
use Rattle.cq_projects.specs.Projects.{path_of}
use Rattle.cq_projects.specs.Spotted.{numbers_of}
use Rattle.cq_tokens.specs.Packed.{spelling_bytes}
use Rattle.cq_work.specs.declared.work.Work.{Work}
use Rattle.cq_work.specs.Lexing.{spelled_bytes}
use Rattle.cq_tokfile.specs.declared.snapshot.Snapshot.{Snapshot}
use Rattle.cq_tokform.specs.Spelling.{Recorded, Contents, text, place, token, function, counted, language, outcome, file, head, condition, body, whole}
use Rattle.cq_tokform.specs.Spelling.{counts as counts_bytes}
use Rattle.cq_tokform.specs.Sound.{IsSoundFile, IsSoundBody, IsSoundContents, IsSoundWhole, changes_in}
use Rattle.cq_tokform.specs.Reading.{whole_at}
use Rattle.cq_tokfile.specs.Snapshot.{spelled_of, norm_in, record_of, contents_of, IsOneFile, AreMadeOf, IsSoundSnapshot, IsTokenFile, HaveFewTokens, HaveShortTokens}
use Rattle.cq_tokform.proofs.Fields.{one_form}
use Rattle.cq_tokform.proofs.Wholes.{wholes}

-- ---- the tokens of a file, apart and together again

pub spelled_again : (l : Lang) (tokens : List Spelled) → spelled_of (spans_of tokens) (map (norm_in l) tokens) ≡ tokens
spelled_again l [] = refl
spelled_again l (s ∷ tokens) = ap (λ (rest : List Spelled). s ∷ rest) (spelled_again l tokens)

pub of_one_lang : (l : Lang) (tokens : List Spelled) → All (λ (n : Norm). n.lang ≡ l) (map (norm_in l) tokens)
of_one_lang l [] = All-nil (λ (n : Norm). n.lang ≡ l)
of_one_lang l (s ∷ tokens) = All-cons (λ (n : Norm). n.lang ≡ l) (norm_in l s) (map (norm_in l) tokens) refl (of_one_lang l tokens)

pub same_classes : (l : Lang) (tokens : List Spelled) → map (λ (t : Token). t.class) (spans_of tokens) ≡ map (λ (n : Norm). n.class) (map (norm_in l) tokens)
same_classes l [] = refl
same_classes l (s ∷ tokens) = ap₂ (λ c cs. c ∷ cs) refl (same_classes l tokens)

pub as_short : (l : Lang) (tokens : List Spelled) → spelling_bytes (map (norm_in l) tokens) ≡ spelled_bytes tokens
as_short l [] = refl
as_short l (s ∷ tokens) =
    sum_by-cons (λ (n : Norm). length n.text) (norm_in l s) (map (norm_in l) tokens)
    ∙ ap (λ (k : ℕ). length s.text + k) (as_short l tokens)
    ∙ sym (sum_by-cons (λ (s : Spelled). length s.text) s tokens)

-- a file that is made of a record with these tokens
module _ {L : Type 0} (settings : Settings) (f : File (Work L)) (tokens : List Spelled) where
  pub tokens_made : f.body.spans.items ≡ spans_of tokens → arc_value f.body.tokens ≡ map (norm_in f.lang) tokens → spelled_of f.body.spans.items (arc_value f.body.tokens) ≡ tokens
  tokens_made spans norms = ap₂ spelled_of spans norms ∙ spelled_again f.lang tokens

  pub one_file : f.body.lang ≡ f.lang → f.body.spans.items ≡ spans_of tokens → arc_value f.body.tokens ≡ map (norm_in f.lang) tokens → arc_value f.body.keys ≡ window_keys settings (map (norm_in f.lang) tokens) → IsOneFile settings f
  one_file lang spans norms keys = record {
    lang = lang;
    langs = subst (λ (ns : List Norm). All (λ (n : Norm). n.lang ≡ f.lang) ns) (sym norms) (of_one_lang f.lang tokens);
    classes = ap (map (λ (t : Token). t.class)) spans ∙ same_classes f.lang tokens ∙ sym (ap (map (λ (n : Norm). n.class)) norms);
    keys = keys ∙ ap (window_keys settings) (sym norms);
  }

-- what a token file has of a file with these parts
pub record_same : {L : Type 0} (f : File (Work L)) (r : Recorded) → f.path ≡ r.path → f.number ≡ r.change → f.lang ≡ r.lang → f.body.state ≡ r.state → f.body.counts ≡ r.counts
    → spelled_of f.body.spans.items (arc_value f.body.tokens) ≡ r.tokens → f.body.functions.items ≡ r.functions → record_of f ≡ r
record_same f r path change lang state counts tokens functions = λ i. record { path = path i; change = change i; lang = lang i; state = state i; counts = counts i; tokens = tokens i; functions = functions i }

-- ---- the bytes of tokens are among those of a body

behind : (n : ℕ) (front back : List ℕ) → n ≤ length back → n ≤ length (front ++ back)
behind n front back le = let both = length-append front back in omega (arith, le, both)

before : (n : ℕ) (front back : List ℕ) → n ≤ length front → n ≤ length (front ++ back)
before n front back le = let both = length-append front back in omega (arith, le, both)

tokens_within : (tokens : List Spelled) → spelled_bytes tokens ≤ length (flat_map token tokens)
tokens_within [] = omega arith
tokens_within (s ∷ tokens) =
    let rest = tokens_within tokens in
    let bytes = sum_by-cons (λ (s : Spelled). length s.text) s tokens in
    let spelled = ap length (flat_map-cons token s tokens) in
    let both = length-append (token s) (flat_map token tokens) in
    let one = behind (length s.text) (place s.token) (text s.text) (behind (length s.text) (to_be_bytes w32 (length s.text)) s.text (omega arith)) in
    omega (arith, rest, bytes, spelled, both, one)

file_within : (f : Recorded) → spelled_bytes f.tokens ≤ length (file f)
file_within f =
    let n = spelled_bytes f.tokens in
    let list = behind n (to_be_bytes w32 (length f.tokens)) (flat_map token f.tokens) (tokens_within f.tokens) in
    let lists = counted token f.tokens ++ counted function f.functions in
    let told = counts_bytes f.counts ++ lists in
    let read = outcome f.state ++ told in
    let lang = language f.lang ++ read in
    behind n (text f.path) (to_be_bytes w64 f.change ++ lang) (behind n (to_be_bytes w64 f.change) lang (behind n (language f.lang) read (behind n (outcome f.state) told (behind n (counts_bytes f.counts) lists
    (before n (counted token f.tokens) (counted function f.functions) list)))))

files_within : (n : ℕ) (files : List Recorded) → length (flat_map file files) ≤ n → AllByRecursion (λ (f : Recorded). spelled_bytes f.tokens ≤ n) files
files_within n [] le = tt
files_within n (f ∷ files) le =
    let here = file_within f in
    let spelled = ap length (flat_map-cons file f files) in
    let both = length-append (file f) (flat_map file files) in
    (omega (arith, here, spelled, both, le), files_within n files (omega (arith, spelled, both, le)))

pub short_tokens : (settings : Settings) (c : Contents) → IsSoundBody (body settings c) → HaveShortTokens c.files
short_tokens settings c fits =
    let all = length-append (head settings c.head) (counted condition c.conditions ++ counted file c.files) in
    let lists = length-append (counted condition c.conditions) (counted file c.files) in
    let last = length-append (to_be_bytes w32 (length c.files)) (flat_map file c.files) in
    files_within 268435456 c.files (omega (arith, fits, all, lists, last))

pub few_tokens : (settings : Settings) (version : ℕ) (files : List Recorded) → AllByRecursion (IsSoundFile settings version) files → HaveFewTokens files
few_tokens settings version [] sound = tt
few_tokens settings version (f ∷ files) sound = (sound.0.few, few_tokens settings version files sound.1)

-- ---- files that are made one by one

-- so many files are made, and these records are left
pub record AreMadeSoFar {L : Type 0} (settings : Settings) (records : List Recorded) (files : List (File (Work L))) (left : List Recorded) : Type 0 where
  pub same : map record_of files ++ left ≡ records
  pub parts : All (IsOneFile settings) files
  pub few : HaveFewTokens left
  pub short : HaveShortTokens left

module _ {L : Type 0} (settings : Settings) (records : List Recorded) where
  pub made_none : (files : List (File (Work L))) → files ≡ [] → HaveFewTokens records → HaveShortTokens records → AreMadeSoFar settings records files records
  made_none files none few short = subst (λ (fs : List (File (Work L))). AreMadeSoFar settings records fs records) (sym none) (record { same = refl; parts = All-nil (IsOneFile settings); few = few; short = short })

  pub made_more : (files more : List (File (Work L))) (left rest : List Recorded) (f : File (Work L)) (r : Recorded) → left ≡ r ∷ rest → more ≡ files ++ f ∷ [] → record_of f ≡ r → IsOneFile settings f
      → AreMadeSoFar settings records files left → AreMadeSoFar settings records more rest
  made_more files more left rest f r left_is more_is same one so_far =
      let before : AreMadeSoFar settings records files (r ∷ rest) = subst (λ (ls : List Recorded). AreMadeSoFar settings records files ls) left_is so_far in
      let moved : map record_of (files ++ f ∷ []) ++ rest ≡ map record_of files ++ r ∷ rest =
      ap (λ (rs : List Recorded). rs ++ rest) (map_push record_of files f) ∙ append_assoc (map record_of files) (record_of f ∷ []) rest ∙ ap (λ (x : Recorded). map record_of files ++ x ∷ rest) same in
      subst (λ (fs : List (File (Work L))). AreMadeSoFar settings records fs rest) (sym more_is) (record {
        same = moved ∙ before.same;
        parts = All-push (IsOneFile settings) files f before.parts one;
        few = before.few.1;
        short = before.short.1;
      })

  pub made_all : (files : List (File (Work L))) (left : List Recorded) → left ≡ [] → AreMadeSoFar settings records files left → AreMadeOf settings records files
  made_all files left none so_far =
      let all : AreMadeSoFar settings records files [] = subst (λ (ls : List Recorded). AreMadeSoFar settings records files ls) none so_far in
      record { same = sym (append-nil (map record_of files)) ∙ all.same; parts = all.parts }

-- the order of the files is that of what a token file has of them, and so are their changes
module _ {L : Type 0} where
  ahead : (p : List ℕ) (files : List (File (Work L))) → AllByRecursion (λ (g : Recorded). is_before p g.path ≡ true) (map record_of files) → AllByRecursion (λ (g : File (Work L)). is_before p g.path ≡ true) files
  ahead p [] all = tt
  ahead p (g ∷ files) all = (all.0, ahead p files all.1)

  pub rising_made : (files : List (File (Work L))) → AreRising (λ (f : Recorded). f.path) (map record_of files) → AreRising path_of files
  rising_made [] rising = tt
  rising_made (f ∷ files) rising = (ahead f.path files rising.0, rising_made files rising.1)

pub same_changes : {L : Type 0} (files : List (File (Work L))) → changes_in (map record_of files) ≡ numbers_of files
same_changes [] = refl
same_changes (f ∷ files) = ap (λ (ns : List ℕ). f.number ∷ ns) (same_changes files)

-- a snapshot whose files are made of sound contents
module _ {L : Type 0} (settings : Settings) (c : Contents) (files : List (File (Work L))) where
  pub rising_snapshot : IsSoundContents settings c → map record_of files ≡ c.files → AreRising path_of files
  rising_snapshot sound same = rising_made files (subst (AreRising (λ (f : Recorded). f.path)) (sym same) sound.rising)

  pub apart_snapshot : IsSoundContents settings c → map record_of files ≡ c.files → AllPairs (λ a b. a ≢ b) (numbers_of files)
  apart_snapshot sound same = subst (λ (ns : List ℕ). AllPairs (λ a b. a ≢ b) ns) (sym (ap changes_in same) ∙ same_changes files) sound.apart

pub sound_snapshot : {L : Type 0} (settings : Settings) (c : Contents) (s : Snapshot L) → IsSoundContents settings c → contents_of s ≡ c → All (IsOneFile settings) s.files → IsSoundSnapshot settings s
sound_snapshot settings c s sound same parts = record { contents = subst (IsSoundContents settings) (sym same) sound; parts = parts }

-- ---- what the whole tells

module _ {L : Type 0} (settings : Settings) (bytes : List ℕ) where
  pub is_token_file : (c : Contents) (rest : List ℕ) (s : Snapshot L) → IsSoundWhole settings c → bytes ≡ whole settings c ++ rest → rest ≡ [] → contents_of s ≡ c → IsSoundSnapshot settings s → IsTokenFile settings s bytes
  is_token_file c rest s sound is none same of = record {
    sound = of;
    fits = subst (λ (k : Contents). IsSoundBody (body settings k)) (sym same) sound.fits;
    is = is ∙ ap (λ (r : List ℕ). whole settings c ++ r) none ∙ append-nil (whole settings c) ∙ ap (whole settings) (sym same);
  }

  whole_of_file : (s : Snapshot L) → IsTokenFile settings s bytes → IsSoundWhole settings (contents_of s)
  whole_of_file s of = record { contents = of.sound.contents; fits = of.fits }

  pub left_over : (c : Contents) (rest : List ℕ) → IsSoundWhole settings c → bytes ≡ whole settings c ++ rest → (rest ≡ [] → ⊥) → (s : Snapshot L) → IsTokenFile settings s bytes → ⊥
  left_over c rest sound is some s of =
      some (one_form (whole settings) (IsSoundWhole settings) (whole_at settings) (wholes settings) c (contents_of s) rest [] sound (whole_of_file s of) (sym is ∙ of.is ∙ sym (append-nil (whole settings (contents_of s))))).1

  pub not_read : ((a : Contents) (rest : List ℕ) → IsSoundWhole settings a → bytes ≡ whole settings a ++ rest → ⊥) → (s : Snapshot L) → IsTokenFile settings s bytes → ⊥
  not_read none s of = none (contents_of s) [] (whole_of_file s of) (of.is ∙ sym (append-nil (whole settings (contents_of s))))
