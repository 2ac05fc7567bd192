-- A version of a project with the works of its files, and the token file of it.
use Rattle.std.specs.Prelude.{◌≡◌, ◌≤◌, ℕ, ◌+◌, ◌-◌, ◌*◌, ◌^◌, min, sum_by, List, [], ◌∷◌, length, map, All, Option, Some, None}
use Rattle.std.specs.Arc.{arc_value}
use Rattle.std.specs.List.{AllByRecursion}
use Rattle.cq_base.specs.declared.lang.Lang.{Lang}
use Rattle.cq_base.specs.declared.norm.Norm.{Norm}
use Rattle.cq_base.specs.declared.settings.Settings.{Settings}
use Rattle.cq_base.specs.declared.token.Spelled.{Spelled}
use Rattle.cq_base.specs.declared.token.Token.{Token}
use Rattle.cq_func.specs.declared.function.Function.{Function}
use Rattle.cq_history.specs.Files.{File}
use Rattle.cq_work.specs.Keys.{window_keys}
use Rattle.cq_work.specs.declared.work.Work.{Work}
use Rattle.cq_work.specs.Lexing.{spelled_bytes}
use Rattle.cq_tokfile.specs.declared.encoding.Encoded.{Encoded}
use Rattle.cq_tokfile.specs.declared.encoding.Encoded.TheVariants as encoded
use Rattle.cq_tokfile.specs.declared.snapshot.Snapshot.{Snapshot}
use Rattle.cq_tokform.specs.Spelling.{Recorded, Contents, outcome, body, whole}
use Rattle.cq_tokform.specs.Sound.{IsSoundContents, IsSoundBody}

-- tokens with their places, one for one
abbrev pub spelled_of : List Token → List Norm → List Spelled
spelled_of [] norms = []
spelled_of (t ∷ spans) [] = []
spelled_of (t ∷ spans) (n ∷ norms) = record { token = t; text = n.text } ∷ spelled_of spans norms

-- a token as it is compared, of a file of this language
abbrev pub norm_in : Lang → Spelled → Norm
norm_in l s = record { lang = l; class = s.token.class; text = s.text }

-- what a token file has of a file and its work
abbrev pub record_of : {L : Type 0} → File (Work L) → Recorded
record_of f = record { path = f.path; change = f.number; lang = f.lang; state = f.body.state; counts = f.body.counts; tokens = spelled_of f.body.spans.items (arc_value f.body.tokens); functions = f.body.functions.items }

-- The parts of a file agree: one language, a token for each place, of the same class, and the keys are those of the
-- tokens.
pub record IsOneFile {L : Type 0} (settings : Settings) (f : File (Work L)) : Type 0 where
  pub lang : f.body.lang ≡ f.lang
  pub langs : All (λ (n : Norm). n.lang ≡ f.lang) (arc_value f.body.tokens)
  pub classes : map (λ (t : Token). t.class) f.body.spans.items ≡ map (λ (n : Norm). n.class) (arc_value f.body.tokens)
  pub keys : arc_value f.body.keys ≡ window_keys settings (arc_value f.body.tokens)

-- the files are made of these records
pub record AreMadeOf {L : Type 0} (settings : Settings) (records : List Recorded) (files : List (File (Work L))) : Type 0 where
  pub same : map record_of files ≡ records
  pub parts : All (IsOneFile settings) files

-- what a token file has of a snapshot
abbrev pub contents_of : {L : Type 0} → Snapshot L → Contents
contents_of s = record { head = record { version = s.version; project = s.project }; conditions = s.conditions.items; files = map record_of s.files }

-- a snapshot that a token file of these settings may have
pub record IsSoundSnapshot {L : Type 0} (settings : Settings) (s : Snapshot L) : Type 0 where
  pub contents : IsSoundContents settings (contents_of s)
  pub parts : All (IsOneFile settings) s.files

-- the bytes are the token file of a sound snapshot, whose body has the length that is written before it
pub record IsTokenFile {L : Type 0} (settings : Settings) (s : Snapshot L) (bytes : List ℕ) : Type 0 where
  pub sound : IsSoundSnapshot settings s
  pub fits : IsSoundBody (body settings (contents_of s))
  pub is : bytes ≡ whole settings (contents_of s)

-- the bytes are read to the snapshot whose token file they are, and to none if they are not a token file
abbrev pub Decodes : {L : Type 0} → Settings → List ℕ → Option (Snapshot L) → Type 0
Decodes settings bytes (Some s) = IsTokenFile settings s bytes
Decodes {L} settings bytes None = (s : Snapshot L) → IsTokenFile settings s bytes → ⊥

-- a snapshot is written as its token file, or its body is too large
abbrev pub Encodes : {L : Type 0} → Settings → Snapshot L → Encoded → Type 0
Encodes settings s (encoded.Bytes bytes) = IsTokenFile settings s bytes.items
Encodes settings s encoded.TooLarge = (IsSoundBody (body settings (contents_of s)) → ⊥)

-- ---- for a private clause: a file has as many tokens as a file may have, and these have no more bytes than a body

abbrev pub HasFewTokens : Recorded → Type 0
HasFewTokens f = length f.tokens ≤ 262144

abbrev pub HaveFewTokens : List Recorded → Type 0
HaveFewTokens files = AllByRecursion HasFewTokens files

abbrev pub HasShortTokens : Recorded → Type 0
HasShortTokens f = spelled_bytes f.tokens ≤ 268435456

abbrev pub HaveShortTokens : List Recorded → Type 0
HaveShortTokens files = AllByRecursion HasShortTokens files

-- there is a token for each place of one
abbrev pub HasTokenForEachPlace : {L : Type 0} → File (Work L) → Type 0
HasTokenForEachPlace f = length f.body.spans.items ≡ length (arc_value f.body.tokens)

-- how many bytes are written of tokens, of functions and of a file with its work
abbrev pub tokens_length : List Norm → ℕ
tokens_length norms = sum_by (λ (n : Norm). 21 + length n.text) norms

abbrev pub functions_length : List Function → ℕ
functions_length functions = sum_by (λ (f : Function). 16 + length f.name) functions

abbrev pub file_length : {L : Type 0} → File (Work L) → ℕ
file_length f = 45 + length f.path + length (outcome f.body.state) + tokens_length (arc_value f.body.tokens) + functions_length f.body.functions.items

abbrev pub files_length : {L : Type 0} → List (File (Work L)) → ℕ
files_length files = sum_by file_length files

-- of a body: its head, its conditions and its files
abbrev pub body_length : {L : Type 0} → Snapshot L → ℕ
body_length s = 26 + length s.project + 10 * length s.conditions.items + files_length s.files

-- a number, or the greatest that eight bytes hold
abbrev pub capped : ℕ → ℕ
capped n = min n (2 ^ 64 - 1)
