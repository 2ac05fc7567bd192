-- What may stand in a token file.
use Rattle.std.specs.Prelude.{All, AllPairs, ◌≡◌, ◌≢◌, ◌≤◌, ◌<◌, ◌^◌, ℕ, ◌+◌, nat_le, ◌==◌, List, [], ◌∷◌, length, map, Bool, true, false, ◌&&◌, ◌||◌, not}
use Rattle.std.specs.List.{AllByRecursion, list_all}
use Rattle.std.specs.Str.{IsUtf8}
use Rattle.cq_base.specs.declared.settings.Settings.{Settings}
use Rattle.cq_base.specs.declared.change.Condition.{Condition}
use Rattle.cq_base.specs.declared.token.Spelled.{Spelled}
use Rattle.cq_func.specs.declared.function.Function.{Function}
use Rattle.cq_history.specs.Files.{is_before}
use Rattle.cq_names.specs.Names.{is_path, is_project}
use Rattle.cq_projects.specs.Ordered.{AreRising}
use Rattle.cq_tokform.specs.declared.head.Head.{Head}
use Rattle.cq_work.specs.Bounds.{is_ignored, has_tokens}
use Rattle.cq_work.specs.declared.work.State.{State}
use Rattle.cq_work.specs.declared.work.State.TheVariants as states
use Rattle.cq_tokform.specs.Spelling.{Recorded, Contents, flag, body}

-- a text of a token file: UTF-8, with a length that four bytes hold
pub record IsSoundText (bytes : List ℕ) : Type 0 where
  pub utf8 : IsUtf8 bytes
  pub short : length bytes < 2 ^ 32

-- what is in a condition has eight bytes
pub record IsSoundCondition (c : Condition) : Type 0 where
  pub error : c.error < 2 ^ 64

-- a token lies within 1,048,576 bytes and within the lines of its file; one of an ignored class has no text
pub record IsSoundToken (settings : Settings) (lines : ℕ) (s : Spelled) : Type 0 where
  pub within : s.token.start + s.token.len ≤ 1048576
  pub first : 1 ≤ s.token.first_line
  pub in_order : s.token.first_line ≤ s.token.last_line
  pub last : s.token.last_line ≤ lines
  pub last_short : s.token.last_line < 2 ^ 32
  pub text : IsSoundText s.text
  pub ignored : is_ignored settings s.token.class ≡ true → s.text ≡ []

-- a function lies within the lines of its file
pub record IsSoundFunction (lines : ℕ) (f : Function) : Type 0 where
  pub name : IsSoundText f.name
  pub first : 1 ≤ f.first
  pub in_order : f.first ≤ f.last
  pub last : f.last ≤ lines
  pub last_short : f.last < 2 ^ 32
  pub complexity : f.complexity < 2 ^ 32

-- what of this is tested once a token's texts and numbers were read
abbrev pub is_sound_token : Settings → ℕ → Spelled → Bool
is_sound_token settings lines s =
    nat_le (s.token.start + s.token.len) 1048576
    && (nat_le 1 s.token.first_line
    && (nat_le s.token.first_line s.token.last_line
    && (nat_le s.token.last_line lines
    && (not (is_ignored settings s.token.class) || (length s.text == 0)))))

-- and of a function
abbrev pub is_sound_function : ℕ → Function → Bool
is_sound_function lines f = nat_le 1 f.first && (nat_le f.first f.last && nat_le f.last lines)

-- a list whose number of elements four bytes hold, each of them sound
pub record AreCounted {A : Type 0} (IsSound : A → Type 0) (xs : List A) : Type 0 where
  pub few : length xs < 2 ^ 32
  pub each : AllByRecursion IsSound xs

-- a fault stands at a place that four bytes hold
abbrev pub IsSoundState : State → Type 0
IsSoundState states.Ok = Unit {0}
IsSoundState (states.Fault at) = at < 2 ^ 32
IsSoundState states.Large = Unit {0}

-- A file of a version: its change is one of those up to it, its counts and tokens are within their bounds, and it has
-- tokens and functions only if its reading gave them.
pub record IsSoundFile (settings : Settings) (version : ℕ) (f : Recorded) : Type 0 where
  pub path : IsSoundText f.path
  pub first_change : 1 ≤ f.change
  pub last_change : f.change ≤ version
  pub state : IsSoundState f.state
  pub lines : f.counts.lines ≤ 1048576
  pub ncloc : f.counts.ncloc ≤ f.counts.lines
  pub complexity : f.counts.complexity ≤ 262145
  pub few : length f.tokens ≤ 262144
  pub tokens : AllByRecursion (IsSoundToken settings f.counts.lines) f.tokens
  pub functions : AreCounted (IsSoundFunction f.counts.lines) f.functions
  pub no_tokens : has_tokens f.state ≡ false → f.tokens ≡ []
  pub no_functions : has_tokens f.state ≡ false → f.functions ≡ []

-- what of this is tested once a file was read
abbrev pub is_sound_file : ℕ → Recorded → Bool
is_sound_file version f =
    nat_le 1 f.change
    && (nat_le f.change version
    && (nat_le f.counts.lines 1048576
    && (nat_le f.counts.ncloc f.counts.lines
    && (nat_le f.counts.complexity 262145
    && (nat_le (length f.tokens) 262144
    && ((has_tokens f.state || (length f.tokens == 0))
    && (has_tokens f.state || (length f.functions == 0))))))))

-- what can be written of a file: four bytes hold each length
pub record HasSpelling (f : Recorded) : Type 0 where
  pub path : length f.path < 2 ^ 32
  pub few_tokens : length f.tokens < 2 ^ 32
  pub tokens : All (λ s. length s.text < 2 ^ 32) f.tokens
  pub few_functions : length f.functions < 2 ^ 32
  pub functions : All (λ g. length g.name < 2 ^ 32) f.functions

-- a body has at most 268,435,456 bytes
abbrev pub IsSoundBody : List ℕ → Type 0
IsSoundBody body = length body ≤ 268435456

-- a version is at most 2^60, and four bytes hold the chunk
pub record IsSoundHead (settings : Settings) (h : Head) : Type 0 where
  pub chunk : settings.chunk < 2 ^ 32
  pub version : h.version ≤ 2 ^ 60
  pub project : IsSoundText h.project

-- whether the numbers of a head are those of a version and of the settings
abbrev pub is_sound_head : Settings → ℕ → ℕ → ℕ → ℕ → Bool
is_sound_head settings version chunk ids lits =
    nat_le version (2 ^ 60)
    && ((chunk == settings.chunk)
    && ((ids == flag settings.ignore_ids)
    && (lits == flag settings.ignore_lits)))

-- the changes that put the files
abbrev pub changes_in : List Recorded → List ℕ
changes_in files = map (λ (f : Recorded). f.change) files

-- What a token file has of a snapshot of these settings: its project and its paths have the form of one, it has as many
-- conditions as a gate may have and as many files as changes may put, in the order of their paths, and each was put by a
-- change of its own.
pub record IsSoundContents (settings : Settings) (c : Contents) : Type 0 where
  pub head : IsSoundHead settings c.head
  pub project : is_project c.head.project ≡ true
  pub few_conditions : length c.conditions ≤ 32
  pub conditions : AllByRecursion IsSoundCondition c.conditions
  pub few_files : length c.files ≤ 262144
  pub files : AllByRecursion (IsSoundFile settings c.head.version) c.files
  pub paths : AllByRecursion (λ (f : Recorded). is_path f.path ≡ true) c.files
  pub rising : AreRising (λ (f : Recorded). f.path) c.files
  pub apart : AllPairs (λ a b. a ≢ b) (changes_in c.files)

-- and its body has the length that stands before it
pub record IsSoundWhole (settings : Settings) (c : Contents) : Type 0 where
  pub contents : IsSoundContents settings c
  pub fits : IsSoundBody (body settings c)

-- whether each is before the next
abbrev pub rise : {X : Type 0} → (X → X → Bool) → List X → Bool
rise before [] = true
rise before (x ∷ []) = true
rise before (x ∷ y ∷ xs) = before x y && rise before (y ∷ xs)

abbrev pub is_path_before : Recorded → Recorded → Bool
is_path_before f g = is_before f.path g.path

-- whether no number is there twice
abbrev pub are_apart : List ℕ → Bool
are_apart [] = true
are_apart (n ∷ numbers) = list_all (λ (m : ℕ). not (m == n)) numbers && are_apart numbers

-- what of this is tested once the parts were read: of the files, and of all but their changes, and of these
abbrev pub have_form : List Recorded → Bool
have_form files = nat_le (length files) 262144 && list_all (λ (f : Recorded). is_path f.path) files

abbrev pub has_form : Contents → Bool
has_form c = is_project c.head.project && (nat_le (length c.conditions) 32 && (have_form c.files && rise is_path_before c.files))

abbrev pub is_sound_contents : Contents → Bool
is_sound_contents c = has_form c && are_apart (changes_in c.files)
