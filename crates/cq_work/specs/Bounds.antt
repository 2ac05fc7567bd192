-- The bounds of a work: what is so of that of each text of UTF-8 of at most 1,048,576 bytes.
use Rattle.std.specs.Prelude.{◌≡◌, ◌≤◌, ℕ, ◌+◌, Bool, true, false, List, [], length, map, ⊤}
use Rattle.std.specs.Arc.{arc_value}
use Rattle.std.specs.List.{AllByRecursion}
use Rattle.std.specs.Str.{IsUtf8}
use Rattle.cq_base.specs.declared.lang.Lang.{Lang}
use Rattle.cq_base.specs.declared.norm.Norm.{Norm}
use Rattle.cq_base.specs.declared.settings.Settings.{Settings}
use Rattle.cq_base.specs.declared.token.Class.{Class}
use Rattle.cq_base.specs.declared.token.Class.TheVariants as class
use Rattle.cq_base.specs.declared.token.Token.{Token}
use Rattle.cq_func.specs.declared.function.Function.{Function}
use Rattle.cq_work.specs.Keys.{window_keys}
use Rattle.cq_work.specs.declared.work.State.{State}
use Rattle.cq_work.specs.declared.work.State.TheVariants as state
use Rattle.cq_work.specs.declared.work.Work.{Work}
use Rattle.cq_work.specs.Work.{IsWorkOf}

-- whether tokens of this class are one token each
abbrev pub is_ignored : Settings → Class → Bool
is_ignored settings class.Ident = settings.ignore_ids
is_ignored settings class.Word = false
is_ignored settings class.Literal = settings.ignore_lits
is_ignored settings class.Punct = false

-- whether the reading of a text gave its tokens
abbrev pub has_tokens : State → Bool
has_tokens state.Ok = true
has_tokens (state.Fault at) = false
has_tokens state.Large = false

-- a fault is no farther than this byte
abbrev pub IsFaultWithin : ℕ → State → Type 0
IsFaultWithin most state.Ok = ⊤
IsFaultWithin most (state.Fault at) = at ≤ most
IsFaultWithin most state.Large = ⊤

-- a token lies within so many bytes, and its lines are in order and among so many, the first of which is 1
pub record IsWithin (most lines : ℕ) (t : Token) : Type 0 where
  pub bytes : t.start + t.len ≤ most
  pub first : 1 ≤ t.first_line
  pub in_order : t.first_line ≤ t.last_line
  pub last : t.last_line ≤ lines

-- UTF-8, at most four bytes for each of a text
pub record IsSpelling (text : List ℕ) : Type 0 where
  pub utf8 : IsUtf8 text
  pub short : length text ≤ 4194304

-- a token as it is compared in a text of this language: if its class is ignored it has no spelling
pub record IsCompared (settings : Settings) (l : Lang) (n : Norm) : Type 0 where
  pub lang : n.lang ≡ l
  pub text : IsSpelling n.text
  pub ignored : is_ignored settings n.class ≡ true → n.text ≡ []

-- a function has a spelling as its name, its lines are in order and among so many, and it has no more decisions than tokens
pub record IsFunctionWithin (lines : ℕ) (f : Function) : Type 0 where
  pub name : IsSpelling f.name
  pub first : 1 ≤ f.first
  pub in_order : f.first ≤ f.last
  pub last : f.last ≤ lines
  pub complexity : f.complexity ≤ 262145

-- Tokens and functions lie within the lines that are counted, there is a token for each place, of the same class, and where
-- the reading gave no tokens, there are none, and no functions.
pub record IsBounded {L : Type 0} (settings : Settings) (work : Work L) : Type 0 where
  pub fault : IsFaultWithin 1048576 work.state
  pub lines : work.counts.lines ≤ 1048576
  pub ncloc : work.counts.ncloc ≤ work.counts.lines
  pub complexity : work.counts.complexity ≤ 262145
  pub few : length work.spans.items ≤ 262144
  pub spans : AllByRecursion (IsWithin 1048576 work.counts.lines) work.spans.items
  pub tokens : AllByRecursion (IsCompared settings work.lang) (arc_value work.tokens)
  pub classes : map (λ (t : Token). t.class) work.spans.items ≡ map (λ (n : Norm). n.class) (arc_value work.tokens)
  pub keys : arc_value work.keys ≡ window_keys settings (arc_value work.tokens)
  pub few_functions : length work.functions.items ≤ 262144
  pub functions : AllByRecursion (IsFunctionWithin work.counts.lines) work.functions.items
  pub no_tokens : has_tokens work.state ≡ false → work.spans.items ≡ []
  pub no_functions : has_tokens work.state ≡ false → work.functions.items ≡ []

-- ---- the law

-- whatever the settings and the language
abbrev pub WorksAreBounded : Type 0 → Type 0
WorksAreBounded L = (settings : Settings) (l : Lang) (text : List ℕ) (work : Work L) → IsUtf8 text → length text ≤ 1048576 → IsWorkOf settings l text work → IsBounded settings work
