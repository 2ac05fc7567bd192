-- Why a line is refused: the code and the word of each refusal, and the member or the count that it reports.
use Rattle.std.specs.Prelude.{ℕ, List, Option, Some, None, IfSome, codes}
use Rattle.std.specs.Str.{IsUtf8}
use Rattle.cq_base.specs.declared.refusal.Refusal.{Refusal}
use Rattle.cq_base.specs.declared.refusal.Refusal.TheVariants as refusal

abbrev pub refusal_code : Refusal → ℕ
refusal_code refusal.Json = 1
refusal_code refusal.Op = 2
refusal_code (refusal.Field name) = 3
refusal_code refusal.Lang = 4
refusal_code refusal.Path = 5
refusal_code refusal.TooMuchText = 6
refusal_code refusal.Min = 7
refusal_code refusal.Scope = 15
refusal_code (refusal.Future n) = 8
refusal_code refusal.Absent = 9
refusal_code refusal.FullChanges = 10
refusal_code refusal.FullText = 11

abbrev pub refusal_word : Refusal → List ℕ
refusal_word refusal.Json = codes "json"
refusal_word refusal.Op = codes "op"
refusal_word (refusal.Field name) = codes "field"
refusal_word refusal.Lang = codes "lang"
refusal_word refusal.Path = codes "path"
refusal_word refusal.TooMuchText = codes "text"
refusal_word refusal.Min = codes "min"
refusal_word refusal.Scope = codes "scope"
refusal_word (refusal.Future n) = codes "future"
refusal_word refusal.Absent = codes "absent"
refusal_word refusal.FullChanges = codes "full-changes"
refusal_word refusal.FullText = codes "full-text"

-- the name of a member, if it is refused for one
abbrev pub refusal_name : Refusal → Option (List ℕ)
refusal_name (refusal.Field name) = Some name
refusal_name _ = None

-- the count of accepted changes, if a later version is asked for
abbrev pub refusal_count : Refusal → Option ℕ
refusal_count (refusal.Future n) = Some n
refusal_count _ = None

-- the name is UTF-8
abbrev pub IsSoundRefusal : Refusal → Type 0
IsSoundRefusal why = IfSome (refusal_name why) IsUtf8
