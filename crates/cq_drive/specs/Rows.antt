-- The steps of a script: for each, its fields in the order in which they are checked.
use Rattle.std.specs.Prelude.{ℕ, List, [], ◌∷◌, map, Bool, true, false, nat_lt, if◌then◌else◌, Option, Some, None, is_some, option_and_then, option_map, unwrap_or, codes}
use Rattle.std.specs.Str.{bytes_eq}
use Rattle.serde_json.specs.Data.{Data}
use Rattle.cq_request.specs.declared.row.Op.{Op}
use Rattle.cq_request.specs.declared.row.Op.TheVariants as op
use Rattle.cq_request.specs.Members.{text_at, number_of}
use Rattle.cq_request.specs.Tables.{Rule, fault_in}
use Rattle.cq_request.specs.Rows.{op_of}
use Rattle.cq_drive.specs.declared.row.StepKind.{StepKind}
use Rattle.cq_drive.specs.declared.row.StepKind.TheVariants as kind
use Rattle.cq_drive.specs.declared.row.Field.{Field}
use Rattle.cq_drive.specs.declared.row.Field.TheVariants as field

-- the fields, if the index has so many shards
abbrev pub row_of : ℕ → StepKind → List Field
row_of shards kind.Accept = field.By ∷ field.ChangeRequest ∷ []
row_of shards kind.Ask = field.By ∷ []
row_of shards kind.Took = field.By ∷ []
row_of shards kind.Back = field.By ∷ field.Change ∷ []
row_of shards kind.Done = field.By ∷ field.Change ∷ []
row_of shards kind.Apply = field.Shard shards ∷ []
row_of shards kind.Publish = field.Version ∷ []
row_of shards kind.Open = field.By ∷ []
row_of shards kind.Read = field.By ∷ field.Shard shards ∷ field.Key ∷ []
row_of shards kind.Reply = field.By ∷ field.QueryRequest ∷ []
row_of shards kind.Shut = field.By ∷ []
row_of shards kind.Floor = field.Version ∷ []
row_of shards kind.Sweep = field.Shard shards ∷ []

-- the whole number that a value is, if it is below a bound
abbrev pub below : ℕ → Data → Option ℕ
below bound d = option_and_then (λ n. if nat_lt n bound then Some n else None) (number_of d)

abbrev pub is_change : Op → Bool
is_change op.Put = true
is_change op.Drop = true
is_change op.Gate = true
is_change op.Files = false
is_change op.Groups = false
is_change op.Measures = false
is_change op.Verdict = false
is_change op.Functions = false
is_change op.State = false

abbrev pub is_query : Op → Bool
is_query op.Put = false
is_query op.Drop = false
is_query op.Gate = false
is_query op.Files = true
is_query op.Groups = true
is_query op.Measures = true
is_query op.Verdict = true
is_query op.Functions = true
is_query op.State = false

-- an object that asks for a change, and one that asks for a query
abbrev pub is_change_request : Data → Bool
is_change_request d = unwrap_or (option_map is_change (op_of d)) false

abbrev pub is_query_request : Data → Bool
is_query_request d = unwrap_or (option_map is_query (op_of d)) false

-- the form of each field; callers are 0 to 15
abbrev pub is_of_form : Field → Data → Bool
is_of_form field.By d = is_some (below 16 d)
is_of_form field.Change d = is_some (number_of d)
is_of_form (field.Shard shards) d = is_some (below shards d)
is_of_form field.Version d = is_some (number_of d)
is_of_form field.Key d = is_some (number_of d)
is_of_form field.ChangeRequest d = is_change_request d
is_of_form field.QueryRequest d = is_query_request d

abbrev pub key_of : Field → List ℕ
key_of field.By = codes "by"
key_of field.Change = codes "change"
key_of (field.Shard shards) = codes "shard"
key_of field.Version = codes "version"
key_of field.Key = codes "key"
key_of field.ChangeRequest = codes "request"
key_of field.QueryRequest = codes "request"

-- each field has to be there
abbrev pub rule_of : Field → Rule
rule_of f = record { key = key_of f; is_needed = true; is_of_form = is_of_form f }

abbrev pub rules_of : ℕ → StepKind → List Rule
rules_of shards k = map rule_of (row_of shards k)

-- the member that a refusal names of an object that tells this
abbrev pub fault_of : ℕ → StepKind → Data → Option (List ℕ)
fault_of shards k d = fault_in (codes "step") (rules_of shards k) d

abbrev pub kind_named : List ℕ → Option StepKind
kind_named word =
    if bytes_eq word (codes "accept") then Some kind.Accept
    else (if bytes_eq word (codes "ask") then Some kind.Ask
    else (if bytes_eq word (codes "took") then Some kind.Took
    else (if bytes_eq word (codes "back") then Some kind.Back
    else (if bytes_eq word (codes "done") then Some kind.Done
    else (if bytes_eq word (codes "apply") then Some kind.Apply
    else (if bytes_eq word (codes "publish") then Some kind.Publish
    else (if bytes_eq word (codes "open") then Some kind.Open
    else (if bytes_eq word (codes "read") then Some kind.Read
    else (if bytes_eq word (codes "reply") then Some kind.Reply
    else (if bytes_eq word (codes "shut") then Some kind.Shut
    else (if bytes_eq word (codes "floor") then Some kind.Floor
    else (if bytes_eq word (codes "sweep") then Some kind.Sweep
    else None))))))))))))

-- what an object tells to do, if it names a step
abbrev pub kind_of : Data → Option StepKind
kind_of d = option_and_then kind_named (text_at (codes "step") d)
