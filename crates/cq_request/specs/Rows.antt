-- The requests: for each, its fields in the order in which they are checked.
use Rattle.std.specs.Prelude.{ℕ, List, [], ◌∷◌, map, Bool, true, false, if◌then◌else◌, Option, Some, None, is_some, option_and_then, option_map, unwrap_or, codes}
use Rattle.std.specs.Str.{bytes_eq}
use Rattle.serde_json.specs.Data.{Data}
use Rattle.serde_json.specs.Find.{as_str, as_bool}
use Rattle.cq_request.specs.declared.row.Op.{Op}
use Rattle.cq_request.specs.declared.row.Op.TheVariants as op
use Rattle.cq_request.specs.declared.row.Name.{Name}
use Rattle.cq_request.specs.declared.row.Name.TheVariants as name
use Rattle.cq_request.specs.declared.row.Field.{Field}
use Rattle.cq_names.specs.Names.{is_project}
use Rattle.cq_request.specs.Members.{text_at, number_of}
use Rattle.cq_request.specs.Conditions.{is_condition_list}
use Rattle.cq_request.specs.Tables.{Rule, fault_in}

abbrev pub needed : Name → Field
needed n = record { name = n; is_needed = true }

abbrev pub optional : Name → Field
optional n = record { name = n; is_needed = false }

abbrev pub row_of : Op → List Field
row_of op.Put = needed name.Project ∷ needed name.Path ∷ needed name.Lang ∷ needed name.Text ∷ []
row_of op.Drop = needed name.Project ∷ needed name.Path ∷ []
row_of op.Gate = needed name.Project ∷ needed name.Conditions ∷ []
row_of op.Files = needed name.Project ∷ optional name.At ∷ optional name.Finish ∷ []
row_of op.Groups = needed name.Project ∷ optional name.Min ∷ optional name.Path ∷ optional name.At ∷ optional name.Finish ∷ []
row_of op.Measures = needed name.Project ∷ optional name.Min ∷ optional name.Path ∷ optional name.At ∷ optional name.Finish ∷ optional name.Scope ∷ optional name.Since ∷ []
row_of op.Verdict = needed name.Project ∷ optional name.Min ∷ optional name.At ∷ optional name.Finish ∷ optional name.Scope ∷ optional name.Since ∷ []
row_of op.Functions = needed name.Project ∷ needed name.Path ∷ optional name.At ∷ optional name.Finish ∷ []
row_of op.State = []

-- the form of each field
abbrev pub is_of_form : Name → Data → Bool
is_of_form name.Project d = unwrap_or (option_map is_project (as_str d)) false
is_of_form name.Path d = is_some (as_str d)
is_of_form name.Lang d = is_some (as_str d)
is_of_form name.Text d = is_some (as_str d)
is_of_form name.Conditions d = is_condition_list d
is_of_form name.Min d = is_some (number_of d)
is_of_form name.At d = is_some (number_of d)
is_of_form name.Finish d = is_some (as_bool d)
is_of_form name.Scope d = is_some (as_str d)
is_of_form name.Since d = is_some (number_of d)

abbrev pub op_named : List ℕ → Option Op
op_named word =
    if bytes_eq word (codes "put") then Some op.Put
    else (if bytes_eq word (codes "drop") then Some op.Drop
    else (if bytes_eq word (codes "gate") then Some op.Gate
    else (if bytes_eq word (codes "files") then Some op.Files
    else (if bytes_eq word (codes "groups") then Some op.Groups
    else (if bytes_eq word (codes "measures") then Some op.Measures
    else (if bytes_eq word (codes "verdict") then Some op.Verdict
    else (if bytes_eq word (codes "functions") then Some op.Functions
    else (if bytes_eq word (codes "state") then Some op.State
    else None))))))))

-- what an object asks for, if it names a request
abbrev pub op_of : Data → Option Op
op_of d = option_and_then op_named (text_at (codes "op") d)

abbrev pub key_of : Name → List ℕ
key_of name.Project = codes "project"
key_of name.Path = codes "path"
key_of name.Lang = codes "lang"
key_of name.Text = codes "text"
key_of name.Conditions = codes "conditions"
key_of name.Min = codes "min"
key_of name.At = codes "at"
key_of name.Finish = codes "finish"
key_of name.Scope = codes "scope"
key_of name.Since = codes "since"

-- what a field asks of an object
abbrev pub rule_of : Field → Rule
rule_of f = record { key = key_of f.name; is_needed = f.is_needed; is_of_form = is_of_form f.name }

abbrev pub rules_of : Op → List Rule
rules_of o = map rule_of (row_of o)

-- the member that a refusal names of an object that asks for this
abbrev pub fault_of : Op → Data → Option (List ℕ)
fault_of o d = fault_in (codes "op") (rules_of o) d
