-- Tables of fields: what each field asks of an object, and what an object that is to have the fields of a row lacks.
use Rattle.std.specs.Prelude.{◌||◌, ℕ, List, [], ◌∷◌, Bool, not, if◌then◌else◌, Option, Some, None, option_and_then}
use Rattle.std.specs.Option.{option_or}
use Rattle.std.specs.List.{list_any}
use Rattle.std.specs.Str.{bytes_eq}
use Rattle.serde_json.specs.Data.{Data}
use Rattle.serde_json.specs.Find.{get, as_object}
use Rattle.cq_request.specs.Members.{least_key}

-- the key of a field, whether it has to be there, and its form
pub record Rule : Type 0 where
  pub key : List ℕ
  pub is_needed : Bool
  pub is_of_form : Data → Bool

-- the field is there and valid, or it is optional and absent
abbrev pub is_good : Rule → Option Data → Bool
is_good r None = not r.is_needed
is_good r (Some v) = r.is_of_form v

-- the first field of a row that is not good
abbrev pub bad_field : List Rule → Data → Option (List ℕ)
bad_field [] d = None
bad_field (r ∷ row) d = if is_good r (get r.key d) then bad_field row d else Some r.key

-- the key that says which row an object is, or a key of the row
abbrev pub is_of_row : List ℕ → List Rule → List ℕ → Bool
is_of_row head row key = bytes_eq key head || list_any (λ r. bytes_eq key r.key) row

-- the least key by bytes that is neither
abbrev pub other_key : List ℕ → List Rule → Data → Option (List ℕ)
other_key head row d = option_and_then (least_key (λ key. not (is_of_row head row key))) (as_object d)

-- the member that a refusal names: the first field that is not good, or else the least other key
abbrev pub fault_in : List ℕ → List Rule → Data → Option (List ℕ)
fault_in head row d = option_or (bad_field row d) (other_key head row d)
