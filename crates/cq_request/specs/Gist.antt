-- The gist of an object: as much of it as decides what a request says. It has no member that no request has, but for the
-- least one, and nothing of a member that is not of its form.
use Rattle.std.specs.Prelude.{◌≡◌, ℕ, List, [], Bool, true, not, if◌then◌else◌, Option, Some, None, is_some, option_map, unwrap_or, codes, ⊤}
use Rattle.std.specs.List.{filter_map}
use Rattle.std.specs.Str.{bytes_eq}
use Rattle.serde_json.specs.Data.{Data, object, Members}
use Rattle.serde_json.specs.Find.{as_array, as_bool, as_object, as_str, get_member}
use Rattle.cq_base.specs.declared.change.Condition.{Condition}
use Rattle.cq_request.specs.declared.form.Form.{Form}
use Rattle.cq_request.specs.declared.form.Form.TheVariants as form
use Rattle.cq_request.specs.Members.{number_of, items_in, least_key}
use Rattle.cq_request.specs.Conditions.{condition_of, is_condition_list}
use Rattle.cq_request.specs.Spelled.{spelled}

-- ---- forms

-- the form of a request's member of this name
abbrev pub form_of : List ℕ → Option Form
form_of key =
    if bytes_eq key (codes "op") then Some form.Text
    else (if bytes_eq key (codes "project") then Some form.Text
    else (if bytes_eq key (codes "path") then Some form.Text
    else (if bytes_eq key (codes "lang") then Some form.Text
    else (if bytes_eq key (codes "text") then Some form.Text
    else (if bytes_eq key (codes "conditions") then Some form.Conditions
    else (if bytes_eq key (codes "min") then Some form.Number
    else (if bytes_eq key (codes "at") then Some form.Number
    else (if bytes_eq key (codes "finish") then Some form.Flag
    else (if bytes_eq key (codes "scope") then Some form.Text
    else (if bytes_eq key (codes "since") then Some form.Number
    else None))))))))))

-- the form of a condition's member of this name
abbrev pub condition_form_of : List ℕ → Option Form
condition_form_of key =
    if bytes_eq key (codes "metric") then Some form.Text
    else (if bytes_eq key (codes "op") then Some form.Text
    else (if bytes_eq key (codes "error") then Some form.Number
    else None))

-- no request has a member of this name
abbrev pub is_other : List ℕ → Bool
is_other key = not (is_some (form_of key))

-- ---- values

-- the conditions that a value is a list of, if it is one of at most 32
abbrev pub conditions_listed : Data → Option (List Condition)
conditions_listed d = if is_condition_list d then Some (filter_map condition_of (unwrap_or (option_map items_in (as_array d)) [])) else None

-- the two do not differ in what is asked of a value of this form
abbrev pub IsAlike : Form → Data → Data → Type 0
IsAlike form.Text d g = as_str g ≡ as_str d
IsAlike form.Number d g = number_of g ≡ number_of d
IsAlike form.Flag d g = as_bool g ≡ as_bool d
IsAlike form.Conditions d g = conditions_listed g ≡ conditions_listed d

abbrev pub AreAlike : Form → Option Data → Option Data → Type 0
AreAlike f None None = ⊤
AreAlike f None (Some g) = ⊥
AreAlike f (Some d) None = ⊥
AreAlike f (Some d) (Some g) = IsAlike f d g

-- they have the same members of those that have a form, and these are alike
abbrev pub HaveAlike : (List ℕ → Option Form) → Members → Members → Type 0
HaveAlike forms ms gs = (key : List ℕ) (f : Form) → forms key ≡ Some f → AreAlike f (get_member key ms) (get_member key gs)

-- ---- objects and lines

-- and the least key that passes is the same, if each key passes that no request has
pub record IsGist (ms gs : Members) : Type 0 where
  pub members : HaveAlike form_of ms gs
  pub least : (passes : List ℕ → Bool) → ((key : List ℕ) → is_other key ≡ true → passes key ≡ true) → least_key passes gs ≡ least_key passes ms

-- the line spells an object, and this is its gist
abbrev pub IsGistOfLine : List ℕ → Data → Type 0
IsGistOfLine line g = (ms : Members) × (gs : Members) × (spelled line ≡ Some (object ms)) × (g ≡ object gs) × IsGist ms gs

abbrev pub SpellsNoObject : List ℕ → Type 0
SpellsNoObject line = (d : Data) → spelled line ≡ Some d → as_object d ≡ None
