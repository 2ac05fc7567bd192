-- The values of what was read of a line's tokens. Only private clauses cite it.
use Rattle.std.specs.Prelude.{◌≡◌, ◌≢◌, ◌<◌, ◌≤◌, ◌⊎◌, ◌&&◌, ℕ, List, [], ◌∷◌, ◌++◌, length, Bool, true, false, if◌then◌else◌, Option, Some, None, is_some, option_and_then, option_map, unwrap_or, IfSome}
use Rattle.std.specs.Cmp.Lexicographic.{slice_cmp}
use Rattle.std.specs.Ordering.{nat_cmp}
use Rattle.std.specs.declared.cmp.Ordering.TheVariants.{Less}
use Rattle.json.specs.Token.{Token}
use Rattle.json.specs.Json as json
use Rattle.json.specs.Json.{value, items, members, after_end_array, read_key, skip_value}
use Rattle.serde_json.specs.Data.{Data, null, boolean, number, string, array, object, Items, no_items, item, Members, no_members, member, put}
use Rattle.serde_json.specs.Read.{number_of}
use Rattle.serde_json.specs.Find.{as_bool, as_number, as_str, get_member}
use Rattle.cq_request.specs.declared.form.Form.{Form}
use Rattle.cq_request.specs.declared.form.Form.TheVariants as form
use Rattle.cq_base.specs.declared.refusal.Refusal.TheVariants as refusal
use Rattle.cq_request.specs.declared.request.ReadError.{ReadError}
use Rattle.cq_request.specs.declared.request.ReadError.TheVariants as error
use Rattle.cq_request.specs.Members.{least_key}
use Rattle.cq_request.specs.Conditions.{condition_of}
use Rattle.cq_request.specs.Gist.{form_of, condition_form_of, is_other, IsAlike, HaveAlike}

-- each number has a value: none of them is too large
abbrev mutual
  pub fits : json.Json → Bool
  fits json.null = true
  fits (json.boolean b) = true
  fits (json.number s) = is_some (number_of s)
  fits (json.string s) = true
  fits (json.array js) = fit_items js
  fits (json.object ms) = fit_members ms

  pub fit_items : json.Items → Bool
  fit_items json.no_items = true
  fit_items (json.item j js) = fits j && fit_items js

  pub fit_members : json.Members → Bool
  fit_members json.no_members = true
  fit_members (json.member k j ms) = fits j && fit_members ms

-- the value, with null for a number that has none
abbrev mutual
  pub valued : json.Json → Data
  valued json.null = null
  valued (json.boolean b) = boolean b
  valued (json.number s) = unwrap_or (option_map number (number_of s)) null
  valued (json.string s) = string s
  valued (json.array js) = array (valued_items js)
  valued (json.object ms) = object (valued_members ms no_members)

  pub valued_items : json.Items → Items
  valued_items json.no_items = no_items
  valued_items (json.item j js) = item (valued j) (valued_items js)

  -- the members go in one after another
  pub valued_members : json.Members → Members → Members
  valued_members json.no_members found = found
  valued_members (json.member k j ms) found = valued_members ms (put k (valued j) found)

-- the token is no number that is too large
abbrev pub token_fits : Token → Bool
token_fits Token.begin_object = true
token_fits Token.end_object = true
token_fits Token.begin_array = true
token_fits Token.end_array = true
token_fits (Token.key s) = true
token_fits (Token.string s) = true
token_fits (Token.number s) = is_some (number_of s)
token_fits (Token.boolean b) = true
token_fits Token.null = true
token_fits Token.bad = true

abbrev pub keys_in : Members → List (List ℕ)
keys_in no_members = []
keys_in (member k d ms) = k ∷ keys_in ms

-- ---- what is read

-- nothing is read, or what is read has a number that is too large
abbrev pub IsUnfit : {A : Type 0} → (A → Bool) → Option (A × List Token) → Type 0
IsUnfit fit read = IfSome read (λ p. fit p.0 ≡ false)

-- the line is refused as no JSON, for this cause, unless memory was refused
abbrev pub IsJsonFor : Type 0 → ReadError → Type 0
IsJsonFor cause (error.Refused why) = (why ≡ refusal.Json) × cause
IsJsonFor cause error.Memory = Unit {0}

-- while nothing was passed, each number that was read is one that fits
abbrev pub IsFitUnlessPassed : Bool → Bool → Bool → Type 0
IsFitUnlessPassed was now fit = now ≡ false → (was ≡ false) × (fit ≡ true)

-- of the tokens, a value comes first, and new is left; and this is as much of it as its form asks for
pub record IsMemberRead (depth : ℕ) (f : Form) (old new : List Token) (g : Data) (was now : Bool) : Type 0 where
  pub of : json.Json
  pub read : value depth old ≡ Some (of, new)
  pub alike : IsAlike f (valued of) g
  pub fit : IsFitUnlessPassed was now (fits of)

-- the condition that it is, in a value of its own, and none if it is none
abbrev pub IsSameCondition : Data → Option Data → Type 0
IsSameCondition d None = condition_of d ≡ None
IsSameCondition d (Some g) = (is_some (condition_of d) ≡ true) × (condition_of g ≡ condition_of d)

pub record IsItemRead (depth : ℕ) (old new : List Token) (g : Option Data) (was now : Bool) : Type 0 where
  pub of : json.Json
  pub read : value depth old ≡ Some (of, new)
  pub same : IsSameCondition (valued of) g
  pub fit : IsFitUnlessPassed was now (fits of)

-- the rest of a list that has begun
pub record IsListRead (depth : ℕ) (old new : List Token) (g : Data) (was now : Bool) : Type 0 where
  pub of : json.Items
  pub read : items (value depth) (length old) old ≡ Some (of, new)
  pub alike : IsAlike form.Conditions (array (valued_items of)) g
  pub fit : IsFitUnlessPassed was now (fit_items of)

-- the rest of an object that has begun, if it is a condition
pub record IsConditionRead (depth : ℕ) (old new : List Token) (g : Option Data) (was now : Bool) : Type 0 where
  pub of : json.Members
  pub read : members (value depth) (length old) old ≡ Some (of, new)
  pub same : IsSameCondition (object (valued_members of no_members)) g
  pub fit : IsFitUnlessPassed was now (fit_members of)

-- of an object's members, those that some request has, and the least key of all others
pub record AreSeen (ms gs : Members) (other : Option (List ℕ)) : Type 0 where
  pub known : HaveAlike form_of ms gs
  pub least : (passes : List ℕ → Bool) → ((key : List ℕ) → is_other key ≡ true → passes key ≡ false) → least_key passes gs ≡ least_key passes ms
  pub only : least_key is_other gs ≡ None
  pub rest : other ≡ least_key is_other ms

-- those that are kept, with the least of the others
abbrev pub with_other : Members → Option (List ℕ) → Members
with_other gs None = gs
with_other gs (Some key) = put key null gs

-- the rest of the object that a line spells
pub record IsObjectRead (depth : ℕ) (old new : List Token) (gs : Members) (other : Option (List ℕ)) (now : Bool) : Type 0 where
  pub of : json.Members
  pub read : members (value depth) (length old) old ≡ Some (of, new)
  pub seen : AreSeen (valued_members of no_members) gs other
  pub fit : now ≡ false → fit_members of ≡ true

-- the only value of a text, which is an object
pub record IsTextRead (tokens : List Token) (gs : Members) (other : Option (List ℕ)) (now : Bool) : Type 0 where
  pub of : json.Members
  pub read : value 127 tokens ≡ Some (json.object of, [])
  pub seen : AreSeen (valued_members of no_members) gs other
  pub fit : now ≡ false → fit_members of ≡ true

-- the text is no object, or has more after it, or a number that is too large
abbrev pub IsNoObjectText : List Token → Type 0
IsNoObjectText tokens = (ms : json.Members) → value 127 tokens ≡ Some (json.object ms, []) → fit_members ms ≡ false

-- ---- one token

-- the value that it is, if it is all of one
abbrev pub leaf_of : Token → Option json.Json
leaf_of Token.begin_object = None
leaf_of Token.end_object = None
leaf_of Token.begin_array = None
leaf_of Token.end_array = None
leaf_of (Token.key s) = None
leaf_of (Token.string s) = Some (json.string s)
leaf_of (Token.number s) = Some (json.number s)
leaf_of (Token.boolean b) = Some (json.boolean b)
leaf_of Token.null = Some json.null
leaf_of Token.bad = None

abbrev pub has_form : Form → Data → Bool
has_form form.Text d = is_some (as_str d)
has_form form.Number d = is_some (as_number d)
has_form form.Flag d = is_some (as_bool d)
has_form form.Conditions d = false

-- the value that it is, if it is all of one of this form
abbrev pub formed : Form → Token → Option Data
formed f t = option_and_then (λ j. if has_form f (valued j) then Some (valued j) else None) (leaf_of t)

-- what is left after the rest of a list that has begun, or else of an object
abbrev pub nested : Bool → ℕ → List Token → Option (List Token)
nested true depth ts = skip_value depth (Token.begin_array ∷ ts)
nested false depth ts = skip_value depth (Token.begin_object ∷ ts)

-- whether what is passed is over: a list, or else an object
abbrev pub IsOver : Bool → List Token → Bool → List Token → Type 0
IsOver true old true new = after_end_array old ≡ Some new
IsOver true old false new = (after_end_array old ≡ None) × (new ≡ old)
IsOver false old true new = read_key old ≡ Some (None, new)
IsOver false old false new = (k : List ℕ) × (read_key old ≡ Some (Some k, new))

-- an item was added to a list, if it is a condition and the list had fewer than 32
abbrev pub AddsCondition : Option Data → List Data → List Data → Bool → Type 0
AddsCondition came old new true = (condition : Data) × (came ≡ Some condition) × (length old < 32) × (new ≡ old ++ condition ∷ [])
AddsCondition came old new false = (new ≡ old) × ((came ≡ None) ⊎ (32 ≤ length old))

-- and whether all items were conditions, of which there are at most 32
abbrev pub NotesItem : Option Data → List Data → List Data → Bool → Bool → Type 0
NotesItem came old new was now = (added : Bool) × AddsCondition came old new added × (now ≡ (was && added))

-- ---- one member

-- the key is less than what is least so far
abbrev pub IsLeast : List ℕ → Option (List ℕ) → Bool → Type 0
IsLeast key None is = is ≡ true
IsLeast key (Some least) is = (is ≡ true → slice_cmp nat_cmp key least ≡ Less) × (is ≡ false → slice_cmp nat_cmp key least ≢ Less)

-- of the tokens a value comes first, which is the member of this key, and new is left
pub record IsMemberNoted (depth : ℕ) (key : List ℕ) (old new : List Token) (was_members members : Members) (was_other other : Option (List ℕ)) (was now : Bool) : Type 0 where
  pub of : json.Json
  pub read : value depth old ≡ Some (of, new)
  pub seen : (ms : Members) → AreSeen ms was_members was_other → AreSeen (put key (valued of) ms) members other
  pub fit : IsFitUnlessPassed was now (fits of)

-- what is kept of a condition's members, and whether it has one that no condition has
pub record IsConditionSeen (ms gs : Members) (has_other : Bool) : Type 0 where
  pub known : HaveAlike condition_form_of ms gs
  pub same : has_other ≡ false → keys_in ms ≡ keys_in gs
  pub other : has_other ≡ true → (u : List ℕ) × (condition_form_of u ≡ None) × (is_some (get_member u ms) ≡ true)

pub record IsConditionNoted (depth : ℕ) (key : List ℕ) (old new : List Token) (was_members members : Members) (was_other other : Bool) (was now : Bool) : Type 0 where
  pub of : json.Json
  pub read : value depth old ≡ Some (of, new)
  pub seen : (ms : Members) → IsConditionSeen ms was_members was_other → IsConditionSeen (put key (valued of) ms) members other
  pub fit : IsFitUnlessPassed was now (fits of)
