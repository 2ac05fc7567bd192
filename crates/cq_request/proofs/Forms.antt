-- What is kept of a value by its first token, and by the form that is asked for.
use Rattle.std.proofs.Common.{◌≡◌, ℕ, List, [], ◌∷◌, Bool, true, false, cond, Option, Some, None, option_map, refl, sym, ap, ◌∙◌, subst}
use Rattle.std.specs.Prelude.{is_some, unwrap_or}
use Rattle.std.proofs.lemmas.Option.{none-some}
use Rattle.json.specs.Token.{Token}
use Rattle.json.specs.Json as json
use Rattle.json.specs.Json.{Json, parse_map, skip_value, value}
use Rattle.json.proofs.Grammar.{left, value_is}
use Rattle.serde_json.specs.Data.{Num, Data, null, boolean, number, string}
use Rattle.serde_json.specs.Find.{as_bool, as_str}
use Rattle.serde_json.specs.Read.{number_of}
use Rattle.cq_request.specs.declared.form.Form.{Form}
use Rattle.cq_request.specs.declared.form.Form.TheVariants as form
use Rattle.cq_request.specs.Members as members
use Rattle.cq_request.specs.Conditions.{condition_of}
use Rattle.cq_request.specs.Gist.{conditions_listed, IsAlike}
use Rattle.cq_request.specs.Valued.{fits, formed, has_form, leaf_of, token_fits, valued, IsUnfit}

abbrev or_first : Json → Option (Json × List Token) → Json
or_first j None = j
or_first j (Some p) = p.0

first_same : (i j : Json) (r s : List Token) → ◌≡◌ {A = Option (Json × List Token)} (Some (i, r)) (Some (j, s)) → i ≡ j
first_same i j r s is = ap (or_first i) is

if_so : {A : Type 0} (b : Bool) (a d : A) → cond b (Some a) None ≡ Some d → (b ≡ true) × (a ≡ d)
if_so true a d is = let same : a ≡ d = cc in (refl, same)
if_so false a d is = absurd (none-some d is)

if_not : {A : Type 0} (b : Bool) (a : A) → cond b (Some a) None ≡ None → b ≡ false
if_not true a is = absurd (none-some a (sym is))
if_not false a is = refl

-- ---- a value that is kept

pub alike_itself : (f : Form) (d g : Data) → d ≡ g → IsAlike f d g
alike_itself form.Text d g same = ap as_str (sym same)
alike_itself form.Number d g same = ap members.number_of (sym same)
alike_itself form.Flag d g same = ap as_bool (sym same)
alike_itself form.Conditions d g same = ap conditions_listed (sym same)

number_fits : (f : Form) (o : Option Num) → has_form f (unwrap_or (option_map number o) null) ≡ true → is_some o ≡ true
number_fits form.Text None is = absurd (cc)
number_fits form.Number None is = absurd (cc)
number_fits form.Flag None is = absurd (cc)
number_fits form.Conditions None is = absurd (cc)
number_fits f (Some n) is = refl

-- the token is all of the value
abbrev pub IsLeaf : ℕ → Form → Token → List Token → Data → Type 0
IsLeaf depth f t ts d = (j : Json) × (value depth (t ∷ ts) ≡ Some (j, ts)) × IsAlike f (valued j) d × (fits j ≡ true)

pub leaf_kept : (depth : ℕ) (f : Form) (t : Token) (ts : List Token) (d : Data) → formed f t ≡ Some d → IsLeaf depth f t ts d
leaf_kept depth f Token.begin_object ts d is = absurd (none-some d is)
leaf_kept depth f Token.end_object ts d is = absurd (none-some d is)
leaf_kept depth f Token.begin_array ts d is = absurd (none-some d is)
leaf_kept depth f Token.end_array ts d is = absurd (none-some d is)
leaf_kept depth f (Token.key s) ts d is = absurd (none-some d is)
leaf_kept depth f (Token.string s) ts d is =
    let so = if_so (has_form f (string s)) (string s) d is in
    (json.string s, value_is depth (Token.string s ∷ ts), alike_itself f (string s) d so.1, refl)
leaf_kept depth f (Token.number s) ts d is =
    let so = if_so (has_form f (valued (json.number s))) (valued (json.number s)) d is in
    (json.number s, value_is depth (Token.number s ∷ ts), alike_itself f (valued (json.number s)) d so.1, number_fits f (number_of s) so.0)
leaf_kept depth f (Token.boolean b) ts d is =
    let so = if_so (has_form f (boolean b)) (boolean b) d is in
    (json.boolean b, value_is depth (Token.boolean b ∷ ts), alike_itself f (boolean b) d so.1, refl)
leaf_kept depth f Token.null ts d is =
    let so = if_so (has_form f null) null d is in
    (json.null, value_is depth (Token.null ∷ ts), alike_itself f null d so.1, refl)
leaf_kept depth f Token.bad ts d is = absurd (none-some d is)

-- ---- a value that is passed

object_null : (f : Form) (ms : json.Members) → IsAlike f (valued (json.object ms)) null
object_null form.Text ms = refl
object_null form.Number ms = refl
object_null form.Flag ms = refl
object_null form.Conditions ms = refl

array_null : (f : Form) (js : json.Items) → (f ≡ form.Conditions → ⊥) → IsAlike f (valued (json.array js)) null
array_null form.Text js other = refl
array_null form.Number js other = refl
array_null form.Flag js other = refl
array_null form.Conditions js other = absurd (other refl)

string_null : (f : Form) (s : List ℕ) → has_form f (string s) ≡ false → IsAlike f (string s) null
string_null form.Text s is = absurd (cc)
string_null form.Number s is = refl
string_null form.Flag s is = refl
string_null form.Conditions s is = refl

boolean_null : (f : Form) (b : Bool) → has_form f (boolean b) ≡ false → IsAlike f (boolean b) null
boolean_null form.Text b is = refl
boolean_null form.Number b is = refl
boolean_null form.Flag b is = absurd (cc)
boolean_null form.Conditions b is = refl

number_null : (f : Form) (o : Option Num) → has_form f (unwrap_or (option_map number o) null) ≡ false → IsAlike f (unwrap_or (option_map number o) null) null
number_null form.Text None is = refl
number_null form.Number None is = refl
number_null form.Flag None is = refl
number_null form.Conditions None is = refl
number_null form.Text (Some n) is = refl
number_null form.Number (Some n) is = absurd (cc)
number_null form.Flag (Some n) is = refl
number_null form.Conditions (Some n) is = refl

opened : (f : Form) (i j : Json) (r s : List Token) → ◌≡◌ {A = Option (Json × List Token)} (Some (i, r)) (Some (j, s)) → IsAlike f (valued i) null → IsAlike f (valued j) null
opened f i j r s is alike = subst (λ (x : Json). IsAlike f (valued x) null) (first_same i j r s is) alike

of_object : (f : Form) (o : Option (json.Members × List Token)) (j : Json) (r : List Token) → parse_map json.object o ≡ Some (j, r) → IsAlike f (valued j) null
of_object f None j r is = absurd (none-some (j, r) is)
of_object f (Some p) j r is = opened f (json.object p.0) j p.1 r is (object_null f p.0)

of_array : (f : Form) (o : Option (json.Items × List Token)) (j : Json) (r : List Token) → (f ≡ form.Conditions → ⊥) → parse_map json.array o ≡ Some (j, r) → IsAlike f (valued j) null
of_array f None j r other is = absurd (none-some (j, r) is)
of_array f (Some p) j r other is = opened f (json.array p.0) j p.1 r is (array_null f p.0 other)

-- null stands for what is not of the form
pub passed_alike : (depth : ℕ) (f : Form) (t : Token) (ts r : List Token) (j : Json) → (f ≡ form.Conditions → t ≡ Token.begin_array → ⊥) → formed f t ≡ None → value depth (t ∷ ts) ≡ Some (j, r) → IsAlike f (valued j) null
passed_alike depth f Token.begin_object ts r j apart none is = of_object f _ j r (sym (value_is depth (Token.begin_object ∷ ts)) ∙ is)
passed_alike depth f Token.end_object ts r j apart none is = absurd (none-some (j, r) (sym (value_is depth (Token.end_object ∷ ts)) ∙ is))
passed_alike depth f Token.begin_array ts r j apart none is = of_array f _ j r (λ same. apart same refl) (sym (value_is depth (Token.begin_array ∷ ts)) ∙ is)
passed_alike depth f Token.end_array ts r j apart none is = absurd (none-some (j, r) (sym (value_is depth (Token.end_array ∷ ts)) ∙ is))
passed_alike depth f (Token.key s) ts r j apart none is = absurd (none-some (j, r) (sym (value_is depth (Token.key s ∷ ts)) ∙ is))
passed_alike depth f (Token.string s) ts r j apart none is =
    opened f (json.string s) j ts r (sym (value_is depth (Token.string s ∷ ts)) ∙ is) (string_null f s (if_not (has_form f (string s)) (string s) none))
passed_alike depth f (Token.number s) ts r j apart none is =
    opened f (json.number s) j ts r (sym (value_is depth (Token.number s ∷ ts)) ∙ is) (number_null f (number_of s) (if_not (has_form f (valued (json.number s))) (valued (json.number s)) none))
passed_alike depth f (Token.boolean b) ts r j apart none is =
    opened f (json.boolean b) j ts r (sym (value_is depth (Token.boolean b ∷ ts)) ∙ is) (boolean_null f b (if_not (has_form f (boolean b)) (boolean b) none))
passed_alike depth f Token.null ts r j apart none is = opened f json.null j ts r (sym (value_is depth (Token.null ∷ ts)) ∙ is) (alike_itself f null null refl)
passed_alike depth f Token.bad ts r j apart none is = absurd (none-some (j, r) (sym (value_is depth (Token.bad ∷ ts)) ∙ is))

-- a leaf that can't be read is a number that is too large
pub leaf_unfit : (depth : ℕ) (t : Token) (ts : List Token) → token_fits t ≡ false → IsUnfit fits (value depth (t ∷ ts))
leaf_unfit depth Token.begin_object ts large = absurd (cc)
leaf_unfit depth Token.end_object ts large = absurd (cc)
leaf_unfit depth Token.begin_array ts large = absurd (cc)
leaf_unfit depth Token.end_array ts large = absurd (cc)
leaf_unfit depth (Token.key s) ts large = absurd (cc)
leaf_unfit depth (Token.string s) ts large = absurd (cc)
leaf_unfit depth (Token.number s) ts large = subst (IsUnfit fits) (sym (value_is depth (Token.number s ∷ ts))) large
leaf_unfit depth (Token.boolean b) ts large = absurd (cc)
leaf_unfit depth Token.null ts large = absurd (cc)
leaf_unfit depth Token.bad ts large = absurd (cc)

-- a value begins with this token
abbrev pub begins_value : Token → Bool
begins_value Token.begin_object = true
begins_value Token.end_object = false
begins_value Token.begin_array = true
begins_value Token.end_array = false
begins_value (Token.key s) = false
begins_value (Token.string s) = true
begins_value (Token.number s) = true
begins_value (Token.boolean b) = true
begins_value Token.null = true
begins_value Token.bad = false

pub leaf_passed : (depth : ℕ) (t : Token) (ts : List Token) → is_some (leaf_of t) ≡ true → skip_value depth (t ∷ ts) ≡ Some ts
leaf_passed depth Token.begin_object ts leaf = absurd (cc)
leaf_passed depth Token.end_object ts leaf = absurd (cc)
leaf_passed depth Token.begin_array ts leaf = absurd (cc)
leaf_passed depth Token.end_array ts leaf = absurd (cc)
leaf_passed depth (Token.key s) ts leaf = absurd (cc)
leaf_passed depth (Token.string s) ts leaf = ap left (value_is depth (Token.string s ∷ ts))
leaf_passed depth (Token.number s) ts leaf = ap left (value_is depth (Token.number s ∷ ts))
leaf_passed depth (Token.boolean b) ts leaf = ap left (value_is depth (Token.boolean b ∷ ts))
leaf_passed depth Token.null ts leaf = ap left (value_is depth (Token.null ∷ ts))
leaf_passed depth Token.bad ts leaf = absurd (cc)

pub nothing_begins : (depth : ℕ) (t : Token) (ts : List Token) → begins_value t ≡ false → skip_value depth (t ∷ ts) ≡ None
nothing_begins depth Token.begin_object ts none = absurd (cc)
nothing_begins depth Token.end_object ts none = ap left (value_is depth (Token.end_object ∷ ts))
nothing_begins depth Token.begin_array ts none = absurd (cc)
nothing_begins depth Token.end_array ts none = ap left (value_is depth (Token.end_array ∷ ts))
nothing_begins depth (Token.key s) ts none = ap left (value_is depth (Token.key s ∷ ts))
nothing_begins depth (Token.string s) ts none = absurd (cc)
nothing_begins depth (Token.number s) ts none = absurd (cc)
nothing_begins depth (Token.boolean b) ts none = absurd (cc)
nothing_begins depth Token.null ts none = absurd (cc)
nothing_begins depth Token.bad ts none = ap left (value_is depth (Token.bad ∷ ts))

pub unfit_end : (depth : ℕ) (ts : List Token) → ts ≡ [] → IsUnfit fits (value depth ts)
unfit_end depth ts none = subst (λ (xs : List Token). IsUnfit fits (value depth xs)) (sym none) (subst (IsUnfit fits) (sym (value_is depth [])) tt)

-- ---- an item that is no object

no_members_of : (j : Json) → ((ms : json.Members) → j ≡ json.object ms → ⊥) → condition_of (valued j) ≡ None
no_members_of json.null other = refl
no_members_of (json.boolean b) other = refl
no_members_of (json.number s) other = of_number (number_of s)
  where
    of_number : (o : Option Num) → condition_of (unwrap_or (option_map number o) null) ≡ None
    of_number None = refl
    of_number (Some n) = refl
no_members_of (json.string s) other = refl
no_members_of (json.array js) other = refl
no_members_of (json.object ms) other = absurd (other ms refl)

array_is_no_object : (o : Option (json.Items × List Token)) (ms : json.Members) (r : List Token) → parse_map json.array o ≡ Some (json.object ms, r) → ⊥
array_is_no_object None ms r is = none-some (json.object ms, r) is
array_is_no_object (Some q) ms r is = let bad : json.array q.0 ≡ json.object ms = first_same (json.array q.0) (json.object ms) q.1 r is in cc

-- what begins with no brace is none
pub no_condition_read : (depth : ℕ) (t : Token) (ts r : List Token) (j : Json) → (t ≡ Token.begin_object → ⊥) → value depth (t ∷ ts) ≡ Some (j, r) → condition_of (valued j) ≡ None
no_condition_read depth Token.begin_object ts r j other is = absurd (other refl)
no_condition_read depth Token.end_object ts r j other is = absurd (none-some (j, r) (sym (value_is depth (Token.end_object ∷ ts)) ∙ is))
no_condition_read depth Token.begin_array ts r j other is = no_members_of j (λ ms same. array_is_no_object _ ms r (sym (value_is depth (Token.begin_array ∷ ts)) ∙ is ∙ ap (λ x. Some (x, r)) same))
no_condition_read depth Token.end_array ts r j other is = absurd (none-some (j, r) (sym (value_is depth (Token.end_array ∷ ts)) ∙ is))
no_condition_read depth (Token.key s) ts r j other is = absurd (none-some (j, r) (sym (value_is depth (Token.key s ∷ ts)) ∙ is))
no_condition_read depth (Token.string s) ts r j other is = subst (λ (x : Json). condition_of (valued x) ≡ None) (first_same (json.string s) j ts r (sym (value_is depth (Token.string s ∷ ts)) ∙ is)) refl
no_condition_read depth (Token.number s) ts r j other is =
    subst (λ (x : Json). condition_of (valued x) ≡ None) (first_same (json.number s) j ts r (sym (value_is depth (Token.number s ∷ ts)) ∙ is)) (no_members_of (json.number s) (λ ms same. let bad : json.number s ≡ json.object ms = same in cc))
no_condition_read depth (Token.boolean b) ts r j other is = subst (λ (x : Json). condition_of (valued x) ≡ None) (first_same (json.boolean b) j ts r (sym (value_is depth (Token.boolean b ∷ ts)) ∙ is)) refl
no_condition_read depth Token.null ts r j other is = subst (λ (x : Json). condition_of (valued x) ≡ None) (first_same json.null j ts r (sym (value_is depth (Token.null ∷ ts)) ∙ is)) refl
no_condition_read depth Token.bad ts r j other is = absurd (none-some (j, r) (sym (value_is depth (Token.bad ∷ ts)) ∙ is))
