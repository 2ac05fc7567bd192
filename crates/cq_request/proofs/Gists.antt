-- What is said of an object and of its gist is the same.
use Rattle.std.proofs.Common.{◌≡◌, ℕ, List, [], ◌∷◌, map, Bool, true, false, cond, ◌&&◌, ◌||◌, Option, Some, None, Err, option_map, refl, sym, ap, ap₂, ◌∙◌}
use Rattle.std.specs.Prelude.{max, not, is_some, option_and_then, unwrap_or, codes}
use Rattle.std.specs.Option.{option_or}
use Rattle.std.specs.List.{filter_map, list_any}
use Rattle.std.specs.Str.{bytes_eq}
use Rattle.std.proofs.lemmas.Slice.Eq.{bytes_eq-Decides}
use Rattle.serde_json.specs.Data.{Data, object, Members}
use Rattle.serde_json.specs.Find.{as_array, as_bool, as_str, get_member}
use Rattle.cq_base.specs.declared.change.Change.{Change}
use Rattle.cq_base.specs.declared.change.Change.TheVariants as change
use Rattle.cq_base.specs.declared.change.Condition.{Condition}
use Rattle.cq_base.specs.Tables.{lang_named}
use Rattle.cq_names.specs.Names.{is_path_text, is_project}
use Rattle.cq_request.specs.declared.form.Form.{Form}
use Rattle.cq_request.specs.declared.form.Form.TheVariants as form
use Rattle.cq_request.specs.declared.row.Field.{Field}
use Rattle.cq_request.specs.declared.row.Name.{Name}
use Rattle.cq_request.specs.declared.row.Name.TheVariants as name
use Rattle.cq_request.specs.declared.row.Op.{Op}
use Rattle.cq_request.specs.declared.row.Op.TheVariants as op
use Rattle.cq_base.specs.declared.lang.Lang.TheVariants as lang
use Rattle.cq_request.specs.declared.request.Kind.{Kind}
use Rattle.cq_request.specs.declared.request.Kind.TheVariants as kind
use Rattle.cq_request.specs.declared.request.Query.{Query}
use Rattle.cq_request.specs.declared.request.Request.{Request}
use Rattle.cq_request.specs.declared.request.Request.TheVariants as request
use Rattle.cq_base.specs.declared.refusal.Refusal.{Refusal}
use Rattle.cq_base.specs.declared.refusal.Refusal.TheVariants as refusal
use Rattle.cq_request.specs.Members.{number_of, items_in, text_at, number_at, flag_at}
use Rattle.cq_request.specs.Conditions.{condition_of, is_condition_list}
use Rattle.cq_request.specs.Gist.{form_of, is_other, IsAlike, AreAlike, IsGist}
use Rattle.cq_request.specs.Reading.{unless, is_within, value_refused, why_refused, field_or, query_of, put_of, drop_of, gate_of, request_of, unless_refused, object_says, value_says}
use Rattle.cq_request.specs.Rows.{needed, rule_of, rules_of, row_of, key_of, is_of_form, op_of, op_named, fault_of}
use Rattle.cq_request.specs.Tables.{Rule, is_good, bad_field, is_of_row}
use Rattle.cq_request.specs.Text.{is_short}
use Rattle.cq_request.proofs.Passing.{first_none, second_good, none_named}

-- ---- one member

pub text_same : (a b : Option Data) → AreAlike form.Text a b → option_and_then as_str b ≡ option_and_then as_str a
text_same None None are = refl
text_same None (Some g) are = absurd are
text_same (Some d) None are = absurd are
text_same (Some d) (Some g) are = are

pub number_same : (a b : Option Data) → AreAlike form.Number a b → option_and_then number_of b ≡ option_and_then number_of a
number_same None None are = refl
number_same None (Some g) are = absurd are
number_same (Some d) None are = absurd are
number_same (Some d) (Some g) are = are

flag_same : (a b : Option Data) → AreAlike form.Flag a b → option_and_then as_bool b ≡ option_and_then as_bool a
flag_same None None are = refl
flag_same None (Some g) are = absurd are
flag_same (Some d) None are = absurd are
flag_same (Some d) (Some g) are = are

abbrev listed_or : Data → List Condition
listed_or d = filter_map condition_of (unwrap_or (option_map items_in (as_array d)) [])

is_there : {X : Type 0} (b : Bool) (x : X) → is_some (cond b (Some x) None) ≡ b
is_there true x = refl
is_there false x = refl

same_there : {X : Type 0} (b c : Bool) (x y : X) → c ≡ true → cond b (Some x) None ≡ cond c (Some y) None → x ≡ y
same_there true true x y is same = cc
same_there true false x y is same = absurd (cc)
same_there false true x y is same = absurd (cc)
same_there false false x y is same = absurd (cc)

lists_same : (d g : Data) → IsAlike form.Conditions d g → is_condition_list g ≡ is_condition_list d
lists_same d g are = sym (is_there (is_condition_list g) (listed_or g)) ∙ ap is_some are ∙ is_there (is_condition_list d) (listed_or d)

-- ---- the fields of a row

good_same : (f : Form) (r : Rule) → ((d g : Data) → IsAlike f d g → r.is_of_form g ≡ r.is_of_form d) → (a b : Option Data) → AreAlike f a b → is_good r b ≡ is_good r a
good_same f r same None None are = refl
good_same f r same None (Some g) are = absurd are
good_same f r same (Some d) None are = absurd are
good_same f r same (Some d) (Some g) are = same d g are

-- a field's key has a form, which decides whether its value is valid
field_form : (n : Name) → (f : Form) × (form_of (key_of n) ≡ Some f) × ((d g : Data) → IsAlike f d g → is_of_form n g ≡ is_of_form n d)
field_form name.Project = (form.Text, refl, λ d g are. ap (λ o. unwrap_or (option_map is_project o) false) are)
field_form name.Path = (form.Text, refl, λ d g are. ap is_some are)
field_form name.Lang = (form.Text, refl, λ d g are. ap is_some are)
field_form name.Text = (form.Text, refl, λ d g are. ap is_some are)
field_form name.Conditions = (form.Conditions, refl, λ d g are. lists_same d g are)
field_form name.Min = (form.Number, refl, λ d g are. ap is_some are)
field_form name.At = (form.Number, refl, λ d g are. ap is_some are)
field_form name.Finish = (form.Flag, refl, λ d g are. ap is_some are)
field_form name.Scope = (form.Text, refl, λ d g are. ap is_some are)
field_form name.Since = (form.Number, refl, λ d g are. ap is_some are)

named : (n : Name) → is_other (key_of n) ≡ false
named name.Project = refl
named name.Path = refl
named name.Lang = refl
named name.Text = refl
named name.Conditions = refl
named name.Min = refl
named name.At = refl
named name.Finish = refl
named name.Scope = refl
named name.Since = refl

pub apart : (key l : List ℕ) (b : Bool) → bytes_eq key l ≡ b → is_other key ≡ true → is_other l ≡ false → b ≡ false
apart key l true is other known = let same : key ≡ l = (bytes_eq-Decides key l).0 is in let bad : true ≡ false = sym other ∙ ap is_other same ∙ known in absurd (cc)
apart key l false is other known = refl

of_no_field : (row : List Field) (key : List ℕ) → is_other key ≡ true → list_any (λ (r : Rule). bytes_eq key r.key) (map rule_of row) ≡ false
of_no_field [] key other = refl
of_no_field (f ∷ row) key other =
    ap₂ (λ a b. a || b) (apart key (key_of f.name) (bytes_eq key (key_of f.name)) refl other (named f.name)) (of_no_field row key other)

of_no_row : (row : List Field) (key : List ℕ) → is_other key ≡ true → not (is_of_row (codes "op") (map rule_of row) key) ≡ true
of_no_row row key other =
    ap not (ap₂ (λ a b. a || b) (apart key (codes "op") (bytes_eq key (codes "op")) refl other refl) (of_no_field row key other))

-- ---- the lookups, one by one

abbrev seen_refused : ℕ → Option (List ℕ) → Option (List ℕ) → Option (List ℕ) → Option ℕ → Option (List ℕ) → Option Refusal
seen_refused chunk written path text min scope =
    unless (unwrap_or (option_map (λ name. is_some (lang_named name)) written) true) refusal.Lang
    (unless (unwrap_or (option_map is_path_text path) true) refusal.Path
    (unless (unwrap_or (option_map is_short text) true) refusal.TooMuchText
    (unless (unwrap_or (option_map (is_within chunk) min) true) refusal.Min
    (unless (unwrap_or (option_map (λ s. is_path_text s && not (is_some path)) scope) true) refusal.Scope None))))

abbrev seen_query : ℕ → Kind → Option (List ℕ) → Option (List ℕ) → Option ℕ → Option ℕ → Option Bool → Option (List ℕ) → Option ℕ → Query
seen_query chunk k project path min at finish scope since = record {
  kind = k;
  project = unwrap_or project [];
  path = path;
  min = unwrap_or min (max 100 chunk);
  at = unwrap_or at 0;
  finish = unwrap_or finish true;
  scope = scope;
  since = unwrap_or since 0;
}

abbrev seen_put : Option (List ℕ) → Option (List ℕ) → Option (List ℕ) → Option (List ℕ) → Change
seen_put project path written text = change.Put (unwrap_or project []) (unwrap_or path []) (unwrap_or (option_and_then lang_named written) lang.Any) (unwrap_or text [])

unless_same : (r s : Option Refusal) (q p : Request) → r ≡ s → (s ≡ None → q ≡ p) → unless_refused r q ≡ unless_refused s p
unless_same None None q p is same = ap (unless_refused None) (same refl)
unless_same None (Some s) q p is same = absurd (cc)
unless_same (Some r) None q p is same = absurd (cc)
unless_same (Some r) (Some s) q p is same = let one : r ≡ s = cc in ap Err one

conditions_there : (a b : Option Data) → AreAlike form.Conditions a b → is_good (rule_of (needed name.Conditions)) a ≡ true
    → filter_map condition_of (unwrap_or (option_map items_in (option_and_then as_array b)) []) ≡ filter_map condition_of (unwrap_or (option_map items_in (option_and_then as_array a)) [])
conditions_there None None are good = refl
conditions_there None (Some g) are good = absurd are
conditions_there (Some d) None are good = absurd are
conditions_there (Some d) (Some g) are good = same_there (is_condition_list g) (is_condition_list d) (listed_or g) (listed_or d) good are

module _ (chunk : ℕ) (ms gs : Members) (is : IsGist ms gs) where
  text : (key : List ℕ) → form_of key ≡ Some form.Text → text_at key (object gs) ≡ text_at key (object ms)
  text key known = text_same (get_member key ms) (get_member key gs) (is.members key form.Text known)

  number : (key : List ℕ) → form_of key ≡ Some form.Number → number_at key (object gs) ≡ number_at key (object ms)
  number key known = number_same (get_member key ms) (get_member key gs) (is.members key form.Number known)

  finish : flag_at (codes "finish") (object gs) ≡ flag_at (codes "finish") (object ms)
  finish = flag_same (get_member (codes "finish") ms) (get_member (codes "finish") gs) (is.members (codes "finish") form.Flag refl)

  field_same : (f : Field) → is_good (rule_of f) (get_member (key_of f.name) gs) ≡ is_good (rule_of f) (get_member (key_of f.name) ms)
  field_same f =
      let of = field_form f.name in
      good_same of.0 (rule_of f) of.2 (get_member (key_of f.name) ms) (get_member (key_of f.name) gs) (is.members (key_of f.name) of.0 of.1)

  bad_same : (row : List Field) → bad_field (map rule_of row) (object gs) ≡ bad_field (map rule_of row) (object ms)
  bad_same [] = refl
  bad_same (f ∷ row) = ap₂ (λ (b : Bool) (later : Option (List ℕ)). cond b later (Some (key_of f.name))) (field_same f) (bad_same row)

  fault_same : (o : Op) → fault_of o (object gs) ≡ fault_of o (object ms)
  fault_same o = ap₂ option_or (bad_same (row_of o)) (is.least (λ key. not (is_of_row (codes "op") (rules_of o) key)) (λ key other. of_no_row (row_of o) key other))

  refused_same : value_refused chunk (object gs) ≡ value_refused chunk (object ms)
  refused_same =
      let named_lang = text (codes "lang") refl in
      let path = text (codes "path") refl in
      let of = text (codes "text") refl in
      let min = number (codes "min") refl in
      let scope = text (codes "scope") refl in
      ap (λ x. seen_refused chunk x (text_at (codes "path") (object gs)) (text_at (codes "text") (object gs)) (number_at (codes "min") (object gs)) (text_at (codes "scope") (object gs))) named_lang
      ∙ ap (λ x. seen_refused chunk (text_at (codes "lang") (object ms)) x (text_at (codes "text") (object gs)) (number_at (codes "min") (object gs)) (text_at (codes "scope") (object gs))) path
      ∙ ap (λ x. seen_refused chunk (text_at (codes "lang") (object ms)) (text_at (codes "path") (object ms)) x (number_at (codes "min") (object gs)) (text_at (codes "scope") (object gs))) of
      ∙ ap (λ x. seen_refused chunk (text_at (codes "lang") (object ms)) (text_at (codes "path") (object ms)) (text_at (codes "text") (object ms)) x (text_at (codes "scope") (object gs))) min
      ∙ ap (λ x. seen_refused chunk (text_at (codes "lang") (object ms)) (text_at (codes "path") (object ms)) (text_at (codes "text") (object ms)) (number_at (codes "min") (object ms)) x) scope

  why_same : (o : Op) → why_refused chunk o (object gs) ≡ why_refused chunk o (object ms)
  why_same o = ap₂ field_or (fault_same o) refused_same

  query_same : (k : Kind) → query_of chunk k (object gs) ≡ query_of chunk k (object ms)
  query_same k =
      let project = text (codes "project") refl in
      let path = text (codes "path") refl in
      let min = number (codes "min") refl in
      let at = number (codes "at") refl in
      let scope = text (codes "scope") refl in
      let since = number (codes "since") refl in
      ap (λ x. seen_query chunk k x (text_at (codes "path") (object gs)) (number_at (codes "min") (object gs)) (number_at (codes "at") (object gs)) (flag_at (codes "finish") (object gs)) (text_at (codes "scope") (object gs)) (number_at (codes "since") (object gs))) project
      ∙ ap (λ x. seen_query chunk k (text_at (codes "project") (object ms)) x (number_at (codes "min") (object gs)) (number_at (codes "at") (object gs)) (flag_at (codes "finish") (object gs)) (text_at (codes "scope") (object gs)) (number_at (codes "since") (object gs))) path
      ∙ ap (λ x. seen_query chunk k (text_at (codes "project") (object ms)) (text_at (codes "path") (object ms)) x (number_at (codes "at") (object gs)) (flag_at (codes "finish") (object gs)) (text_at (codes "scope") (object gs)) (number_at (codes "since") (object gs))) min
      ∙ ap (λ x. seen_query chunk k (text_at (codes "project") (object ms)) (text_at (codes "path") (object ms)) (number_at (codes "min") (object ms)) x (flag_at (codes "finish") (object gs)) (text_at (codes "scope") (object gs)) (number_at (codes "since") (object gs))) at
      ∙ ap (λ x. seen_query chunk k (text_at (codes "project") (object ms)) (text_at (codes "path") (object ms)) (number_at (codes "min") (object ms)) (number_at (codes "at") (object ms)) x (text_at (codes "scope") (object gs)) (number_at (codes "since") (object gs))) finish
      ∙ ap (λ x. seen_query chunk k (text_at (codes "project") (object ms)) (text_at (codes "path") (object ms)) (number_at (codes "min") (object ms)) (number_at (codes "at") (object ms)) (flag_at (codes "finish") (object ms)) x (number_at (codes "since") (object gs))) scope
      ∙ ap (λ x. seen_query chunk k (text_at (codes "project") (object ms)) (text_at (codes "path") (object ms)) (number_at (codes "min") (object ms)) (number_at (codes "at") (object ms)) (flag_at (codes "finish") (object ms)) (text_at (codes "scope") (object ms)) x) since

  put_same : put_of (object gs) ≡ put_of (object ms)
  put_same =
      ap (λ x. seen_put x (text_at (codes "path") (object gs)) (text_at (codes "lang") (object gs)) (text_at (codes "text") (object gs))) (text (codes "project") refl)
      ∙ ap (λ x. seen_put (text_at (codes "project") (object ms)) x (text_at (codes "lang") (object gs)) (text_at (codes "text") (object gs))) (text (codes "path") refl)
      ∙ ap (λ x. seen_put (text_at (codes "project") (object ms)) (text_at (codes "path") (object ms)) x (text_at (codes "text") (object gs))) (text (codes "lang") refl)
      ∙ ap (λ x. seen_put (text_at (codes "project") (object ms)) (text_at (codes "path") (object ms)) (text_at (codes "lang") (object ms)) x) (text (codes "text") refl)

  drop_same : drop_of (object gs) ≡ drop_of (object ms)
  drop_same = ap₂ (λ a b. change.Drop (unwrap_or a []) (unwrap_or b [])) (text (codes "project") refl) (text (codes "path") refl)

  gate_same : why_refused chunk op.Gate (object ms) ≡ None → gate_of (object gs) ≡ gate_of (object ms)
  gate_same accepted =
      let none = first_none (bad_field (rules_of op.Gate) (object ms)) _ (none_named (fault_of op.Gate (object ms)) (value_refused chunk (object ms)) accepted).0 in
      let good = second_good _ _ _ _ _ none in
      ap₂ (λ a c. change.Gate (unwrap_or a []) c) (text (codes "project") refl)
      (conditions_there (get_member (codes "conditions") ms) (get_member (codes "conditions") gs) (is.members (codes "conditions") form.Conditions refl) good)

  request_same : (o : Op) → why_refused chunk o (object ms) ≡ None → request_of chunk o (object gs) ≡ request_of chunk o (object ms)
  request_same op.Put accepted = ap request.Change put_same
  request_same op.Drop accepted = ap request.Change drop_same
  request_same op.Gate accepted = ap request.Change (gate_same accepted)
  request_same op.Files accepted = ap request.Query (query_same kind.Files)
  request_same op.Groups accepted = ap request.Query (query_same kind.Groups)
  request_same op.Measures accepted = ap request.Query (query_same kind.Measures)
  request_same op.Verdict accepted = ap request.Query (query_same kind.Verdict)
  request_same op.Functions accepted = ap request.Query (query_same kind.Functions)
  request_same op.State accepted = refl

  object_same : (o : Option Op) → object_says chunk o (object gs) ≡ object_says chunk o (object ms)
  object_same None = refl
  object_same (Some o) =
      unless_same (why_refused chunk o (object gs)) (why_refused chunk o (object ms)) (request_of chunk o (object gs)) (request_of chunk o (object ms)) (why_same o) (request_same o)

  pub gist_says : value_says chunk (object gs) ≡ value_says chunk (object ms)
  gist_says = ap (λ o. object_says chunk o (object gs)) (ap (option_and_then op_named) (text (codes "op") refl)) ∙ object_same (op_of (object ms))
