-- Requests that are refused otherwise, or are not refused.
use Rattle.std.specs.Prelude.{◌≡◌, ℕ, true, Some, None, Ok, Err, List, [], ◌∷◌, ◌++◌, codes}
use Rattle.std.proofs.Common.{arith}
use Rattle.serde_json.specs.Data.{Data, Members, unsigned, number, string, array, object, no_items, member, no_members}
use Rattle.cq_base.specs.declared.lang.Lang.TheVariants as lang
use Rattle.cq_base.specs.Tables.{lang_named}
use Rattle.cq_request.specs.Conditions.{are_conditions}
use Rattle.cq_request.specs.Reading.{min_or, scope_passes, value_refused, value_says}
use Rattle.cq_base.specs.declared.refusal.Refusal.TheVariants as refusal
use Rattle.cq_request.specs.declared.request.Request.TheVariants as request

-- a member whose value is a text, or a number
abbrev text : List ℕ → List ℕ → Members → Members
text key value rest = member key (string value) rest

abbrev count : List ℕ → ℕ → Members → Members
count key n rest = member key (number (unsigned n)) rest

pub a_list_is_refused_as_json : value_says 2 (array no_items) ≡ Err refusal.Op → ⊥
a_list_is_refused_as_json e = grind (arith, e)

pub another_member_is_refused : value_says 2 (object (text (codes "op") (codes "state") (count (codes "x") 1 no_members))) ≡ Ok request.State → ⊥
another_member_is_refused e = grind (arith, e)

-- a put of a language that there is none of, without a project
pub a_field_is_looked_at_before_the_language :
    value_says 2 (object (text (codes "lang") (codes "x") (text (codes "op") (codes "put") (text (codes "path") (codes "a") (text (codes "text") [] no_members))))) ≡ Err refusal.Lang → ⊥
a_field_is_looked_at_before_the_language e = grind (arith, e)

pub go_is_not_java : lang_named (codes "go") ≡ Some lang.Java → ⊥
go_is_not_java e = grind (arith, e)

pub no_more_than_100000_tokens_are_asked_for : value_refused 2 (object (count (codes "min") 100001 no_members)) ≡ None → ⊥
no_more_than_100000_tokens_are_asked_for e = grind (arith, e)

pub the_least_length_is_looked_at_before_the_scope : value_refused 2 (object (count (codes "min") 1 (text (codes "scope") [] no_members))) ≡ Some refusal.Scope → ⊥
the_least_length_is_looked_at_before_the_scope e = grind (arith, e)

pub a_scope_stands_beside_no_path : scope_passes (object (text (codes "path") (codes "a") (text (codes "scope") (codes "b") no_members))) ≡ true → ⊥
a_scope_stands_beside_no_path e = cc

pub a_window_of_two_is_not_the_default : min_or 2 (object no_members) ≡ 2 → ⊥
a_window_of_two_is_not_the_default e = omega (arith, e)

abbrev condition : Data
condition = object (count (codes "error") 3 (text (codes "metric") (codes "files") (text (codes "op") (codes "GT") no_members)))

abbrev eight : List Data
eight = condition ∷ condition ∷ condition ∷ condition ∷ condition ∷ condition ∷ condition ∷ condition ∷ []

pub a_gate_has_no_33_conditions : are_conditions (condition ∷ (eight ++ (eight ++ (eight ++ eight)))) ≡ true → ⊥
a_gate_has_no_33_conditions e = cc
