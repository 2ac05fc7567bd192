-- The values of an array, and the text of a member.
use Rattle.std.proofs.Common.{◌≡◌, ℕ, ◌+◌, ◌<◌, List, [], ◌∷◌, ◌++◌, length, take, map, get_or, Option, Some, option_map, false, refl, sym, ap, ◌∙◌, arith}
use Rattle.std.specs.Prelude.{option_and_then, unwrap_or}
use Rattle.std.specs.List.{filter_map, cons_option}
use Rattle.std.proofs.lemmas.Grind.{common_steps}
use Rattle.std.proofs.lemmas.List.Elements.{filter_map-append}
use Rattle.serde_json.specs.Data.{Data, null, boolean, number, string, array, object, Items}
use Rattle.serde_json.specs.Find.{get, get_member, as_object}
use Rattle.serde_json.specs.View.{view, items_of, items_view}
use Rattle.serde_json.specs.declared.value.Value.{Value}
use Rattle.cq_request.specs.Members.{items_in}
use Rattle.cq_request.specs.Conditions.{are_conditions}

pub items_back : (ds : List Data) → items_in (items_of ds) ≡ ds
items_back [] = refl
items_back (d ∷ ds) = ap (λ xs. d ∷ xs) (items_back ds)

pub list_tested : (o : Option Items) (vs : List Value) → Some (items_view vs) ≡ o → are_conditions (map view vs) ≡ unwrap_or (option_map (λ ds. are_conditions (items_in ds)) o) false
list_tested o vs is = ap are_conditions (sym (items_back (map view vs))) ∙ ap (λ o. unwrap_or (option_map (λ ds. are_conditions (items_in ds)) o) false) is

filter_map-map : {V D X : Type 0} (h : D → Option X) (of : V → D) (vs : List V) → filter_map (λ v. h (of v)) vs ≡ filter_map h (map of vs)
filter_map-map h of [] = refl
filter_map-map h of (v ∷ vs) = ap (cons_option (h (of v))) (filter_map-map h of vs)

pub list_read : {X : Type 0} (h : Data → Option X) (o : Option Items) (vs : List Value) → Some (items_view vs) ≡ o → filter_map (λ v. h (view v)) vs ≡ filter_map h (unwrap_or (option_map items_in o) [])
list_read h o vs is = filter_map-map h view vs ∙ ap (filter_map h) (sym (items_back (map view vs)) ∙ ap (λ o. unwrap_or (option_map items_in o) []) is)

pub get_of_object : (key : List ℕ) (d : Data) → get key d ≡ option_and_then (get_member key) (as_object d)
get_of_object key null = refl
get_of_object key (boolean b) = refl
get_of_object key (number n) = refl
get_of_object key (string s) = refl
get_of_object key (array ds) = refl
get_of_object key (object ms) = refl

pub one_more_found : {V X : Type 0} (h : V → Option X) (found new : List X) (vs : List V) (i : ℕ) (v : V) → i < length vs → v ≡ get_or vs i v → found ≡ filter_map h (take i vs) → new ≡ found ++ cons_option (h v) [] → new ≡ filter_map h (take (i + 1) vs)
one_more_found h found new vs i v within is before grown = grind (arith, common_steps, filter_map-append)
