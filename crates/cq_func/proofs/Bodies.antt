-- What is found has bodies that never cross.
use Rattle.std.proofs.Common.{◌≡◌, ℕ, zero, suc, ◌+◌, ◌-◌, ◌<◌, ◌≤◌, Bool, true, false, cond, eqb, ltb, not, ◌&&◌, Option, Some, None, List, [], ◌∷◌, ◌++◌, length, get_or, slice_get, codes, refl, sym, ap, ◌∙◌, subst, ⊎_elim, arith}
use Rattle.std.specs.Prelude.{Contains}
use Rattle.std.specs.Option.{option_to_list}
use Rattle.std.specs.List.{flat_map, range_with_len}
use Rattle.std.specs.Str.{bytes_eq}
use Rattle.std.proofs.lemmas.Bool.{cases_order, ltb-true, eqb-true, eq-eqb, and_parts, both_ways, cond-true, cond-false, false_from_ne_true}
use Rattle.std.proofs.lemmas.List.{flat_map_more}
use Rattle.std.proofs.lemmas.List.Elements.{Contains-append_cases}
use Rattle.std.proofs.lemmas.Slice.Eq.{bytes_eq-Decides}
use Rattle.cq_base.specs.declared.lang.Lang.{Lang}
use Rattle.cq_base.specs.declared.lang.Lang.TheVariants as lang
use Rattle.cq_base.specs.declared.token.Spelled.{Spelled}
use Rattle.cq_func.specs.declared.brackets.Kind.{Kind}
use Rattle.cq_func.specs.declared.brackets.Kind.TheVariants as kind
use Rattle.cq_func.specs.declared.found.Found.{Found}
use Rattle.cq_func.specs.declared.ts.Types.{Types}
use Rattle.cq_func.specs.declared.ts.Types.TheVariants as types
use Rattle.cq_func.specs.Places.{place_above}
use Rattle.cq_func.specs.Brackets.{spelling_of, is_spelled, holds, stands, stands_before, opens, closes, are_even, from_to, partner}
use Rattle.cq_func.specs.Levels.{level}
use Rattle.cq_func.specs.Names.{is_name, is_called, with_body, is_no_method, ends_throws, behind_throws, java_open, java_function, c_function, is_used, js_declared, is_given, past, is_expression, expressed, arrow_open, js_value, js_function, type_end, ends_type, typed_parameters, behind_result, is_own, ts_declared, value_place, is_type_name, ts_value, ts_function, go_is_named, go_parameters, go_end, go_open, is_type, go_body, go_function, function_at}
use Rattle.cq_func.specs.Functions.{found}
use Rattle.cq_func.specs.Walks.{AreBodies}
use Rattle.cq_func.proofs.Least.{place_above-within, place_above-passes, place_above-least, place_below-passes}
use Rattle.cq_func.proofs.Counted.{level-tells, level-more}
use Rattle.cq_func.proofs.Walked.{range_next}

-- ---- between a bracket and its partner

-- a token is no bracket of both sorts
apart : (text a b : List ℕ) → (a ≡ b → ⊥) → bytes_eq text a ≡ true → bytes_eq text b ≡ true → ⊥
apart text a b ne x y = ne (sym ((bytes_eq-Decides text a).0 x) ∙ (bytes_eq-Decides text b).0 y)

opening_token : (l : Lang) (o : Option Spelled) (word : List ℕ) → holds (is_spelled l word) o ≡ true → (t : Spelled) × (o ≡ Some t) × (is_spelled l word t ≡ true)
opening_token l None word is = absurd (cc)
opening_token l (Some t) word is = (t, refl, is)

read_token : (ts : List Spelled) (at : ℕ) (t : Spelled) → slice_get ts at ≡ Some t → (at < length ts) × (get_or ts at t ≡ t)
read_token [] at t is = absurd (cc)
read_token (x ∷ xs) zero t is = let e : x ≡ t = cc in (omega arith, e)
read_token (x ∷ xs) (suc at) t is = let r = read_token xs at t is in (omega (arith, r.0), r.1)

-- a brace that opens, as the levels see it
braced : (l : Lang) (ts : List Spelled) (at : ℕ) → stands l ts at (codes "{") ≡ true → (at < length ts) × (level l kind.Curly ts (at + 1) ≡ level l kind.Curly ts at + 1)
braced l ts at is =
    let found = opening_token l (slice_get ts at) (codes "{") is in
    let t = found.0 in
    let read = read_token ts at t found.1 in
    let more = level-more l kind.Curly ts at t read.0 in
    let opened : opens l kind.Curly (get_or ts at t) ≡ true = ap (opens l kind.Curly) read.1 ∙ found.2 in
    let closed : closes l kind.Curly (get_or ts at t) ≡ false =
    ap (closes l kind.Curly) read.1 ∙ false_from_ne_true (is_spelled l (codes "}") t) (λ (c : is_spelled l (codes "}") t ≡ true). apart (spelling_of l t.token.class t.text) (codes "{") (codes "}") (λ (e : codes "{" ≡ codes "}"). let h : 123 ≡ 125 = ap (λ (xs : List ℕ). get_or xs 0 0) e in omega (arith, h)) found.2 c) in
    let up = cond-true {A = ℕ} (opens l kind.Curly (get_or ts at t)) 1 0 opened in
    let down = cond-false {A = ℕ} (closes l kind.Curly (get_or ts at t)) 1 0 closed in
    (read.0, omega (arith, more, up, down))

-- no step goes down by more than 1
falls_slowly : (b : Bool) → cond b 1 0 ≤ 1
falls_slowly true = omega arith
falls_slowly false = omega arith

level_step : (l : Lang) (ts : List Spelled) (at : ℕ) (d : Spelled) → at < length ts → level l kind.Curly ts at ≤ level l kind.Curly ts (at + 1) + 1
level_step l ts at d lt =
    let more = level-more l kind.Curly ts at d lt in
    let slow = falls_slowly (closes l kind.Curly (get_or ts at d)) in
    omega (arith, more, slow)

-- a brace with its partner
pub record IsPair (l : Lang) (ts : List Spelled) (brace close : ℕ) : Type 0 where
  pub opens : stands l ts brace (codes "{") ≡ true
  pub closes : partner l kind.Curly ts brace ≡ close
  pub within : close < length ts

same_level : (l : Lang) (ts : List Spelled) (brace close : ℕ) → IsPair l ts brace close → (brace < close) × (level l kind.Curly ts (close + 1) ≡ level l kind.Curly ts brace)
unfolding partner
same_level l ts brace close pair =
    let inside = (braced l ts brace pair.opens).0 in
    let is = pair.closes in
    let w = place_above-within (λ j. are_even l kind.Curly (from_to ts brace j)) brace (length ts) inside in
    let low : brace < close = omega (arith, is, w.0) in
    let small = pair.within in
    let passes = place_above-passes (λ j. are_even l kind.Curly (from_to ts brace j)) brace (length ts) inside (omega (arith, is, small)) in
    let even : are_even l kind.Curly (from_to ts brace close) ≡ true = subst (λ c. are_even l kind.Curly (from_to ts brace c) ≡ true) is passes in
    (low, eqb-true _ _ (level-tells l kind.Curly ts brace (close + 1) (omega arith) (omega arith) ∙ even))

other_level : (l : Lang) (ts : List Spelled) (brace close at : ℕ) → IsPair l ts brace close → brace < at → at < close → level l kind.Curly ts (at + 1) ≡ level l kind.Curly ts brace → ⊥
unfolding partner
other_level l ts brace close at pair low high e =
    let is = pair.closes in
    let small = pair.within in
    both_ways (are_even l kind.Curly (from_to ts brace at))
    (place_above-least (λ j. are_even l kind.Curly (from_to ts brace j)) brace (length ts) at low (omega (arith, is, high)))
    (sym (level-tells l kind.Curly ts brace (at + 1) (omega arith) (omega arith)) ∙ eq-eqb _ _ e)

-- after the brace and up to its partner the level is above that before it
higher : (l : Lang) (ts : List Spelled) (d : Spelled) (brace close more : ℕ) → IsPair l ts brace close → brace + 1 + more ≤ close → level l kind.Curly ts brace < level l kind.Curly ts (brace + 1 + more)
higher l ts d brace close zero pair le =
    let up = (braced l ts brace pair.opens).1 in
    let e = ap (level l kind.Curly ts) (let e : brace + 1 + 0 ≡ brace + 1 = omega arith in e) in
    omega (arith, up, e)
higher l ts d brace close (suc more) pair le =
    let before = higher l ts d brace close more pair (omega arith) in
    let small = pair.within in
    let step = level_step l ts (brace + 1 + more) d (omega arith) in
    let ne = other_level l ts brace close (brace + 1 + more) pair (omega arith) (omega arith) in
    let e = ap (level l kind.Curly ts) (let e : brace + 1 + suc more ≡ brace + 1 + more + 1 = omega arith in e) in
    omega (arith, before, step, ne, e)

above : (l : Lang) (ts : List Spelled) (d : Spelled) (brace close at : ℕ) → IsPair l ts brace close → brace < at → at ≤ close → level l kind.Curly ts brace < level l kind.Curly ts at
above l ts d brace close at pair low high =
    let e : brace + 1 + (at - (brace + 1)) ≡ at = omega arith in
    subst (λ k. level l kind.Curly ts brace < level l kind.Curly ts k) e (higher l ts d brace close (at - (brace + 1)) pair (omega arith))

-- of two pairs one is inside the other, or they are apart
nested_pairs : (l : Lang) (ts : List Spelled) (d : Spelled) (a x b y : ℕ) → IsPair l ts a x → IsPair l ts b y → a < b → b ≤ x → y < x
nested_pairs l ts d a x b y outer inner less begins =
    let up = above l ts d a x b outer less begins in
    let outer_end = (same_level l ts a x outer).1 in
    let inner_end = (same_level l ts b y inner).1 in
    let opened = (braced l ts b inner.opens).1 in
    ⊎_elim
    (λ (e : y ≡ x). let e' = ap (λ k. level l kind.Curly ts (k + 1)) e in absurd (omega (arith, up, outer_end, inner_end, e')))
    (λ other. ⊎_elim (λ (lt : y < x). lt)
    (λ (gt : x < y).
    ⊎_elim
    (λ (e : b ≡ x). let e' = ap (λ k. level l kind.Curly ts (k + 1)) e in let e'' = ap (level l kind.Curly ts) e in absurd (omega (arith, up, outer_end, opened, e', e'')))
    (λ rest. ⊎_elim
    (λ (lt : b < x). let high = above l ts d b y (x + 1) inner (omega arith) (omega arith) in absurd (omega (arith, up, outer_end, high)))
    (λ (gt' : x < b). absurd (omega arith)) rest)
    (cases_order b x)) other)
    (cases_order y x)

-- ---- what is found

pub record IsFound (l : Lang) (ts : List Spelled) (f : Found) : Type 0 where
  pub named : f.name < length ts
  pub begun : f.name < f.brace
  pub pair : IsPair l ts f.brace f.close

cond_some : {X : Type 0} (b : Bool) (x : Option X) (y : X) → cond b x None ≡ Some y → (b ≡ true) × (x ≡ Some y)
cond_some true x y is = (refl, is)
cond_some false x y is = absurd (cc)

none_or : {X : Type 0} (b : Bool) (x : Option X) (y : X) → cond b None x ≡ Some y → x ≡ Some y
none_or true x y is = absurd (cc)
none_or false x y is = is

either_found : {X P : Type 0} (b d : Bool) (x y : Option X) (f : X) → (b ≡ true → x ≡ Some f → P) → (d ≡ true → y ≡ Some f → P) → cond b x (cond d y None) ≡ Some f → P
either_found true d x y f first second is = first refl is
either_found false true x y f first second is = second refl is
either_found false false x y f first second is = absurd (cc)

some_is : {X : Type 0} (x y : X) → Some x ≡ Some y → x ≡ y
some_is x y is = cc

-- a token that is spelled so is there, and the partner of a bracket that is there stands above it
stands_inside : (l : Lang) (ts : List Spelled) (at : ℕ) (word : List ℕ) → stands l ts at word ≡ true → at < length ts
stands_inside l ts at word is = let found = opening_token l (slice_get ts at) word is in (read_token ts at found.0 found.1).0

partner_above : (l : Lang) (k : Kind) (ts : List Spelled) (at : ℕ) → at < length ts → at < partner l k ts at
unfolding partner
partner_above l k ts at inside = (place_above-within (λ j. are_even l k (from_to ts at j)) at (length ts) inside).0

cond_above : (b : Bool) (low x y : ℕ) → (b ≡ true → low < x) → low < y → low < cond b x y
cond_above true low x y over other = over refl
cond_above false low x y over other = other

with_body-found : (l : Lang) (ts : List Spelled) (name brace : ℕ) (f : Found) → name < length ts → name < brace → with_body l ts name brace ≡ Some f → IsFound l ts f
with_body-found l ts name brace f inside over is =
    let c = cond_some (stands l ts brace (codes "{") && ltb (partner l kind.Curly ts brace) (length ts)) _ f is in
    let parts = and_parts (stands l ts brace (codes "{")) (ltb (partner l kind.Curly ts brace) (length ts)) c.0 in
    let e = some_is _ f c.1 in
    subst (IsFound l ts) e (record {
      named = inside;
      begun = over;
      pair = record { opens = parts.0; closes = refl; within = ltb-true _ _ parts.1 };
    })

called_above : (l : Lang) (ts : List Spelled) (name : ℕ) → is_called l ts name ≡ true → name + 1 < partner l kind.Round ts (name + 1)
called_above l ts name called =
    let opened = (and_parts (is_name ts name) (stands l ts (name + 1) (codes "(")) called).1 in
    partner_above l kind.Round ts (name + 1) (stands_inside l ts (name + 1) (codes "(") opened)

java_open-above : (ts : List Spelled) (name close : ℕ) → name < length ts → name < close → name < java_open ts close
java_open-above ts name close inside over =
    let end = place_above (ends_throws ts) (close + 1) (length ts) in
    cond_above (stands lang.Java ts (close + 1) (codes "throws")) name (behind_throws ts (close + 1)) (close + 1)
    (λ _. cond_above (ltb (close + 1 + 1) end) name end (length ts) (λ is. let less = ltb-true (close + 1 + 1) end is in omega arith) inside)
    (omega arith)

java-found : (ts : List Spelled) (name : ℕ) (f : Found) → name < length ts → java_function ts name ≡ Some f → IsFound lang.Java ts f
java-found ts name f inside is =
    let c = cond_some (is_called lang.Java ts name && not (is_no_method ts name)) _ f is in
    let called = and_parts (is_called lang.Java ts name) (not (is_no_method ts name)) c.0 in
    let close = partner lang.Java kind.Round ts (name + 1) in
    let over : name + 1 < close = called_above lang.Java ts name called.0 in
    with_body-found lang.Java ts name (java_open ts close) f inside (java_open-above ts name close inside (omega arith)) c.1

c-found : (ts : List Spelled) (name : ℕ) (f : Found) → name < length ts → c_function ts name ≡ Some f → IsFound lang.C ts f
c-found ts name f inside is =
    let close = partner lang.C kind.Round ts (name + 1) in
    let c = cond_some _ (with_body lang.C ts name (close + 1)) f is in
    let called = and_parts (is_called lang.C ts name) _ c.0 in
    let over : name + 1 < close = called_above lang.C ts name called.0 in
    with_body-found lang.C ts name (close + 1) f inside (omega arith) c.1

go_open-pair : (ts : List Spelled) (close : ℕ) → close < length ts → go_open ts close < length ts → IsPair lang.Go ts (go_open ts close) close
unfolding go_open
go_open-pair ts close inside found =
    let passes = place_below-passes (λ b. stands lang.Go ts b (codes "{") && eqb (partner lang.Go kind.Curly ts b) close) (length ts) found in
    let parts = and_parts _ _ passes in
    record { opens = parts.0; closes = eqb-true _ _ parts.1; within = inside }

go_body-found : (ts : List Spelled) (name close : ℕ) (f : Found) → name < length ts → name < close → go_body ts name close ≡ Some f → IsFound lang.Go ts f
go_body-found ts name close f inside over is =
    let end = go_end ts close in
    let brace = go_open ts (end - 1) in
    let c = cond_some (ltb end (length ts) && (ltb close brace && (ltb brace (length ts) && not (is_type ts brace)))) _ f is in
    let first = and_parts _ _ c.0 in
    let second = and_parts _ _ first.1 in
    let third = and_parts _ _ second.1 in
    let within = ltb-true end (length ts) first.0 in
    let behind = ltb-true close brace second.0 in
    let e = some_is _ f c.1 in
    subst (IsFound lang.Go ts) e (record {
      named = inside;
      begun = omega arith;
      pair = go_open-pair ts (end - 1) (omega arith) (ltb-true brace (length ts) third.0);
    })

go_parameters-above : (ts : List Spelled) (name : ℕ) → name < go_parameters ts name
go_parameters-above ts name =
    cond_above (stands lang.Go ts (name + 1) (codes "[")) name (partner lang.Go kind.Square ts (name + 1) + 1) (name + 1)
    (λ is. let over : name + 1 < partner lang.Go kind.Square ts (name + 1) = partner_above lang.Go kind.Square ts (name + 1) (stands_inside lang.Go ts (name + 1) (codes "[") is) in omega arith)
    (omega arith)

go-found : (ts : List Spelled) (name : ℕ) (f : Found) → name < length ts → go_function ts name ≡ Some f → IsFound lang.Go ts f
go-found ts name f inside is =
    let first = go_parameters ts name in
    let close = partner lang.Go kind.Round ts first in
    let c = cond_some (go_is_named ts name && (stands lang.Go ts first (codes "(") && ltb close (length ts))) (go_body ts name close) f is in
    let opened = (and_parts _ _ (and_parts (go_is_named ts name) (stands lang.Go ts first (codes "(") && ltb close (length ts)) c.0).1).0 in
    let low : name < first = go_parameters-above ts name in
    let over : first < close = partner_above lang.Go kind.Round ts first (stands_inside lang.Go ts first (codes "(") opened) in
    go_body-found ts name close f inside (omega arith) c.1

-- ---- JavaScript

cond_from : (b : Bool) (low x y : ℕ) → (b ≡ true → low ≤ x) → low ≤ y → low ≤ cond b x y
cond_from true low x y over other = over refl
cond_from false low x y over other = other

past-from : (l : Lang) (word : List ℕ) (ts : List Spelled) (at : ℕ) → at ≤ past l word ts at
past-from l word ts at = cond_from (stands l ts at word) at (at + 1) at (λ _. omega arith) (omega arith)

expressed-from : (l : Lang) (ts : List Spelled) (at : ℕ) → at ≤ expressed l ts at
expressed-from l ts at =
    let over = past-from l (codes "*") ts (at + 1) in
    cond_from (is_expression l ts at) at (past l (codes "*") ts (at + 1)) at (λ _. omega (arith, over)) (omega arith)

arrow_open-above : (l : Lang) (ts : List Spelled) (name at behind : ℕ) → name < length ts → name < behind → name < arrow_open l ts at behind
arrow_open-above l ts name at behind inside over =
    cond_above (is_expression l ts at) name behind (cond (stands l ts behind (codes "=>")) (behind + 1) (length ts)) (λ _. over)
    (cond_above (stands l ts behind (codes "=>")) name (behind + 1) (length ts) (λ _. omega arith) inside)

js_declared-found : (ts : List Spelled) (name : ℕ) (f : Found) → name < length ts → is_called lang.Js ts name ≡ true → js_declared ts name ≡ Some f → IsFound lang.Js ts f
js_declared-found ts name f inside called is =
    let close = partner lang.Js kind.Round ts (name + 1) in
    let over : name + 1 < close = called_above lang.Js ts name called in
    with_body-found lang.Js ts name (close + 1) f inside (omega arith) (none_or (is_used lang.Js ts name) (with_body lang.Js ts name (close + 1)) f is)

js_value-found : (ts : List Spelled) (name : ℕ) (f : Found) → name < length ts → js_value ts name ≡ Some f → IsFound lang.Js ts f
js_value-found ts name f inside is =
    let at = past lang.Js (codes "async") ts (name + 2) in
    let first = expressed lang.Js ts at in
    let close = partner lang.Js kind.Round ts first in
    let c = cond_some (stands lang.Js ts first (codes "(")) (with_body lang.Js ts name (arrow_open lang.Js ts at (close + 1))) f is in
    let low : name + 2 ≤ at = past-from lang.Js (codes "async") ts (name + 2) in
    let next : at ≤ first = expressed-from lang.Js ts at in
    let over : first < close = partner_above lang.Js kind.Round ts first (stands_inside lang.Js ts first (codes "(") c.0) in
    with_body-found lang.Js ts name (arrow_open lang.Js ts at (close + 1)) f inside (arrow_open-above lang.Js ts name at (close + 1) inside (omega (arith, low, next, over))) c.1

js-found : (ts : List Spelled) (name : ℕ) (f : Found) → name < length ts → js_function ts name ≡ Some f → IsFound lang.Js ts f
js-found ts name f inside is =
    either_found (is_called lang.Js ts name) (is_given lang.Js ts name) (js_declared ts name) (js_value ts name) f
    (js_declared-found ts name f inside) (λ _. js_value-found ts name f inside) is

-- ---- TypeScript

type_end-above : (which : Types) (ts : List Spelled) (at : ℕ) → at < length ts → at < type_end which ts at
type_end-above which ts at inside = (place_above-within (ends_type which ts) at (length ts) inside).0

typed_parameters-from : (ts : List Spelled) (at : ℕ) → at ≤ typed_parameters ts at
typed_parameters-from ts at =
    let end = type_end types.Parameters ts at in
    cond_from (stands lang.Ts ts at (codes "<")) at (cond (stands_before lang.Ts ts end (codes ">")) end (length ts)) at
    (λ is.
    let inside = stands_inside lang.Ts ts at (codes "<") is in
    let over = type_end-above types.Parameters ts at inside in
    cond_from (stands_before lang.Ts ts end (codes ">")) at end (length ts) (λ _. omega (arith, over)) (omega (arith, inside)))
    (omega arith)

behind_result-above : (ts : List Spelled) (name at : ℕ) → name < length ts → name < at → name < behind_result ts at
behind_result-above ts name at inside over =
    let end = type_end types.Result ts at in
    cond_above (stands lang.Ts ts at (codes ":")) name (cond (ltb (at + 1) end) end (length ts)) at
    (λ _. cond_above (ltb (at + 1) end) name end (length ts) (λ is. let less = ltb-true (at + 1) end is in omega (arith, less, over)) inside)
    over

value_place-above : (ts : List Spelled) (name : ℕ) → name < value_place ts name
value_place-above ts name =
    let end = type_end types.Value ts (name + 1) in
    cond_above (stands lang.Ts ts (name + 1) (codes ":")) name (cond (stands lang.Ts ts end (codes "=")) (end + 1) (name + 2)) (name + 2)
    (λ is.
    let over = type_end-above types.Value ts (name + 1) (stands_inside lang.Ts ts (name + 1) (codes ":") is) in
    cond_above (stands lang.Ts ts end (codes "=")) name (end + 1) (name + 2) (λ _. omega (arith, over)) (omega arith))
    (omega arith)

ts_declared-found : (ts : List Spelled) (name : ℕ) (f : Found) → name < length ts → ts_declared ts name ≡ Some f → IsFound lang.Ts ts f
ts_declared-found ts name f inside is =
    let first = typed_parameters ts (name + 1) in
    let close = partner lang.Ts kind.Round ts first in
    let brace = behind_result ts (close + 1) in
    let own = cond_some (is_own ts name) (cond (stands lang.Ts ts first (codes "(")) (with_body lang.Ts ts name brace) None) f is in
    let c = cond_some (stands lang.Ts ts first (codes "(")) (with_body lang.Ts ts name brace) f own.1 in
    let low : name + 1 ≤ first = typed_parameters-from ts (name + 1) in
    let over : first < close = partner_above lang.Ts kind.Round ts first (stands_inside lang.Ts ts first (codes "(") c.0) in
    with_body-found lang.Ts ts name brace f inside (behind_result-above ts name (close + 1) inside (omega (arith, low, over))) c.1

ts_value-found : (ts : List Spelled) (name : ℕ) (f : Found) → name < length ts → ts_value ts name ≡ Some f → IsFound lang.Ts ts f
ts_value-found ts name f inside is =
    let begin = value_place ts name in
    let at = past lang.Ts (codes "async") ts begin in
    let value = expressed lang.Ts ts at in
    let first = typed_parameters ts value in
    let close = partner lang.Ts kind.Round ts first in
    let behind = behind_result ts (close + 1) in
    let brace = arrow_open lang.Ts ts at behind in
    let valued = none_or (is_type_name ts name) (cond (stands lang.Ts ts first (codes "(")) (with_body lang.Ts ts name brace) None) f is in
    let c = cond_some (stands lang.Ts ts first (codes "(")) (with_body lang.Ts ts name brace) f valued in
    let start : name < begin = value_place-above ts name in
    let low : begin ≤ at = past-from lang.Ts (codes "async") ts begin in
    let next : at ≤ value = expressed-from lang.Ts ts at in
    let more : value ≤ first = typed_parameters-from ts value in
    let over : first < close = partner_above lang.Ts kind.Round ts first (stands_inside lang.Ts ts first (codes "(") c.0) in
    with_body-found lang.Ts ts name brace f inside
    (arrow_open-above lang.Ts ts name at behind inside (behind_result-above ts name (close + 1) inside (omega (arith, start, low, next, more, over)))) c.1

cond_either : {X P : Type 0} (b : Bool) (x y : Option X) (f : X) → (x ≡ Some f → P) → (y ≡ Some f → P) → cond b x y ≡ Some f → P
cond_either true x y f first second is = first is
cond_either false x y f first second is = second is

ts-found : (ts : List Spelled) (name : ℕ) (f : Found) → name < length ts → ts_function ts name ≡ Some f → IsFound lang.Ts ts f
ts-found ts name f inside is = cond_either (is_given lang.Ts ts name) (ts_value ts name) (ts_declared ts name) f (ts_value-found ts name f inside) (ts_declared-found ts name f inside) is

at-found : (l : Lang) (ts : List Spelled) (name : ℕ) (f : Found) → name < length ts → function_at l ts name ≡ Some f → IsFound l ts f
at-found lang.Any ts name f inside is = absurd (cc)
at-found lang.Go ts name f inside is = go-found ts name f inside is
at-found lang.C ts name f inside is = c-found ts name f inside is
at-found lang.Java ts name f inside is = java-found ts name f inside is
at-found lang.Js ts name f inside is = js-found ts name f inside is
at-found lang.Ts ts name f inside is = ts-found ts name f inside is

-- ---- the list of them

one_of : {X : Type 0} (o : Option X) (x : X) → Contains (option_to_list o) x → o ≡ Some x
one_of None x (k, within, is) = absurd (omega arith)
one_of (Some y) x (zero, within, is) = ap Some is
one_of (Some y) x (suc k, within, is) = absurd (omega arith)

from_range : (f : ℕ → Option Found) (a n : ℕ) (x : Found) → Contains (flat_map (λ at. option_to_list (f at)) (range_with_len a n)) x → (at : ℕ) × (at < a + n) × (f at ≡ Some x)
from_range f a zero x (k, within, is) = absurd (omega arith)
from_range f a (suc n) x among =
    ⊎_elim
    (λ here. (a, omega arith, one_of (f a) x here))
    (λ there. let later = from_range f (a + 1) n x there in let below = later.1 in (later.0, omega (arith, below), later.2))
    (Contains-append_cases (option_to_list (f a)) (flat_map (λ at. option_to_list (f at)) (range_with_len (a + 1) n)) x among)

pub found-are : (l : Lang) (ts : List Spelled) (f : Found) → Contains (found l ts) f → IsFound l ts f
found-are l ts f among = let at = from_range (function_at l ts) 0 (length ts) f among in let below = at.1 in at-found l ts at.0 f (omega (arith, below)) at.2

pub bodies : (l : Lang) (ts : List Spelled) (d : Spelled) → AreBodies (length ts) (found l ts)
bodies l ts d = record {
  within = λ f among. let i = found-are l ts f among in let low = (same_level l ts f.brace f.close i.pair).0 in let high = i.pair.within in (i.named, omega (arith, low, high), high);
  ordered = λ f among. (same_level l ts f.brace f.close (found-are l ts f among).pair).0;
  same = λ f g fs gs e. sym (found-are l ts f fs).pair.closes ∙ ap (partner l kind.Curly ts) e ∙ (found-are l ts g gs).pair.closes;
  nested = λ f g fs gs less begins. nested_pairs l ts d f.brace f.close g.brace g.close (found-are l ts f fs).pair (found-are l ts g gs).pair less begins;
}

-- one place more
pub found_next : (f : ℕ → Option Found) (n : ℕ) → flat_map (λ at. option_to_list (f at)) (range_with_len 0 (n + 1)) ≡ flat_map (λ at. option_to_list (f at)) (range_with_len 0 n) ++ option_to_list (f n)
found_next f n =
    ap (flat_map (λ at. option_to_list (f at))) (range_next n)
    ∙ sym (flat_map_more (λ at. option_to_list (f at)) [] (range_with_len 0 n) n)
