-- What is kept of a condition and of a list of them as they come.
use Rattle.std.proofs.Common.{◌≡◌, ℕ, suc, ◌+◌, ◌<◌, ◌≤◌, List, [], ◌∷◌, ◌++◌, length, Bool, true, false, cond, ◌&&◌, ◌==◌, nat_le, Ordering, Less, Equal, Greater, nat_cmp, Option, Some, None, option_map, refl, sym, ap, ap₂, ◌∙◌, subst, inl, inr, ⊎_elim, arith, length-append}
use Rattle.std.specs.Prelude.{◌⊎◌, is_some, option_and_then, codes}
use Rattle.std.specs.Cmp.Lexicographic.{slice_cmp}
use Rattle.std.specs.List.{filter_map, list_all, cons_option}
use Rattle.std.specs.Ordering.{match_ordering}
use Rattle.std.proofs.lemmas.Bool.{eqb-true, false_from_ne_true, le-leb, leb-true, true≢false}
use Rattle.std.proofs.lemmas.List.Elements.{filter_map-append}
use Rattle.std.proofs.lemmas.Map.Lookups.{exact_bytes}
use Rattle.serde_json.specs.Data.{Data, null, array, object, Items, Members, no_members, member, put}
use Rattle.serde_json.specs.Events.{members_len}
use Rattle.serde_json.specs.Find.{as_str, get_member}
use Rattle.serde_json.proofs.Views.{get_member-put, get_member-put_other}
use Rattle.cq_base.specs.declared.change.Condition.{Condition}
use Rattle.cq_request.specs.declared.form.Form.{Form}
use Rattle.cq_request.specs.declared.form.Form.TheVariants as form
use Rattle.cq_request.specs.Members.{items_in, number_at, number_of, text_at}
use Rattle.cq_base.specs.Tables.{compare_named, metric_named}
use Rattle.cq_request.specs.Conditions.{are_conditions, condition_made, condition_of}
use Rattle.cq_request.specs.Gist.{condition_form_of, conditions_listed, IsAlike}
use Rattle.cq_request.specs.Valued.{keys_in, AddsCondition, IsConditionSeen, IsSameCondition, NotesItem}
use Rattle.cq_request.proofs.Gists.{text_same, number_same}
use Rattle.cq_request.proofs.Seen.{more_alike, are_alike}

-- ---- the keys of an object

abbrev put_key : List ℕ → List (List ℕ) → List (List ℕ)
put_key k [] = k ∷ []
put_key k (l ∷ ls) = match_ordering (slice_cmp nat_cmp k l) (k ∷ l ∷ ls) (l ∷ ls) (l ∷ put_key k ls)

keys_put_at : (o : Ordering) (k l : List ℕ) (d e : Data) (ms : Members) → keys_in (put k d ms) ≡ put_key k (keys_in ms)
    → keys_in (match_ordering o (member k d (member l e ms)) (member l d ms) (member l e (put k d ms))) ≡ match_ordering o (k ∷ l ∷ keys_in ms) (l ∷ keys_in ms) (l ∷ put_key k (keys_in ms))
keys_put_at Less k l d e ms later = refl
keys_put_at Equal k l d e ms later = refl
keys_put_at Greater k l d e ms later = ap (λ ks. l ∷ ks) later

keys_put : (k : List ℕ) (d : Data) (ms : Members) → keys_in (put k d ms) ≡ put_key k (keys_in ms)
keys_put k d no_members = refl
keys_put k d (member l e ms) = keys_put_at (slice_cmp nat_cmp k l) k l d e ms (keys_put k d ms)

len_of_keys : (ms : Members) → members_len ms ≡ length (keys_in ms)
len_of_keys no_members = refl
len_of_keys (member k d ms) = ap suc (len_of_keys ms)

-- ---- a fourth member

abbrev bit : Bool → ℕ
bit true = 1
bit false = 0

abbrev has : List ℕ → Members → Bool
has k ms = is_some (get_member k ms)

abbrev Apart : Bool → Bool → Type 0
Apart a b = a ≡ true → b ≡ true → ⊥

one_of : (a b c d : Bool) → Apart a b → Apart a c → Apart a d → Apart b c → Apart b d → Apart c d → bit a + bit b + bit c + bit d ≤ 1
one_of true true c d ab ac ad bc bd cd = absurd (ab refl refl)
one_of true false true d ab ac ad bc bd cd = absurd (ac refl refl)
one_of true false false true ab ac ad bc bd cd = absurd (ad refl refl)
one_of true false false false ab ac ad bc bd cd = omega arith
one_of false true true d ab ac ad bc bd cd = absurd (bc refl refl)
one_of false true false true ab ac ad bc bd cd = absurd (bd refl refl)
one_of false true false false ab ac ad bc bd cd = omega arith
one_of false false true true ab ac ad bc bd cd = absurd (cd refl refl)
one_of false false true false ab ac ad bc bd cd = omega arith
one_of false false false true ab ac ad bc bd cd = omega arith
one_of false false false false ab ac ad bc bd cd = omega arith

abbrev is_tie : Ordering → Bool
is_tie Less = false
is_tie Equal = true
is_tie Greater = false

here_or_later : (o : Ordering) (e : Data) (later : Option Data) → bit (is_some (match_ordering o later (Some e) later)) ≤ bit (is_tie o) + bit (is_some later)
here_or_later Less e later = omega arith
here_or_later Equal e later = omega arith
here_or_later Greater e later = omega arith

tied : (k l : List ℕ) (o : Ordering) → slice_cmp nat_cmp k l ≡ o → is_tie o ≡ true → k ≡ l
tied k l Less is tie = absurd (cc)
tied k l Equal is tie = exact_bytes k l is
tied k l Greater is tie = absurd (cc)

abbrev tie : List ℕ → List ℕ → Bool
tie k l = is_tie (slice_cmp nat_cmp k l)

never_both : (k l m : List ℕ) → (k ≡ l → ⊥) → Apart (tie k m) (tie l m)
never_both k l m other here there = other (tied k m (slice_cmp nat_cmp k m) refl here ∙ sym (tied l m (slice_cmp nat_cmp l m) refl there))

module _ (a b c d : List ℕ) (ab : a ≡ b → ⊥) (ac : a ≡ c → ⊥) (ad : a ≡ d → ⊥) (bc : b ≡ c → ⊥) (bd : b ≡ d → ⊥) (cd : c ≡ d → ⊥) where
  at_least : (ms : Members) → bit (has a ms) + bit (has b ms) + bit (has c ms) + bit (has d ms) ≤ members_len ms
  at_least no_members = omega arith
  at_least (member l e ms) =
      let later = at_least ms in
      let one = one_of (tie a l) (tie b l) (tie c l) (tie d l) (never_both a b l ab) (never_both a c l ac) (never_both a d l ad) (never_both b c l bc) (never_both b d l bd) (never_both c d l cd) in
      let ha = here_or_later (slice_cmp nat_cmp a l) e (get_member a ms) in
      let hb = here_or_later (slice_cmp nat_cmp b l) e (get_member b ms) in
      let hc = here_or_later (slice_cmp nat_cmp c l) e (get_member c ms) in
      let hd = here_or_later (slice_cmp nat_cmp d l) e (get_member d ms) in
      omega (arith, later, one, ha, hb, hc, hd)

there : {X : Type 0} (see : Data → Option X) (o : Option Data) (x : X) → option_and_then see o ≡ Some x → is_some o ≡ true
there see None x is = absurd (cc)
there see (Some d) x is = refl

-- ---- one condition

pub condition_none : IsConditionSeen no_members no_members false
condition_none = record { known = λ key f of. tt; same = λ none. refl; other = λ bad. absurd (true≢false (sym bad)) }

apart_forms : (k u : List ℕ) (f : Form) → condition_form_of k ≡ Some f → condition_form_of u ≡ None → u ≡ k → ⊥
apart_forms k u f known none same = let bad : None ≡ Some f = sym none ∙ ap condition_form_of same ∙ known in absurd (cc)

pub condition_known : (ms gs : Members) (has_other : Bool) (k : List ℕ) (f : Form) (d v : Data) → IsConditionSeen ms gs has_other → condition_form_of k ≡ Some f → IsAlike f d v → IsConditionSeen (put k d ms) (put k v gs) has_other
condition_known ms gs has_other k f d v seen known alike = record {
  known = more_alike condition_form_of ms gs k f d v seen.known known alike;
  same = λ none. keys_put k d ms ∙ ap (put_key k) (seen.same none) ∙ sym (keys_put k v gs);
  other = λ some. let (u, none, is) = seen.other some in (u, none, ap (λ (o : Option Data). is_some o) (get_member-put_other u k d ms (apart_forms k u f known none)) ∙ is);
}

pub condition_other : (ms gs : Members) (has_other : Bool) (k : List ℕ) (d : Data) → IsConditionSeen ms gs has_other → condition_form_of k ≡ None → IsConditionSeen (put k d ms) gs true
condition_other ms gs has_other k d seen none = record {
  known = λ key f known. are_alike f (get_member key (put k d ms)) (get_member key gs) (get_member key ms) (get_member key gs) (get_member-put_other key k d ms (λ same. apart_forms key k f known none (sym same))) refl (seen.known key f known);
  same = λ bad. absurd (true≢false bad);
  other = λ some. (k, none, ap (λ (o : Option Data). is_some o) (get_member-put k d ms));
}

-- a condition by its count and its three members
abbrev condition_by : ℕ → Option (List ℕ) → Option (List ℕ) → Option ℕ → Option Condition
condition_by count metric op error =
    cond (count == 3) (option_and_then (λ m. option_and_then (λ c. option_map (condition_made m c) error) (option_and_then compare_named op)) (option_and_then metric_named metric)) None

pub condition_same : (ms gs : Members) → IsConditionSeen ms gs false → condition_of (object gs) ≡ condition_of (object ms)
condition_same ms gs seen =
    let count = len_of_keys gs ∙ ap length (sym (seen.same refl)) ∙ sym (len_of_keys ms) in
    let metric = text_same (get_member (codes "metric") ms) (get_member (codes "metric") gs) (seen.known (codes "metric") form.Text refl) in
    let op = text_same (get_member (codes "op") ms) (get_member (codes "op") gs) (seen.known (codes "op") form.Text refl) in
    let error = number_same (get_member (codes "error") ms) (get_member (codes "error") gs) (seen.known (codes "error") form.Number refl) in
    ap (λ n. condition_by n (text_at (codes "metric") (object gs)) (text_at (codes "op") (object gs)) (number_at (codes "error") (object gs))) count
    ∙ ap (λ x. condition_by (members_len ms) x (text_at (codes "op") (object gs)) (number_at (codes "error") (object gs))) metric
    ∙ ap (λ x. condition_by (members_len ms) (text_at (codes "metric") (object ms)) x (number_at (codes "error") (object gs))) op
    ∙ ap (λ x. condition_by (members_len ms) (text_at (codes "metric") (object ms)) (text_at (codes "op") (object ms)) x) error

pub same_condition : (d g : Data) (r : Option Data) → condition_of g ≡ condition_of d → IsSameCondition g r → IsSameCondition d r
same_condition d g None same is = sym same ∙ is
same_condition d g (Some v) same is = (ap is_some (sym same) ∙ is.0, is.1 ∙ same)

and_then_some : {A B : Type 0} (f : A → Option B) (o : Option A) (b : B) → option_and_then f o ≡ Some b → (a : A) × (o ≡ Some a) × (f a ≡ Some b)
and_then_some f None b is = absurd (cc)
and_then_some f (Some a) b is = (a, refl, is)

map_some : {A B : Type 0} (f : A → B) (o : Option A) (b : B) → option_map f o ≡ Some b → is_some o ≡ true
map_some f None b is = absurd (cc)
map_some f (Some a) b is = refl

if_so : {A : Type 0} (b : Bool) (o : Option A) (a : A) → cond b o None ≡ Some a → (b ≡ true) × (o ≡ Some a)
if_so true o a is = (refl, is)
if_so false o a is = absurd (cc)

some_of : {A : Type 0} (o : Option A) (a : A) → o ≡ Some a → is_some o ≡ true
some_of o a is = ap is_some is

parts : (n : ℕ) (metric op : Option (List ℕ)) (error : Option ℕ) (c : Condition) → condition_by n metric op error ≡ Some c → ((n == 3) ≡ true) × (is_some metric ≡ true) × (is_some op ≡ true) × (is_some error ≡ true)
parts n metric op error c is =
    let (three, rest) = if_so (n == 3) _ c is in
    let (m, is_m, more) = and_then_some (λ m. option_and_then (λ c. option_map (condition_made m c) error) (option_and_then compare_named op)) (option_and_then metric_named metric) c rest in
    let (word, is_word, same) = and_then_some metric_named metric m is_m in
    let (o, is_o, last) = and_then_some (λ c. option_map (condition_made m c) error) (option_and_then compare_named op) c more in
    let (sign, is_sign, named) = and_then_some compare_named op o is_o in
    (three, some_of metric word is_word, some_of op sign is_sign, map_some (condition_made m o) error c last)

by_none : {A : Type 0} (o : Option A) → ((a : A) → o ≡ Some a → ⊥) → o ≡ None
by_none None never = refl
by_none (Some a) never = absurd (never a refl)

seen_there : {X : Type 0} (see : Data → Option X) (o : Option Data) → is_some (option_and_then see o) ≡ true → is_some o ≡ true
seen_there see None is = is
seen_there see (Some d) is = refl

-- with a fourth member it is none
pub no_condition : (ms gs : Members) → IsConditionSeen ms gs true → condition_of (object ms) ≡ None
no_condition ms gs seen = by_none (condition_of (object ms)) (λ c is.
    let (three, metric, op, error) = parts (members_len ms) (text_at (codes "metric") (object ms)) (text_at (codes "op") (object ms)) (number_at (codes "error") (object ms)) c is in
    let (u, none, other) = seen.other refl in
    let four = at_least (codes "metric") (codes "op") (codes "error") u
    (λ same. let e : 6 ≡ 2 = ap length same in omega (arith, e)) (λ same. let e : 6 ≡ 5 = ap length same in omega (arith, e)) (λ same. apart_forms (codes "metric") u form.Text refl none (sym same))
    (λ same. let e : 2 ≡ 5 = ap length same in omega (arith, e)) (λ same. apart_forms (codes "op") u form.Text refl none (sym same)) (λ same. apart_forms (codes "error") u form.Number refl none (sym same)) ms in
    let m = ap bit (seen_there as_str (get_member (codes "metric") ms) metric) in
    let o = ap bit (seen_there as_str (get_member (codes "op") ms) op) in
    let e = ap bit (seen_there number_of (get_member (codes "error") ms) error) in
    let u_there = ap bit other in
    let count = eqb-true (members_len ms) 3 three in
    omega (arith, four, m, o, e, u_there, count))

-- ---- a list of conditions

abbrev is_condition : Data → Bool
is_condition d = is_some (condition_of d)

-- those that came, those that were kept, and whether all are conditions, of which there are at most 32
pub record IsListSeen (ds found : List Data) (are : Bool) : Type 0 where
  pub long : are ≡ true → length found ≡ length ds
  pub few : are ≡ true → length ds ≤ 32
  pub came : are ≡ true → list_all is_condition ds ≡ true
  pub kept : are ≡ true → list_all is_condition found ≡ true
  pub same : are ≡ true → filter_map condition_of found ≡ filter_map condition_of ds
  pub none : are ≡ false → (list_all is_condition ds ≡ false) ⊎ (32 < length ds)

pub list_none : IsListSeen [] [] true
list_none = record { long = λ are. refl; few = λ are. omega arith; came = λ are. refl; kept = λ are. refl; same = λ are. refl; none = λ bad. absurd (true≢false bad) }

all_push : (ds : List Data) (d : Data) → list_all is_condition (ds ++ d ∷ []) ≡ (list_all is_condition ds && is_condition d)
all_push [] d = by (is_condition d)
  where
    by : (b : Bool) → (b && true) ≡ b
    by true = refl
    by false = refl
all_push (e ∷ ds) d = by (is_condition e) _ _ _ (all_push ds d)
  where
    by : (b x y z : Bool) → x ≡ (y && z) → (b && x) ≡ ((b && y) && z)
    by true x y z is = is
    by false x y z is = refl

both_so : (a b : Bool) → a ≡ true → b ≡ true → (a && b) ≡ true
both_so a b is so = ap₂ (λ x y. x && y) is so

not_all : (a b : Bool) → a ≡ false → (a && b) ≡ false
not_all a b is = ap (λ x. x && b) is

not_last : (a b : Bool) → b ≡ false → (a && b) ≡ false
not_last true b is = is
not_last false b is = refl

longer : (ds : List Data) (d : Data) → length (ds ++ d ∷ []) ≡ length ds + 1
longer ds d = length-append ds (d ∷ [])

-- one item more, by whether all were conditions and whether it was added
pub list_more : (ds found new : List Data) (d : Data) (item : Option Data) (are added : Bool) → IsListSeen ds found are → IsSameCondition d item → AddsCondition item found new added → IsListSeen (ds ++ d ∷ []) new (are && added)
list_more ds found new d item true true seen is (condition, added, room, grown) =
    let (so, alike) = subst (IsSameCondition d) added is in
    record {
      long = λ are. ap length grown ∙ longer found condition ∙ ap (λ n. n + 1) (seen.long refl) ∙ sym (longer ds d);
      few = λ are. let count = seen.long refl in omega (arith, room, count, longer ds d);
      came = λ are. all_push ds d ∙ both_so _ _ (seen.came refl) so;
      kept = λ are. ap (list_all is_condition) grown ∙ all_push found condition ∙ both_so _ _ (seen.kept refl) (ap is_some alike ∙ so);
      same = λ are. ap (filter_map condition_of) grown ∙ filter_map-append condition_of found (condition ∷ []) ∙ ap₂ (λ xs o. xs ++ cons_option o []) (seen.same refl) alike ∙ sym (filter_map-append condition_of ds (d ∷ []));
      none = λ bad. absurd (true≢false bad);
    }
list_more ds found new d item true false seen is (same, why) = record {
  long = λ bad. absurd (true≢false (sym bad));
  few = λ bad. absurd (true≢false (sym bad));
  came = λ bad. absurd (true≢false (sym bad));
  kept = λ bad. absurd (true≢false (sym bad));
  same = λ bad. absurd (true≢false (sym bad));
  none = λ are. ⊎_elim
      (λ none. inl (all_push ds d ∙ not_last (list_all is_condition ds) (is_condition d) (ap is_some (subst (IsSameCondition d) none is))))
      (λ full. let count = seen.long refl in inr (omega (arith, full, count, longer ds d)))
      why;
}
list_more ds found new d item false added seen is adds = record {
  long = λ bad. absurd (true≢false (sym bad));
  few = λ bad. absurd (true≢false (sym bad));
  came = λ bad. absurd (true≢false (sym bad));
  kept = λ bad. absurd (true≢false (sym bad));
  same = λ bad. absurd (true≢false (sym bad));
  none = λ are. ⊎_elim
      (λ none. inl (all_push ds d ∙ not_all (list_all is_condition ds) (is_condition d) none))
      (λ many. inr (omega (arith, many, longer ds d)))
      (seen.none refl);
}

-- what is noted of an item

pub item_added : (came : Option Data) (condition : Data) (found new : List Data) (was : Bool) → came ≡ Some condition → length found < 32 → new ≡ found ++ condition ∷ [] → NotesItem came found new was was
item_added came condition found new was is few grown = (true, (condition, is, few, grown), sym (always_and was))
  where
    always_and : (b : Bool) → (b && true) ≡ b
    always_and true = refl
    always_and false = refl

-- ---- the list at its end

listed_if : (ds : Items) (b : Bool) → are_conditions (items_in ds) ≡ b → conditions_listed (array ds) ≡ cond b (Some (filter_map condition_of (items_in ds))) None
listed_if ds b is = ap (λ x. cond x (Some (filter_map condition_of (items_in ds))) None) is

few_all : (ds : List Data) → length ds ≤ 32 → list_all is_condition ds ≡ true → are_conditions ds ≡ true
few_all ds few all = both_so (nat_le (length ds) 32) (list_all is_condition ds) (le-leb (length ds) 32 few) all

pub list_same : (ds found : Items) → IsListSeen (items_in ds) (items_in found) true → IsAlike form.Conditions (array ds) (array found)
list_same ds found seen =
    listed_if found true (few_all (items_in found) (let count = seen.long refl in let few = seen.few refl in omega (arith, count, few)) (seen.kept refl))
    ∙ ap Some (seen.same refl)
    ∙ sym (listed_if ds true (few_all (items_in ds) (seen.few refl) (seen.came refl)))

not_listed : (ds : List Data) → (list_all is_condition ds ≡ false) ⊎ (32 < length ds) → are_conditions ds ≡ false
not_listed ds why =
    ⊎_elim
    (λ none. not_last (nat_le (length ds) 32) (list_all is_condition ds) none)
    (λ many. not_all (nat_le (length ds) 32) (list_all is_condition ds) (false_from_ne_true (nat_le (length ds) 32) (λ low. let few = leb-true (length ds) 32 low in omega (arith, few, many))))
    why

pub list_none_same : (ds : Items) (found : List Data) → IsListSeen (items_in ds) found false → IsAlike form.Conditions (array ds) null
list_none_same ds found seen = sym (listed_if ds false (not_listed (items_in ds) (seen.none refl)))
