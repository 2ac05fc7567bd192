-- The object that a text or a line spells, and its gist.
use Rattle.std.proofs.Common.{◌≡◌, ℕ, suc, ◌-◌, ◌<◌, List, [], ◌∷◌, length, map, Bool, true, false, cond, ◌&&◌, Option, Some, None, Result, Ok, Err, IfErr, IsErrAnd, ok_or, is_some, refl, sym, ap, ap₂, ◌∙◌, subst, arith}
use Rattle.std.specs.List.{list_all}
use Rattle.std.specs.Str.{IsUtf8, is_utf8}
use Rattle.std.proofs.lemmas.Bool.{true≢false}
use Rattle.std.proofs.lemmas.Str.{IsUtf8-from_is_utf8}
use Rattle.json.specs.Token.{Token}
use Rattle.json.specs.Lex.{tokens}
use Rattle.json.specs.Json as json
use Rattle.json.specs.Json.{Json, parse_map, items, members, skip_value, value}
use Rattle.json.specs.Reads.{token_of, Yields}
use Rattle.json.specs.declared.token.Token as token
use Rattle.json.proofs.Grammar.{left_some, value_is, value-begin_array, value-begin_object}
use Rattle.serde_json.specs.Data.{Data, null, array, object, Members, no_members, put}
use Rattle.serde_json.specs.Read.{read}
use Rattle.serde_json.specs.View.{items_of}
use Rattle.cq_base.specs.declared.refusal.Refusal.TheVariants as refusal
use Rattle.cq_request.specs.declared.form.Form.{Form}
use Rattle.cq_request.specs.declared.form.Form.TheVariants as form
use Rattle.cq_request.specs.declared.request.ReadError.{ReadError}
use Rattle.cq_request.specs.declared.request.ReadError.TheVariants as error
use Rattle.cq_request.specs.Gist.{form_of, condition_form_of, IsAlike, IsGistOfLine, SpellsNoObject}
use Rattle.cq_request.specs.Members.{items_in, lesser}
use Rattle.cq_request.specs.Valued.{fits, fit_items, fit_members, valued, valued_items, valued_members, token_fits, with_other, AreSeen, IsConditionNoted, IsConditionRead, IsConditionSeen, IsFitUnlessPassed, IsItemRead, IsJsonFor, IsListRead, IsMemberNoted, IsMemberRead, IsNoObjectText, IsObjectRead, IsTextRead, IsUnfit}
use Rattle.cq_request.proofs.Fitting.{fits_by_tokens, object_read, no_object_read}
use Rattle.cq_request.proofs.Seen.{seen_gist, seen_known, seen_other}
use Rattle.cq_request.proofs.Forms.{no_condition_read}
use Rattle.cq_request.proofs.Conditional.{condition_known, condition_other, IsListSeen, list_same, list_none_same}
use Rattle.cq_request.proofs.Listed.{items_back}
use Rattle.cq_request.proofs.Walking.{items_before, items_of_taken}
use Rattle.cq_request.proofs.Spelling.{spelled_ok}

-- ---- while nothing was passed

pub fit_none : (was : Bool) → IsFitUnlessPassed was was true
fit_none was = λ none. (none, refl)

pub fit_passed : (was fit : Bool) → IsFitUnlessPassed was true fit
fit_passed was fit = λ bad. absurd (true≢false bad)

pub fit_more : (was then now a b : Bool) → IsFitUnlessPassed was then a → IsFitUnlessPassed then now b → IsFitUnlessPassed was now (a && b)
fit_more was then now a b first second = λ none.
    let (so, fit) = second none in
    let (was_so, fit_first) = first so in
    (was_so, ap₂ (λ x y. x && y) fit_first fit)

-- ---- a text

begun : (ts : List Token) → value 127 (Token.begin_object ∷ ts) ≡ parse_map json.object (members (value 126) (length ts) ts)
begun ts = value-begin_object 127 ts (omega arith)

pub text_is : (ts rest : List Token) (ms : json.Members) → members (value 126) (length ts) ts ≡ Some (ms, rest) → value 127 (Token.begin_object ∷ ts) ≡ Some (json.object ms, rest)
text_is ts rest ms is = begun ts ∙ ap (parse_map json.object) is

abbrev or_else : Json → Option (Json × List Token) → Json
or_else j None = j
or_else j (Some p) = p.0

abbrev members_or : json.Members → Json → json.Members
members_or ms json.null = ms
members_or ms (json.boolean b) = ms
members_or ms (json.number s) = ms
members_or ms (json.string s) = ms
members_or ms (json.array js) = ms
members_or ms (json.object os) = os

same_object : (a b : json.Members) (r s : List Token) → ◌≡◌ {A = Option (Json × List Token)} (Some (json.object a, r)) (Some (json.object b, s)) → a ≡ b
same_object a b r s is = ap (λ o. members_or a (or_else json.null o)) is

unfit_object : (o : Option (json.Members × List Token)) (ms : json.Members) → IsUnfit fit_members o → parse_map json.object o ≡ Some (json.object ms, []) → fit_members ms ≡ false
unfit_object None ms unfit is = absurd (cc)
unfit_object (Some q) ms unfit is = ap fit_members (sym (same_object q.0 ms q.1 [] is)) ∙ unfit

pub unfit_text : (ts : List Token) → IsUnfit fit_members (members (value 126) (length ts) ts) → IsNoObjectText (Token.begin_object ∷ ts)
unfit_text ts unfit = λ ms is. unfit_object (members (value 126) (length ts) ts) ms unfit (sym (begun ts) ∙ is)

abbrev is_object : Json → Bool
is_object json.null = false
is_object (json.boolean b) = false
is_object (json.number s) = false
is_object (json.string s) = false
is_object (json.array js) = false
is_object (json.object ms) = true

no_object : (o : Option (Json × List Token)) (ms : json.Members) → is_object (or_else json.null o) ≡ false → o ≡ Some (json.object ms, []) → ⊥
no_object o ms other is = true≢false (sym (ap (λ x. is_object (or_else json.null x)) is) ∙ other)

abbrev rest_of : Option (Json × List Token) → List Token
rest_of None = []
rest_of (Some p) = p.1

pub more_text : (ts rest : List Token) (t : Token) (of : json.Members) → members (value 126) (length ts) ts ≡ Some (of, t ∷ rest) → IsNoObjectText (Token.begin_object ∷ ts)
more_text ts rest t of first = λ ms is.
    let gone : suc (length rest) ≡ 0 = ap (λ o. length (rest_of o)) (sym (text_is ts (t ∷ rest) of first) ∙ is) in
    absurd (omega (arith, gone))

no_array : (o : Option (json.Items × List Token)) (ms : json.Members) → parse_map json.array o ≡ Some (json.object ms, []) → ⊥
no_array None ms is = no_object None ms refl is
no_array (Some q) ms is = no_object (Some (json.array q.0, q.1)) ms refl is

pub no_text : IsNoObjectText []
no_text = λ ms is. absurd (no_object None ms refl (sym (value_is 127 []) ∙ is))

pub other_text : (t : Token) (ts : List Token) → (t ≡ Token.begin_object → ⊥) → IsNoObjectText (t ∷ ts)
other_text Token.begin_object ts other = absurd (other refl)
other_text Token.end_object ts other = λ ms is. absurd (no_object None ms refl (sym (value_is 127 (Token.end_object ∷ ts)) ∙ is))
other_text Token.begin_array ts other = λ ms is. absurd (no_array _ ms (sym (value_is 127 (Token.begin_array ∷ ts)) ∙ is))
other_text Token.end_array ts other = λ ms is. absurd (no_object None ms refl (sym (value_is 127 (Token.end_array ∷ ts)) ∙ is))
other_text (Token.key s) ts other = λ ms is. absurd (no_object None ms refl (sym (value_is 127 (Token.key s ∷ ts)) ∙ is))
other_text (Token.string s) ts other = λ ms is. absurd (no_object (Some (json.string s, ts)) ms refl (sym (value_is 127 (Token.string s ∷ ts)) ∙ is))
other_text (Token.number s) ts other = λ ms is. absurd (no_object (Some (json.number s, ts)) ms refl (sym (value_is 127 (Token.number s ∷ ts)) ∙ is))
other_text (Token.boolean b) ts other = λ ms is. absurd (no_object (Some (json.boolean b, ts)) ms refl (sym (value_is 127 (Token.boolean b ∷ ts)) ∙ is))
other_text Token.null ts other = λ ms is. absurd (no_object (Some (json.null, ts)) ms refl (sym (value_is 127 (Token.null ∷ ts)) ∙ is))
other_text Token.bad ts other = λ ms is. absurd (no_object None ms refl (sym (value_is 127 (Token.bad ∷ ts)) ∙ is))

-- the object is all of the text
pub text_is_read : (ts old rest : List Token) (gs : Members) (other : Option (List ℕ)) (now : Bool) → ts ≡ Token.begin_object ∷ old → rest ≡ [] → IsObjectRead 126 old rest gs other now → IsTextRead ts gs other now
text_is_read ts old rest gs other now begins none o = record {
  of = o.of;
  read = subst (λ (xs : List Token). value 127 ts ≡ Some (json.object o.of, xs)) none (ap (value 127) begins ∙ text_is old rest o.of o.read);
  seen = o.seen;
  fit = o.fit;
}

pub text_has_more : (ts old rest more : List Token) (t : Token) (gs : Members) (other : Option (List ℕ)) (now : Bool) → ts ≡ Token.begin_object ∷ old → IsObjectRead 126 old rest gs other now → rest ≡ t ∷ more → IsNoObjectText ts
text_has_more ts old rest more t gs other now begins o is =
    subst IsNoObjectText (sym begins) (more_text old more t o.of (subst (λ (xs : List Token). members (value 126) (length old) old ≡ Some (o.of, xs)) is o.read))

-- ---- a line

pub line_read : (line : List ℕ) (gs : Members) (other : Option (List ℕ)) (now : Bool) → IsUtf8 line → (read : IsTextRead (tokens line) gs other now) → fit_members read.of ≡ true → IsGistOfLine line (object (with_other gs other))
line_read line gs other now utf8 read fit =
    (valued_members read.of no_members, with_other gs other, spelled_ok line (object (valued_members read.of no_members)) utf8 (object_read line read.of read.read fit), refl, seen_gist (valued_members read.of no_members) gs other read.seen)

if_so : {A : Type 0} (b : Bool) (o : Option A) (a : A) → cond b o None ≡ Some a → (b ≡ true) × (o ≡ Some a)
if_so true o a is = (refl, is)
if_so false o a is = absurd (cc)

pub line_none : (line : List ℕ) → IsNoObjectText (tokens line) → SpellsNoObject line
line_none line none = λ d is. no_object_read line d none (if_so (is_utf8 line) (read line) d is).1

pub line_not_utf8 : (line : List ℕ) → (IsUtf8 line → ⊥) → SpellsNoObject line
line_not_utf8 line never = λ d is. absurd (never (IsUtf8-from_is_utf8 line (if_so (is_utf8 line) (read line) d is).0))

-- a number that is too large, in a text whose value was read
pub number_too_large : (ts : List Token) (of : json.Members) → value 127 ts ≡ Some (json.object of, []) → list_all token_fits ts ≡ false → IsNoObjectText ts
number_too_large ts of read large = λ ms is.
    ap fit_members (sym (same_object of ms [] [] (sym read ∙ is))) ∙ sym (fits_by_tokens 127 ts (json.object of) read) ∙ large

pub all_fit : (ts : List Token) (of : json.Members) → value 127 ts ≡ Some (json.object of, []) → list_all token_fits ts ≡ true → fit_members of ≡ true
all_fit ts of read fit = sym (fits_by_tokens 127 ts (json.object of) read) ∙ fit

pub fit_text : (ts : List Token) (gs : Members) (other : Option (List ℕ)) (now : Bool) → (read : IsTextRead ts gs other now) → (now ≡ true → list_all token_fits ts ≡ true) → fit_members read.of ≡ true
fit_text ts gs other true read fit = all_fit ts read.of read.read (fit refl)
fit_text ts gs other false read fit = read.fit refl

-- ---- a member, by its value

pub list_is_member : (depth : ℕ) (f : Form) (old ts new : List Token) (g : Data) (was now : Bool) → f ≡ form.Conditions → old ≡ Token.begin_array ∷ ts → 0 < depth → IsListRead (depth - 1) ts new g was now → IsMemberRead depth f old new g was now
list_is_member depth f old ts new g was now is begins some list = record {
  of = json.array list.of;
  read = ap (value depth) begins ∙ value-begin_array depth ts some ∙ ap (parse_map json.array) list.read;
  alike = subst (λ (x : Form). IsAlike x (valued (json.array list.of)) g) (sym is) list.alike;
  fit = list.fit;
}

unfit_list : (o : Option (json.Items × List Token)) → IsUnfit fit_items o → IsUnfit fits (parse_map json.array o)
unfit_list None unfit = tt
unfit_list (Some q) unfit = unfit

pub list_is_unfit : (depth : ℕ) (old ts : List Token) → old ≡ Token.begin_array ∷ ts → 0 < depth → IsUnfit fit_items (items (value (depth - 1)) (length ts) ts) → IsUnfit fits (value depth old)
list_is_unfit depth old ts begins some unfit = subst (IsUnfit fits) (sym (ap (value depth) begins ∙ value-begin_array depth ts some)) (unfit_list _ unfit)

pub condition_is_item : (depth : ℕ) (old ts new : List Token) (g : Option Data) (was now : Bool) → old ≡ Token.begin_object ∷ ts → 0 < depth → IsConditionRead (depth - 1) ts new g was now → IsItemRead depth old new g was now
condition_is_item depth old ts new g was now begins some r = record {
  of = json.object r.of;
  read = ap (value depth) begins ∙ value-begin_object depth ts some ∙ ap (parse_map json.object) r.read;
  same = r.same;
  fit = r.fit;
}

unfit_members : (o : Option (json.Members × List Token)) → IsUnfit fit_members o → IsUnfit fits (parse_map json.object o)
unfit_members None unfit = tt
unfit_members (Some q) unfit = unfit

pub condition_is_unfit : (depth : ℕ) (old ts : List Token) → old ≡ Token.begin_object ∷ ts → 0 < depth → IsUnfit fit_members (members (value (depth - 1)) (length ts) ts) → IsUnfit fits (value depth old)
condition_is_unfit depth old ts begins some unfit = subst (IsUnfit fits) (sym (ap (value depth) begins ∙ value-begin_object depth ts some)) (unfit_members _ unfit)

pub other_is_item : (depth : ℕ) (old ts new : List Token) (t : Token) (was : Bool) → old ≡ t ∷ ts → (t ≡ Token.begin_object → ⊥) → skip_value depth (t ∷ ts) ≡ Some new → IsItemRead depth old new None was true
other_is_item depth old ts new t was begins other skips =
    let (j, is) = left_some (value depth (t ∷ ts)) new skips in
    record { of = j; read = ap (value depth) begins ∙ is; same = no_condition_read depth t ts new j other is; fit = fit_passed was (fits j) }

pub member_after : (depth : ℕ) (f : Form) (old ts new : List Token) (g : Data) (was now : Bool) → old ≡ ts → IsMemberRead depth f ts new g was now → IsMemberRead depth f old new g was now
member_after depth f old ts new g was now same m = record { of = m.of; read = ap (value depth) same ∙ m.read; alike = m.alike; fit = m.fit }

-- ---- a member, by its key

pub known_noted : (depth : ℕ) (key : List ℕ) (old new : List Token) (was_members gs : Members) (other : Option (List ℕ)) (was now : Bool) (f : Form) (g : Data) → form_of key ≡ Some f → gs ≡ put key g was_members → IsMemberRead depth f old new g was now → IsMemberNoted depth key old new was_members gs other other was now
known_noted depth key old new was_members gs other was now f g known grown m = record {
  of = m.of;
  read = m.read;
  seen = λ ms seen. subst (λ (xs : Members). AreSeen (put key (valued m.of) ms) xs other) (sym grown) (seen_known ms was_members other key f (valued m.of) g seen known m.alike);
  fit = m.fit;
}

pub other_noted : (depth : ℕ) (key : List ℕ) (old new : List Token) (was_members gs : Members) (was_other other : Option (List ℕ)) (was now : Bool) → form_of key ≡ None → gs ≡ was_members → other ≡ Some (lesser key was_other) → now ≡ true → skip_value depth old ≡ Some new → IsMemberNoted depth key old new was_members gs was_other other was now
other_noted depth key old new was_members gs was_other other was now none same least passed skips =
    let (j, is) = left_some (value depth old) new skips in
    record {
      of = j;
      read = is;
      seen = λ ms seen. subst (λ (xs : Members). AreSeen (put key (valued j) ms) xs other) (sym same) (subst (λ (o : Option (List ℕ)). AreSeen (put key (valued j) ms) was_members o) (sym least) (seen_other ms was_members was_other key (valued j) seen none));
      fit = λ unpassed. absurd (true≢false (sym passed ∙ unpassed));
    }

pub condition_noted : (depth : ℕ) (key : List ℕ) (old new : List Token) (was_members gs : Members) (other was now : Bool) (f : Form) (g : Data) → condition_form_of key ≡ Some f → gs ≡ put key g was_members → IsMemberRead depth f old new g was now → IsConditionNoted depth key old new was_members gs other other was now
condition_noted depth key old new was_members gs other was now f g known grown m = record {
  of = m.of;
  read = m.read;
  seen = λ ms seen. subst (λ (xs : Members). IsConditionSeen (put key (valued m.of) ms) xs other) (sym grown) (condition_known ms was_members other key f (valued m.of) g seen known m.alike);
  fit = m.fit;
}

pub condition_other_noted : (depth : ℕ) (key : List ℕ) (old new : List Token) (gs : Members) (other was : Bool) → condition_form_of key ≡ None → skip_value depth old ≡ Some new → IsConditionNoted depth key old new gs gs other true was true
condition_other_noted depth key old new gs other was none skips =
    let (j, is) = left_some (value depth old) new skips in
    record {
      of = j;
      read = is;
      seen = λ ms seen. condition_other ms gs other key (valued j) seen none;
      fit = fit_passed was (fits j);
    }

-- ---- a token

pub first_taken : (o : Option token.Token) (old new : List Token) (e : ReadError) (t : token.Token) → Yields old o new → Ok t ≡ ok_or o e → old ≡ token_of t ∷ new
first_taken None old new e t yields is = absurd (cc)
first_taken (Some u) old new e t yields is = let same : u ≡ t = cc in yields ∙ ap (λ x. token_of x ∷ new) same

pub none_left : (o : Option token.Token) (old new : List Token) → Yields old o new → is_some o ≡ false → old ≡ []
none_left None old new yields none = yields.0
none_left (Some u) old new yields none = absurd (true≢false none)

pub some_left : (o : Option token.Token) (old new : List Token) → Yields old o new → is_some o ≡ true → (t : Token) × (old ≡ t ∷ new)
some_left None old new yields some = absurd (true≢false (sym some))
some_left (Some u) old new yields some = (token_of u, yields)

-- ---- refusals

json_for : (P Q : Type 0) → (P → Q) → (e : ReadError) → IsJsonFor P e → IsJsonFor Q e
json_for P Q so (error.Refused why) is = (is.0, so is.1)
json_for P Q so error.Memory is = tt

-- the error of a call is passed on
pub refused_by : {T : Type 0} (P Q : Type 0) → (P → Q) → (r : Result T ReadError) (e : ReadError) → IsErrAnd r (λ f. f ≡ e) → IsJsonFor P e → IfErr r (IsJsonFor Q)
refused_by P Q so (Ok v) e same is = tt
refused_by P Q so (Err f) e same is = json_for P Q so f (subst (IsJsonFor P) (sym same) is)

-- a call that finds no JSON
pub refused_here : {T : Type 0} (Q : Type 0) (r : Result T ReadError) → IsErrAnd r (λ f. f ≡ error.Refused refusal.Json) → Q → IfErr r (IsJsonFor Q)
refused_here Q (Ok v) same is = tt
refused_here Q (Err f) same is = subst (IsJsonFor Q) (sym same) (refl, is)

pub refused_for : {T : Type 0} (P Q : Type 0) → (P → Q) → (r : Result T ReadError) → IfErr r (IsJsonFor P) → IfErr r (IsJsonFor Q)
refused_for P Q so (Ok v) is = tt
refused_for P Q so (Err e) is = json_for P Q so e is

-- no token is left
pub refused_at_end : {T : Type 0} (Q : Type 0) (o : Option token.Token) (old new : List Token) (e : ReadError) (r : Result T ReadError)
    → Yields old o new → Err e ≡ ok_or o (error.Refused refusal.Json) → IsErrAnd r (λ f. f ≡ e) → (old ≡ [] → Q) → IfErr r (IsJsonFor Q)
refused_at_end Q None old new e r yields is same so =
    let json : e ≡ error.Refused refusal.Json = cc in
    refused_here Q r (subst (λ (x : ReadError). IsErrAnd r (λ f. f ≡ x)) json same) (so yields.0)
refused_at_end Q (Some t) old new e r yields is same so = absurd (cc)

-- ---- a list at its end

pub list_kept : (done : List Json) (found : List Data) → IsListSeen (map valued done) found true → IsAlike form.Conditions (array (valued_items (items_before done json.no_items))) (array (items_of found))
list_kept done found seen =
    let listed = subst (λ (ds : List Data). IsListSeen ds found true) (sym (items_of_taken done)) seen in
    list_same (valued_items (items_before done json.no_items)) (items_of found) (subst (λ (ds : List Data). IsListSeen (items_in (valued_items (items_before done json.no_items))) ds true) (sym (items_back found)) listed)

pub list_not_kept : (done : List Json) (found : List Data) → IsListSeen (map valued done) found false → IsAlike form.Conditions (array (valued_items (items_before done json.no_items))) null
list_not_kept done found seen =
    list_none_same (valued_items (items_before done json.no_items)) found (subst (λ (ds : List Data). IsListSeen ds found false) (sym (items_of_taken done)) seen)
