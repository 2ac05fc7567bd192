-- Tokens that are added one after the other.
use Rattle.std.proofs.Common.{◌≡◌, ℕ, ◌+◌, ◌<◌, List, [], ◌∷◌, ◌++◌, length, take, map, get_or, Some, refl, sym, ap, ◌∙◌, subst, subst₂, arith, append_assoc, append-nil}
use Rattle.std.specs.Prelude.{Result, Ok, OnOk, flat_map, option_map}
use Rattle.std.specs.List.{AllByRecursion}
use Rattle.std.proofs.lemmas.Grind.{common_steps}
use Rattle.std.proofs.lemmas.Result.{on_ok_weaker}
use Rattle.json.specs.Token.{Token, key, begin_array, end_array, begin_object, end_object}
use Rattle.json.specs.Tree.{items_tokens}
use Rattle.json.specs.Written.{Written, Writes}
use Rattle.serde_json.specs.Data.{Data, array, Items}
use Rattle.serde_json.specs.Read.{of_items}
use Rattle.serde_json.specs.View.{items_of}
use Rattle.serde_json.specs.Written.{items_outline}
use Rattle.cq_reply.specs.Added.{Adds, tokens_of, IsReadBack, AddsValue, AddsMember, AddsMembers, AddsEach}

-- ---- one after the other

pub wrote : {E : Type 0} {u : Unit {0}} {a b : Written} {t : Token} → Writes {E = E} (Ok u) a b t → Adds (t ∷ []) a b
wrote w = record { before = w.room.0; tokens = w.ok }

pub then : {ts us : List Token} {a b c : Written} → Adds ts a b → Adds us b c → Adds (ts ++ us) a c
then {ts = ts} {us = us} {a = a} {b = b} {c = c} first next = record {
  before = next.before ∙ first.before;
  tokens = next.tokens ∙ ap (λ xs. xs ++ us) first.tokens ∙ append_assoc a.tokens ts us;
}

-- the last call adds one token
pub at_last : {E : Type 0} {ts : List Token} {a b c : Written} {t : Token} (Q : Type 0) (r : Result (Unit {0}) E) → Adds ts a b → Writes r b c t → (Adds (ts ++ t ∷ []) a c → Q) → OnOk r Q
at_last Q r first w so = on_ok_weaker r (λ e. so (then first (record { before = w.room.0; tokens = e }))) w.ok

pub at_once : {E : Type 0} {a b : Written} {t : Token} (Q : Type 0) (r : Result (Unit {0}) E) → Writes r a b t → (Adds (t ∷ []) a b → Q) → OnOk r Q
at_once Q r w so = on_ok_weaker r (λ e. so (record { before = w.room.0; tokens = e })) w.ok

-- tokens that are the same in another grouping
pub regrouped : {ts us : List Token} {a b : Written} → ts ≡ us → Adds ts a b → Adds us a b
regrouped {ts = ts} {us = us} {a = a} {b = b} same h = subst (λ (xs : List Token). Adds xs a b) same h

-- ---- members

pub named : {E F : Type 0} {u : Unit {0}} {name : List ℕ} {a b : Written} (d : Data) (c : Written) (r : Result (Unit {0}) E) → Writes {E = F} (Ok u) a b (key name) → OnOk r (AddsValue d b c) → OnOk r (AddsMember name d a c)
named d c r k h = on_ok_weaker r (λ v. record { adds = then (wrote k) v.adds; reads = v.reads }) h

pub same_member : {name : List ℕ} {d e : Data} {a b : Written} → d ≡ e → AddsMember name d a b → AddsMember name e a b
same_member {name = name} {d = d} {e = e} {a = a} {b = b} same h = subst (λ (x : Data). AddsMember name x a b) same h

pub as_member : {name other : List ℕ} {d e : Data} {a b : Written} → name ≡ other → d ≡ e → AddsMember name d a b → AddsMember other e a b
as_member {name = name} {other = other} {d = d} {e = e} {a = a} {b = b} renamed same h = subst₂ (λ (n : List ℕ) (x : Data). AddsMember n x a b) renamed same h

pub same_value : {d e : Data} {a b : Written} → d ≡ e → AddsValue d a b → AddsValue e a b
same_value {d = d} {e = e} {a = a} {b = b} same h = subst (λ (x : Data). AddsValue x a b) same h

-- ---- a list

each_tokens : {X : Type 0} (data_of : X → Data) (xs : List X) → items_tokens (items_outline (items_of (map data_of xs))) ≡ flat_map (λ x. tokens_of (data_of x)) xs ++ end_array ∷ []
each_tokens data_of [] = refl
each_tokens data_of (x ∷ xs) = ap (λ ts. tokens_of (data_of x) ++ ts) (each_tokens data_of xs) ∙ sym (append_assoc (tokens_of (data_of x)) (flat_map (λ y. tokens_of (data_of y)) xs) (end_array ∷ []))

flat_more : {X : Type 0} (f : X → List Token) (xs : List X) (x : X) → flat_map f (xs ++ x ∷ []) ≡ flat_map f xs ++ f x
flat_more f [] x = append-nil (f x)
flat_more f (y ∷ xs) x = ap (λ ts. f y ++ ts) (flat_more f xs x) ∙ sym (append_assoc (f y) (flat_map f xs) (f x))

each_read : {X : Type 0} (data_of : X → Data) (xs : List X) → AllByRecursion (λ x. IsReadBack (data_of x)) xs → of_items (items_outline (items_of (map data_of xs))) ≡ Some (items_of (map data_of xs))
each_read data_of [] all = refl
each_read data_of (x ∷ xs) all = rw (all.0, each_read data_of xs all.1) refl

read_more : {X : Type 0} (data_of : X → Data) (xs : List X) (x : X) → AllByRecursion (λ y. IsReadBack (data_of y)) xs → IsReadBack (data_of x) → AllByRecursion (λ y. IsReadBack (data_of y)) (xs ++ x ∷ [])
read_more data_of [] x all here = (here, tt)
read_more data_of (y ∷ xs) x all here = (all.0, read_more data_of xs x all.1 here)

pub each_none : {X : Type 0} (data_of : X → Data) (a : Written) → AddsEach data_of [] a a
each_none data_of a = record { adds = record { before = refl; tokens = sym (append-nil a.tokens) }; reads = tt }

one_more : {X : Type 0} (xs : List X) (i : ℕ) (x : X) → i < length xs → x ≡ get_or xs i x → take (i + 1) xs ≡ take i xs ++ x ∷ []
one_more xs i x within is = grind (arith, common_steps)

pub each_more : {X : Type 0} (data_of : X → Data) (xs : List X) (i : ℕ) (x : X) {a b c : Written} → i < length xs → x ≡ get_or xs i x → AddsEach data_of (take i xs) a b → AddsValue (data_of x) b c → AddsEach data_of (take (i + 1) xs) a c
each_more data_of xs i x {a = a} {b = b} {c = c} within is done here =
    subst (λ ys. AddsEach data_of ys a c) (sym (one_more xs i x within is)) (record {
      adds = regrouped (sym (flat_more (λ y. tokens_of (data_of y)) (take i xs) x)) (then done.adds here.adds);
      reads = read_more data_of (take i xs) x done.reads here.reads;
    })

pub members_none : {X : Type 0} (name_of : X → List ℕ) (data_of : X → Data) (a : Written) → AddsMembers name_of data_of [] a a
members_none name_of data_of a = record { adds = record { before = refl; tokens = sym (append-nil a.tokens) }; reads = tt }

pub members_more : {X : Type 0} (name_of : X → List ℕ) (data_of : X → Data) (xs : List X) (i : ℕ) (x : X) {a b c : Written} → i < length xs → x ≡ get_or xs i x → AddsMembers name_of data_of (take i xs) a b → AddsMember (name_of x) (data_of x) b c → AddsMembers name_of data_of (take (i + 1) xs) a c
members_more name_of data_of xs i x {a = a} {b = b} {c = c} within is done here =
    subst (λ ys. AddsMembers name_of data_of ys a c) (sym (one_more xs i x within is)) (record {
      adds = regrouped (sym (flat_more (λ y. key (name_of y) ∷ tokens_of (data_of y)) (take i xs) x)) (then done.adds here.adds);
      reads = read_more data_of (take i xs) x done.reads here.reads;
    })

pub all_members : {X : Type 0} (name_of : X → List ℕ) (data_of : X → Data) (xs ys : List X) {a b : Written} → ys ≡ xs → AddsMembers name_of data_of ys a b → AddsMembers name_of data_of xs a b
all_members name_of data_of xs ys {a = a} {b = b} whole each = subst (λ zs. AddsMembers name_of data_of zs a b) whole each

-- the list with its brackets
pub listed : {E F : Type 0} {u : Unit {0}} {X : Type 0} (data_of : X → Data) (xs ys : List X) {a b c d : Written} (r : Result (Unit {0}) E) → ys ≡ xs → Writes {E = F} (Ok u) a b begin_array → AddsEach data_of ys b c → Writes r c d end_array
    → OnOk r (AddsValue (array (items_of (map data_of xs))) a d)
listed data_of xs ys {a = a} {b = b} {c = c} {d = d} r whole opened each w =
    at_last _ r (then (wrote opened) each.adds) w (λ added. subst (λ (zs : List _). AddsValue (array (items_of (map data_of zs))) a d) whole (record {
      adds = regrouped (ap (λ (ts : List Token). begin_array ∷ ts) (sym (each_tokens data_of ys))) added;
      reads = ap (option_map array) (each_read data_of ys each.reads);
    }))

-- an object that begins with a list
pub after_list : {E F G : Type 0} {u v : Unit {0}} {name : List ℕ} {ds : Items} {ts : List Token} {a b c d e f : Written} (Q : Type 0) (r : Result (Unit {0}) E) → Writes {E = F} (Ok u) a b begin_object → Writes {E = G} (Ok v) b c (key name) → AddsValue (array ds) c d → Adds ts d e
    → Writes r e f end_object → (Adds (begin_object ∷ key name ∷ begin_array ∷ (items_tokens (items_outline ds) ++ (ts ++ end_object ∷ []))) a f → Q) → OnOk r Q
after_list {name = name} {ds = ds} {ts = ts} Q r opened first list rest w so =
    at_last Q r (then (then (then (wrote opened) (wrote first)) list.adds) rest) w (λ added. so (regrouped (ap (λ (us : List Token). begin_object ∷ key name ∷ begin_array ∷ us) (append_assoc (items_tokens (items_outline ds)) ts (end_object ∷ []))) added))
