-- The entries that a change brings, and those that a bucket asks for.
use Rattle.std.proofs.Common.{◌≡◌, ℕ, zero, suc, ◌+◌, ◌-◌, ◌≤◌, ◌%◌, ◌==◌, ◌||◌, nat_eq, Bool, true, false, cond, Option, Some, None, List, [], ◌∷◌, filter, refl, sym, ◌∙◌, ap, ap₂, subst, subst₂, inr, ⊎_elim, arith}
use Rattle.std.specs.Prelude.{AllPairs, Contains, slice_get}
use Rattle.std.proofs.lemmas.List.Elements.{Contains-append_left, Contains-append_right, Contains-append_cases}
use Rattle.std.proofs.lemmas.List.Kept.{AllPairs-filter}
use Rattle.std.proofs.lemmas.Bool.{and_parts, eqb-true, eq-eqb, false≢true, or_right}
use Rattle.std.specs.Cmp.Derive.{both_true}
use Rattle.std.specs.List.{list_any}
use Rattle.std.proofs.lemmas.Option.{none-some}
use Rattle.std.proofs.lemmas.Map.Views.{Contains-from_any}
use Rattle.cq_base.specs.declared.entry.Entry.{Entry}
pub use Rattle.cq_base.proofs.Lists.{Contains-from_filter as from_filter, Contains-filter as to_filter}
use Rattle.cq_base.proofs.Lists.{Contains-here, Contains-cases, Contains-nil, Contains-filter, Contains-from_filter, AllPairs-nil, AllPairs-append, AllPairs-weaker}
use Rattle.cq_clones.specs.Lists.{AreAllInOrder}
use Rattle.cq_clones.specs.Windows.{EntryBefore}
use Rattle.cq_shard.specs.Shard.{entries_of, is_asked}

-- ---- the entries that a change brings

-- the entry is that of a window from `at` on whose key is the shard's
pub record IsBrought (number shard shards at : ℕ) (keys : List ℕ) (e : Entry) : Type 0 where
  pub change : e.change ≡ number
  pub low : at ≤ e.at
  pub window : slice_get keys (e.at - at) ≡ Some e.key
  pub mine : e.key % shards ≡ shard

one_from : (b : Bool) (x e : Entry) → Contains (cond b (x ∷ []) []) e → (b ≡ true) × (x ≡ e)
one_from true x e c = (refl, ⊎_elim (λ h. h) (λ none. absurd (Contains-nil e none)) (Contains-cases x e [] c))
one_from false x e c = absurd (Contains-nil e c)

first_brought : (number shard shards at key : ℕ) (keys : List ℕ) (e : Entry) → let x : Entry = record { key = key; change = number; at = at } in x ≡ e → key % shards ≡ shard → IsBrought number shard shards at (key ∷ keys) e
first_brought number shard shards at key keys e same mine =
    let place : at ≡ e.at = ap (λ (y : Entry). y.at) same in
    let none : e.at - at ≡ 0 = omega (arith, place) in
    let of : key ≡ e.key = ap (λ (y : Entry). y.key) same in
    record {
      change = sym (ap (λ (y : Entry). y.change) same);
      low = omega (arith, place);
      window = ap (slice_get (key ∷ keys)) none ∙ ap Some of;
      mine = subst (λ k. k % shards ≡ shard) of mine;
    }

later_brought : (number shard shards at key : ℕ) (keys : List ℕ) (e : Entry) → IsBrought number shard shards (at + 1) keys e → IsBrought number shard shards at (key ∷ keys) e
later_brought number shard shards at key keys e later =
    let low = later.low in
    let next : e.at - at ≡ suc (e.at - (at + 1)) = omega (arith, low) in
    record { change = later.change; low = omega (arith, low); window = ap (slice_get (key ∷ keys)) next ∙ later.window; mine = later.mine }

pub from_entries : (number shard shards at : ℕ) (keys : List ℕ) (e : Entry) → Contains (entries_of number shard shards at keys) e → IsBrought number shard shards at keys e
from_entries number shard shards at [] e c = absurd (Contains-nil e c)
from_entries number shard shards at (key ∷ keys) e c =
    let x : Entry = record { key = key; change = number; at = at } in
    ⊎_elim
    (λ h. let found = one_from (key % shards == shard) x e h in first_brought number shard shards at key keys e found.1 (eqb-true (key % shards) shard found.0))
    (λ h. later_brought number shard shards at key keys e (from_entries number shard shards (at + 1) keys e h))
    (Contains-append_cases (cond (key % shards == shard) (x ∷ []) []) (entries_of number shard shards (at + 1) keys) e c)

one_there : (b : Bool) (x : Entry) → b ≡ true → Contains (cond b (x ∷ []) []) x
one_there true x is = Contains-here x []
one_there false x is = absurd (false≢true is)

abbrev key_in : Option ℕ → ℕ
key_in None = 0
key_in (Some key) = key

entry_at : (number shard shards at n key : ℕ) (keys : List ℕ) → slice_get keys n ≡ Some key → key % shards ≡ shard → let e : Entry = record { key = key; change = number; at = at + n } in Contains (entries_of number shard shards at keys) e
entry_at number shard shards at n key [] is mine = absurd (none-some key is)
entry_at number shard shards at zero key (k ∷ keys) is mine =
    let same : k ≡ key = ap key_in is in
    let x : Entry = record { key = k; change = number; at = at } in
    let y : Entry = record { key = key; change = number; at = at + 0 } in
    let place : at ≡ at + 0 = omega arith in
    let xy : x ≡ y = ap₂ (λ (j a : ℕ). let z : Entry = record { key = j; change = number; at = a } in z) same place in
    Contains-append_left (cond (k % shards == shard) (x ∷ []) []) (entries_of number shard shards (at + 1) keys) y
    (subst (Contains (cond (k % shards == shard) (x ∷ []) [])) xy (one_there (k % shards == shard) x (eq-eqb (k % shards) shard (subst (λ j. j % shards ≡ shard) (sym same) mine))))
entry_at number shard shards at (suc n) key (k ∷ keys) is mine =
    let x : Entry = record { key = k; change = number; at = at } in
    let y : Entry = record { key = key; change = number; at = at + suc n } in
    let later : Contains (entries_of number shard shards (at + 1) keys) y = subst (λ (a : ℕ). let z : Entry = record { key = key; change = number; at = a } in Contains (entries_of number shard shards (at + 1) keys) z) (omega arith) (entry_at number shard shards (at + 1) n key keys is mine) in
    Contains-append_right (cond (k % shards == shard) (x ∷ []) []) (entries_of number shard shards (at + 1) keys) y later

pub to_entries : (number shard shards : ℕ) (keys : List ℕ) (e : Entry) → e.change ≡ number → slice_get keys e.at ≡ Some e.key → e.key % shards ≡ shard → Contains (entries_of number shard shards 0 keys) e
to_entries number shard shards keys e is window mine =
    let there : 0 + e.at ≡ e.at = omega arith in
    subst₂ (λ (n a : ℕ). let z : Entry = record { key = e.key; change = n; at = a } in Contains (entries_of number shard shards 0 keys) z) (sym is) there (entry_at number shard shards 0 e.at e.key keys window mine)

one_alone : (b : Bool) (x : Entry) → AllPairs EntryBefore (cond b (x ∷ []) [])
one_alone true x i j d lt within = absurd (omega (arith, lt, within))
one_alone false x i j d lt within = absurd (omega (arith, lt, within))

pub entries_ordered : (number shard shards at : ℕ) (keys : List ℕ) → AllPairs EntryBefore (entries_of number shard shards at keys)
entries_ordered number shard shards at [] = AllPairs-nil EntryBefore
entries_ordered number shard shards at (key ∷ keys) =
    let x : Entry = record { key = key; change = number; at = at } in
    AllPairs-append EntryBefore (cond (key % shards == shard) (x ∷ []) []) (entries_of number shard shards (at + 1) keys)
    (one_alone (key % shards == shard) x)
    (entries_ordered number shard shards (at + 1) keys)
    (λ a b here later.
    let same = (one_from (key % shards == shard) x a here).1 in
    let brought = from_entries number shard shards (at + 1) keys b later in
    let low = brought.low in
    subst (λ w. EntryBefore w b) same (inr (sym brought.change, omega (arith, low))))

-- ---- the entries that a bucket asks for

pub any_of : (x : ℕ) (xs : List ℕ) → Contains xs x → list_any (nat_eq x) xs ≡ true
any_of x [] c = absurd (Contains-nil x c)
any_of x (y ∷ ys) c =
    ⊎_elim
    (λ h. ap (λ b. b || list_any (nat_eq x) ys) (eq-eqb x y (sym h)))
    (λ later. or_right (nat_eq x y) (list_any (nat_eq x) ys) (any_of x ys later))
    (Contains-cases y x ys c)

pub asked_is : (key : ℕ) (live : List ℕ) (e : Entry) → is_asked key live e ≡ true → (e.key ≡ key) × Contains live e.change
asked_is key live e is =
    let h = and_parts (e.key == key) (list_any (nat_eq e.change) live) is in
    (eqb-true e.key key h.0, Contains-from_any eqb-true e.change live h.1)

pub is_asked_for : (key : ℕ) (live : List ℕ) (e : Entry) → e.key ≡ key → Contains live e.change → is_asked key live e ≡ true
is_asked_for key live e same c = both_true (eq-eqb e.key key same) (any_of e.change live c)

-- those of a list that are asked for, in order where the entries of one key are
pub asked_in_order : (key : ℕ) (live : List ℕ) (entries : List Entry) → AllPairs (λ a b. a.key ≡ b.key → EntryBefore a b) entries → AreAllInOrder EntryBefore (λ e. (e.key ≡ key) × Contains live e.change × Contains entries e) (filter (is_asked key live) entries)
asked_in_order key live entries by_key =
    let asked : (e : Entry) → Contains (filter (is_asked key live) entries) e → (e.key ≡ key) × Contains live e.change × Contains entries e =
    λ e c. let found = Contains-from_filter (is_asked key live) entries e c in let is = asked_is key live e found.1 in (is.0, is.1, found.0) in
    record {
      ordered = AllPairs-weaker (λ a b. a.key ≡ b.key → EntryBefore a b) EntryBefore (filter (is_asked key live) entries)
          (λ a b c d before. before ((asked a c).0 ∙ sym (asked b d).0))
          (AllPairs-filter (λ a b. a.key ≡ b.key → EntryBefore a b) (is_asked key live) entries by_key);
      each = λ e. (asked e, λ h. Contains-filter (is_asked key live) entries e h.2 (is_asked_for key live e h.0 h.1));
    }
