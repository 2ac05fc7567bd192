-- For which changes a shard stands after one that it applies.
use Rattle.std.proofs.Common.{◌≡◌, ◌↔◌, ℕ, zero, suc, Bool, true, false, ◌∷◌, ◌+◌, ◌-◌, ◌<◌, ◌≤◌, Option, Some, None, List, [], ◌++◌, length, get_or, refl, sym, ◌∙◌, ap, subst, subst₂, inl, inr, ⊎_elim, arith}
use Rattle.std.specs.Prelude.{All, Contains, slice_get}
use Rattle.std.specs.List.Sorted.{IsStrictlyIncreasing}
use Rattle.std.proofs.lemmas.Bool.{cases_lt, false≢true}
use Rattle.std.proofs.lemmas.Option.{none-some, get_or_from_slice_get}
use Rattle.std.proofs.lemmas.List.{length-append, get_or_append_left}
use Rattle.std.proofs.lemmas.List.Elements.{All-contains, Contains-append_left, Contains-append_right, Contains-append_cases}
use Rattle.cq_base.specs.declared.lang.Lang.{Lang}
use Rattle.cq_base.specs.declared.settings.Settings.{Settings}
use Rattle.cq_base.specs.declared.entry.Entry.{Entry}
use Rattle.cq_base.specs.declared.change.Change.{Change}
use Rattle.cq_base.specs.declared.change.Change.TheVariants.{Put, Drop, Gate}
use Rattle.cq_clones.specs.Lists.{AreAllInOrder}
use Rattle.cq_clones.proofs.InOrder.{in_order_same}
use Rattle.cq_base.proofs.Lists.{Contains-here, Contains-nil, Contains-cases, All-from_contains}
use Rattle.cq_clones.specs.Windows.{EntryBefore}
use Rattle.cq_history.specs.Changes.{IsNumber, change_at, is_put, no_change}
use Rattle.cq_history.specs.Gone.{IsGone, IsPutAt}
use Rattle.cq_history.specs.Shards.{ShardHolds}
use Rattle.cq_history.proofs.Forgetting.{stays_gone}
use Rattle.cq_history.proofs.KeptPuts.{was_gone}
use Rattle.cq_shard.specs.Laws.{Applies}
use Rattle.cq_shard.specs.Runs.{Precedes, AreAdded}
use Rattle.cq_shard.specs.Shard.{Contents, IsShard, StandsFor, IsKnownPut, row_of, entries_of, brought, put_of, HasItsWork, HasWindow}
use Rattle.cq_shard.proofs.ShardLaws.{ShardHolds-append, ShardHolds-prefix}
use Rattle.cq_shard.proofs.Entries.{from_entries, to_entries}
use Rattle.cq_shard.proofs.Taking.{put_rises}

-- with one change more applied, these puts more, and these entries
abbrev pub with_applied : Contents → List ℕ → List Entry → Contents
with_applied c puts entries = record { shard = c.shard; shards = c.shards; applied = c.applied + 1; floor = c.floor; puts = c.puts ++ puts; entries = entries }

-- whether it is a put
abbrev put_in : Option Change → Bool
put_in None = false
put_in (Some d) = is_put d

-- ---- it stays a shard

put_is_shard : (c : Contents) (keys puts : List ℕ) (entries : List Entry) → IsShard c → IsStrictlyIncreasing (c.puts ++ puts) × All (λ n. n ≤ c.applied + 1) (c.puts ++ puts) → AreAdded c.entries (entries_of (c.applied + 1) c.shard c.shards 0 keys) entries → IsShard (with_applied c puts entries)
put_is_shard c keys puts entries is rise are =
    let passed = is.passed in
    record {
      mine = is.mine;
      passed = omega (arith, passed);
      rising = rise.0;
      noted = rise.1;
      known = All-from_contains (λ (e : Entry). e.change ≤ c.applied + 1) entries (λ e h. ⊎_elim
          (λ old. let known = All-contains (λ (e : Entry). e.change ≤ c.applied) c.entries e is.known old in omega (arith, known))
          (λ new. let same = (from_entries (c.applied + 1) c.shard c.shards 0 keys e new).change in omega (arith, same))
          ((are.each e).0 h));
      different = are.different is.different;
    }

-- the entries that a change brings are of a later change than those before
pub entries_follow : (old : List Entry) (change shard shards : ℕ) (keys : List ℕ) → All (λ e. e.change < change) old → Precedes old (entries_of change shard shards 0 keys)
entries_follow old change shard shards keys before a b here there =
    let known = All-contains (λ (e : Entry). e.change < change) old a before here in
    let same = (from_entries change shard shards 0 keys b there).change in
    omega (arith, known, same)

-- ---- it stands for the same changes

inside : {X : Type 0} (xs : List X) (i : ℕ) (x : X) → slice_get xs i ≡ Some x → i < length xs
inside [] i x is = absurd (none-some x is)
inside (y ∷ ys) zero x is = omega arith
inside (y ∷ ys) (suc i) x is = let h = inside ys i x is in omega (arith, h)

is_number : (changes : List Change) (r : ℕ) (d : Change) → 0 < r → change_at changes r ≡ Some d → IsNumber changes r
is_number changes r d some is = let h = inside changes (r - 1) d is in (some, omega (arith, some, h))

-- a change more is applied, whose number is among these where it is a put
module _ (changes : List Change) (applied floor : ℕ) (puts more : List ℕ) (d : Change) (low : floor ≤ applied) (is : change_at changes (applied + 1) ≡ Some d) (added : (n : ℕ) → Contains more n ↔ ((n ≡ applied + 1) × (is_put d ≡ true)))
    (were : (n : ℕ) → Contains puts n ↔ IsKnownPut changes applied floor n) where
  put_there : is_put (get_or changes (applied + 1 - 1) no_change) ≡ is_put d
  put_there = ap is_put (get_or_from_slice_get changes (applied + 1 - 1) d no_change is)

  kept_there : IsGone changes floor (applied + 1) → ⊥
  kept_there gone = let within = gone.within in omega (arith, within, low)

  pub puts_more : (n : ℕ) → Contains (puts ++ more) n ↔ IsKnownPut changes (applied + 1) floor n
  puts_more n = (
    λ h. ⊎_elim
        (λ old. let was = (were n).0 old in (was.0, (let most = was.1 in omega (arith, most)), was.2))
        (λ new. let now = (added n).0 new in
        subst (IsKnownPut changes (applied + 1) floor) (sym now.0) ((is_number changes (applied + 1) d (omega arith) is, kept_there), omega arith, put_there ∙ now.1))
        (Contains-append_cases puts more n h),
    λ h. ⊎_elim
        (λ (above : applied < n).
        let most = h.1 in
        let same : n ≡ applied + 1 = omega (arith, above, most) in
        Contains-append_right puts more n ((added n).1 (same, sym put_there ∙ subst (IsPutAt changes) same h.2)))
        (λ (old : n ≤ applied). Contains-append_left puts more n ((were n).1 (h.0, old, h.2)))
        (cases_lt applied n),
  )

-- the windows of a text have these keys, by place
abbrev pub AreWindows : (Lang → List ℕ → ℕ → ℕ → Type 0) → Lang → List ℕ → List ℕ → Type 0
AreWindows IsWindow lang text keys = (place key : ℕ) → IsWindow lang text place key ↔ (slice_get keys place ≡ Some key)

same_text : (q r p s : List ℕ) (a b : Lang) (x y : List ℕ) → Some (Put q p a x) ≡ Some (Put r s b y) → (a ≡ b) × (x ≡ y)
same_text q r p s a b x y e = (cc e, cc e)

module _ (IsWindow : Lang → List ℕ → ℕ → ℕ → Type 0) (changes : List Change) (c : Contents) (project path : List ℕ) (lang : Lang) (text keys : List ℕ) (windows : AreWindows IsWindow lang text keys)
    (passed : c.floor ≤ c.applied) (applies : Applies IsWindow c.shards changes c.shard c.applied c.floor) (is : change_at changes (c.applied + 1) ≡ Some (Put project path lang text)) where
  new_holds : (e : Entry) → Contains (entries_of (c.applied + 1) c.shard c.shards 0 keys) e → ShardHolds IsWindow c.shards changes c.shard (c.applied + 1) c.floor (row_of e)
  new_holds e new =
      let b = from_entries (c.applied + 1) c.shard c.shards 0 keys e new in
      let at : e.at ≡ e.at - 0 = omega arith in
      applies.adds (row_of e) project path lang text b.change
      (subst (IsNumber changes) (sym b.change) (is_number changes (c.applied + 1) (Put project path lang text) (omega arith) is))
      (ap (change_at changes) b.change ∙ is)
      ((windows e.at e.key).1 (ap (slice_get keys) at ∙ b.window))
      b.mine

  held_is_new : (e : Entry) → ShardHolds IsWindow c.shards changes c.shard (c.applied + 1) c.floor (row_of e) → e.change ≡ c.applied + 1 → Contains (entries_of (c.applied + 1) c.shard c.shards 0 keys) e
  held_is_new e held same =
      let texts = same_text held.project project held.path path held.lang lang held.text text (sym held.put ∙ ap (change_at changes) same ∙ is) in
      to_entries (c.applied + 1) c.shard c.shards keys e same ((windows e.at e.key).0 (subst₂ (λ l t. IsWindow l t e.at e.key) texts.0 texts.1 held.window)) held.mine

  put_stands : (entries : List Entry) → AreAdded c.entries (entries_of (c.applied + 1) c.shard c.shards 0 keys) entries → StandsFor IsWindow changes c → StandsFor IsWindow changes (with_applied c ((c.applied + 1) ∷ []) entries)
  put_stands entries are stands = record {
    applied = (is_number changes (c.applied + 1) (Put project path lang text) (omega arith) is).1;
    puts = puts_more changes c.applied c.floor c.puts ((c.applied + 1) ∷ []) (Put project path lang text) passed is
        (λ n. (
          λ h. (⊎_elim (λ same. sym same) (λ none. absurd (Contains-nil n none)) (Contains-cases (c.applied + 1) n [] h), refl),
          λ h. subst (Contains ((c.applied + 1) ∷ [])) (sym h.0) (Contains-here (c.applied + 1) []),
        ))
        stands.puts;
    entries = λ e. (
      λ h. ⊎_elim (λ old. applies.keeps (row_of e) ((stands.entries e).0 old)) (λ new. new_holds e new) ((are.each e).0 h),
      λ h. (are.each e).1 (⊎_elim
          (λ old. inl ((stands.entries e).1 old))
          (λ new. inr (held_is_new e h new))
          (applies.alone (row_of e) h)),
    );
  }

-- no entry, where the change is no put
other_stands : (IsWindow : Lang → List ℕ → ℕ → ℕ → Type 0) (changes : List Change) (c : Contents) (d : Change) (entries : List Entry) → AreAdded c.entries [] entries →
    c.floor ≤ c.applied → Applies IsWindow c.shards changes c.shard c.applied c.floor → StandsFor IsWindow changes c → change_at changes (c.applied + 1) ≡ Some d → is_put d ≡ false →
    StandsFor IsWindow changes (with_applied c [] entries)
other_stands IsWindow changes c d entries are passed applies stands is other = record {
  applied = (is_number changes (c.applied + 1) d (omega arith) is).1;
  puts = puts_more changes c.applied c.floor c.puts [] d passed is
      (λ n. (λ none. absurd (Contains-nil n none), λ h. absurd (false≢true (sym other ∙ h.1))))
      stands.puts;
  entries = λ e. (
    λ h. ⊎_elim (λ old. applies.keeps (row_of e) ((stands.entries e).0 old)) (λ none. absurd (Contains-nil e none)) ((are.each e).0 h),
    λ h. ⊎_elim
        (λ old. (are.each e).1 (inl ((stands.entries e).1 old)))
        (λ new. absurd (false≢true (sym other ∙ sym (ap put_in is) ∙ ap put_in (ap (change_at changes) (sym new) ∙ h.put))))
        (applies.alone (row_of e) h),
  );
}

-- no changes, and later ones

pub first_stands : (IsWindow : Lang → List ℕ → ℕ → ℕ → Type 0) (changes : List Change) (c : Contents) → c.applied ≡ 0 → c.puts ≡ [] → c.entries ≡ [] → StandsFor IsWindow changes c
first_stands IsWindow changes c none unknown empty = record {
  applied = omega (arith, none);
  puts = λ n. (
    λ here. absurd (Contains-nil n (subst (λ ns. Contains ns n) unknown here)),
    λ h. absurd (let some = h.0.0.0 in let most = h.1 in omega (arith, some, most, none)),
  );
  entries = λ e. (
    λ here. absurd (Contains-nil e (subst (λ es. Contains es e) empty here)),
    λ holds. absurd (let a = holds.accepted.0 in let b = holds.applies in omega (arith, a, b, none)),
  );
}

put_append : (changes later : List Change) (n : ℕ) → IsNumber changes n → is_put (get_or (changes ++ later) (n - 1) no_change) ≡ is_put (get_or changes (n - 1) no_change)
put_append changes later n is = let some = is.0 in let most = is.1 in ap is_put (get_or_append_left changes later no_change (n - 1) (omega (arith, some, most)))

pub later_stands : (IsWindow : Lang → List ℕ → ℕ → ℕ → Type 0) (changes later : List Change) (c : Contents) → c.floor ≤ c.applied → StandsFor IsWindow changes c → StandsFor IsWindow (changes ++ later) c
later_stands IsWindow changes later c passed stands =
    let applied = stands.applied in
    let long = length-append changes later in
    let put_later = put_append changes later in
    record {
      applied = omega (arith, applied, long);
      puts = λ n. (
        λ here.
            let h = (stands.puts n).0 here in
            (((h.0.0.0, (let most = h.0.0.1 in omega (arith, most, long))), λ g. h.0.1 (was_gone changes later c.floor (omega (arith, applied, passed)) n g)), h.1, put_later n h.0.0 ∙ h.2),
        λ h.
            let number : IsNumber changes n = (h.0.0.0, (let most = h.1 in omega (arith, most, applied))) in
            (stands.puts n).1 ((number, λ g. h.0.1 (stays_gone changes later c.floor c.floor n (omega arith) g)), h.1, sym (put_later n number) ∙ h.2),
      );
      entries = λ e. (
        λ h. ShardHolds-append IsWindow c.shards changes later c.shard c.applied c.floor (row_of e) applied (omega (arith, applied, passed)) ((stands.entries e).0 h),
        λ h. (stands.entries e).1 (ShardHolds-prefix IsWindow c.shards changes later c.shard c.applied c.floor (row_of e) applied (omega (arith, applied, passed)) h),
      );
    }

-- ---- whatever change it is

pub brought_is_shard : {W : Type 0} (keys_in : W → List ℕ) (c : Contents) (work : Option W) (entries : List Entry) → IsShard c → AreAdded c.entries (brought keys_in (c.applied + 1) c.shard c.shards work) entries → IsShard (with_applied c (put_of (c.applied + 1) work) entries)
brought_is_shard {W} keys_in c None entries is are = put_is_shard c [] [] entries is (put_rises {W = W} c.puts c.applied (c.applied + 1) None (omega arith) is.rising is.noted) are
brought_is_shard {W} keys_in c (Some w) entries is are = put_is_shard c (keys_in w) ((c.applied + 1) ∷ []) entries is (put_rises c.puts c.applied (c.applied + 1) (Some w) (omega arith) is.rising is.noted) are

pub brought_stands : {W : Type 0} (IsWindow : Lang → List ℕ → ℕ → ℕ → Type 0) (keys_in : W → List ℕ) (IsWork : Lang → List ℕ → W → Type 0) (changes : List Change) (c : Contents) (o : Option Change) (work : Option W) (entries : List Entry) →
    AreAdded c.entries (brought keys_in (c.applied + 1) c.shard c.shards work) entries →
    ((lang : Lang) (text : List ℕ) (w : W) → IsWork lang text w → AreWindows IsWindow lang text (keys_in w)) →
    c.floor ≤ c.applied → Applies IsWindow c.shards changes c.shard c.applied c.floor → StandsFor IsWindow changes c → change_at changes (c.applied + 1) ≡ o → HasItsWork IsWork o work →
    StandsFor IsWindow changes (with_applied c (put_of (c.applied + 1) work) entries)
brought_stands IsWindow keys_in IsWork changes c None work entries are windows passed applies stands is of = absurd of
brought_stands IsWindow keys_in IsWork changes c (Some (Put project path lang text)) None entries are windows passed applies stands is of = absurd of
brought_stands IsWindow keys_in IsWork changes c (Some (Put project path lang text)) (Some w) entries are windows passed applies stands is of =
    put_stands IsWindow changes c project path lang text (keys_in w) (windows lang text w of) passed applies is entries are stands
brought_stands IsWindow keys_in IsWork changes c (Some (Drop project path)) None entries are windows passed applies stands is of = other_stands IsWindow changes c (Drop project path) entries are passed applies stands is refl
brought_stands IsWindow keys_in IsWork changes c (Some (Drop project path)) (Some w) entries are windows passed applies stands is of = absurd of
brought_stands IsWindow keys_in IsWork changes c (Some (Gate project conditions)) None entries are windows passed applies stands is of = other_stands IsWindow changes c (Gate project conditions) entries are passed applies stands is refl
brought_stands IsWindow keys_in IsWork changes c (Some (Gate project conditions)) (Some w) entries are windows passed applies stands is of = absurd of

-- a work of the text has the keys of all others
pub work_windows : {W : Type 0} (keys_in : W → List ℕ) (IsWorkOf : Settings → Lang → List ℕ → W → Type 0) (settings : Settings) (lang : Lang) (text : List ℕ) (work : W) →
    ((other : W) → IsWorkOf settings lang text other → keys_in other ≡ keys_in work) → IsWorkOf settings lang text work → AreWindows (HasWindow keys_in IsWorkOf settings) lang text (keys_in work)
work_windows keys_in IsWorkOf settings lang text work determined of place key = (
  λ (other, also, read). ap (λ ks. slice_get ks place) (sym (determined other also)) ∙ read,
  λ read. (work, of, read),
)

-- ---- what is asked of it

pub bucket_holds : (IsWindow : Lang → List ℕ → ℕ → ℕ → Type 0) (changes : List Change) (c : Contents) (key : ℕ) (live : List ℕ) (bucket : List Entry) → StandsFor IsWindow changes c →
    AreAllInOrder EntryBefore (λ e. (e.key ≡ key) × Contains live e.change × Contains c.entries e) bucket →
    AreAllInOrder EntryBefore (λ e. (e.key ≡ key) × Contains live e.change × ShardHolds IsWindow c.shards changes c.shard c.applied c.floor (row_of e)) bucket
bucket_holds IsWindow changes c key live bucket stands is =
    in_order_same EntryBefore
    (λ e. (e.key ≡ key) × Contains live e.change × Contains c.entries e)
    (λ e. (e.key ≡ key) × Contains live e.change × ShardHolds IsWindow c.shards changes c.shard c.applied c.floor (row_of e))
    bucket
    (λ e h. (h.0, h.1, (stands.entries e).0 h.2))
    (λ e h. (h.0, h.1, (stands.entries e).1 h.2))
    is
