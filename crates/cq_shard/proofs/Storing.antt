-- The entries that count, as entries come and as changes are taken out.
use Rattle.std.proofs.Common.{◌≡◌, ◌≢◌, Ok, Err, Result, ℕ, ◌<◌, ◌≤◌, Bool, true, false, cond, ◌&&◌, nat_eq, List, [], ◌∷◌, ◌++◌, map, filter, refl, sym, ap, ◌∙◌, subst, inl, inr, ⊎_elim, arith}
use Rattle.std.specs.Prelude.{All, Contains, OnErr, OnOk}
use Rattle.std.proofs.lemmas.Bool.{eqb-true}
use Rattle.std.proofs.lemmas.List.Elements.{All-contains, All-append, Contains-append_left, Contains-append_right, Contains-append_cases, filter-append}
use Rattle.std.proofs.lemmas.List.Kept.{AllPairs-filter}
use Rattle.std.proofs.lemmas.Map.Views.{Contains-from_any, any-filter_same}
use Rattle.cq_base.specs.declared.entry.Entry.{Entry}
use Rattle.cq_base.proofs.Lists.{Contains-here, Contains-there, Contains-from_map, Contains-filter, Contains-from_filter, All-from_contains, AllPairs-map, AllPairs-weaker}
use Rattle.cq_clones.specs.Lists.{AreAllInOrder}
use Rattle.cq_clones.specs.Windows.{EntryBefore}
use Rattle.cq_shard.specs.Runs.{RowBefore, IsRun, Precedes, AreRuns, AreAdded, AreDifferent, entries_in}
use Rattle.cq_shard.specs.Tables.{is_among, stays, staying}
use Rattle.cq_shard.specs.Stores.{those_of, left_to, Stored, stored, left_by, AreNext, IsStore}
use Rattle.cq_shard.proofs.Entries.{any_of}

-- ---- what a filter by changes keeps

pub from_those : (changes : List ℕ) (rows : List Entry) (e : Entry) → Contains (those_of changes rows) e → Contains rows e × Contains changes e.change
from_those changes rows e c =
    let found = Contains-from_filter (λ (e : Entry). is_among changes e.change) rows e c in
    (found.0, Contains-from_any eqb-true e.change changes found.1)

pub to_those : (changes : List ℕ) (rows : List Entry) (e : Entry) → Contains rows e → Contains changes e.change → Contains (those_of changes rows) e
to_those changes rows e here of = Contains-filter (λ (e : Entry). is_among changes e.change) rows e here (any_of e.change changes of)

pub those_all : (changes : List ℕ) (rows : List Entry) → ((e : Entry) → Contains rows e → Contains changes e.change) → those_of changes rows ≡ rows
those_all changes [] of = refl
those_all changes (e ∷ rows) of =
    ap (λ b. cond b (e ∷ those_of changes rows) (those_of changes rows)) (any_of e.change changes (of e (Contains-here e rows)))
    ∙ ap (λ es. e ∷ es) (those_all changes rows (λ z c. of z (Contains-there e z rows c)))

pub those_again : (changes : List ℕ) (rows : List Entry) → those_of changes (those_of changes rows) ≡ those_of changes rows
those_again changes rows = those_all changes (those_of changes rows) (λ e c. (from_those changes rows e c).1)

-- ---- changes are taken out

module _ (test : ℕ → Bool) where
  abbrev passing : List Entry → List Entry
  passing entries = filter (λ (e : Entry). test e.change) entries

  among_filtered : (changes : List ℕ) (n : ℕ) → is_among (filter test changes) n ≡ (test n && is_among changes n)
  among_filtered changes n = any-filter_same (nat_eq n) test (test n) (λ k same. ap test (sym (eqb-true n k same))) changes

  step : (p q b : Bool) (e : Entry) (xs : List Entry) → b ≡ (q && p) → q ≡ test e.change → cond b (e ∷ passing xs) (passing xs) ≡ passing (cond p (e ∷ xs) xs)
  step true true b e xs is same = ap (λ b. cond b (e ∷ passing xs) (passing xs)) is ∙ ap (λ q. cond q (e ∷ passing xs) (passing xs)) same
  step true false b e xs is same = ap (λ b. cond b (e ∷ passing xs) (passing xs)) is ∙ ap (λ q. cond q (e ∷ passing xs) (passing xs)) same
  step false true b e xs is same = ap (λ b. cond b (e ∷ passing xs) (passing xs)) is
  step false false b e xs is same = ap (λ b. cond b (e ∷ passing xs) (passing xs)) is

  those_filtered : (changes : List ℕ) (rows : List Entry) → those_of (filter test changes) rows ≡ passing (those_of changes rows)
  those_filtered changes [] = refl
  those_filtered changes (e ∷ rows) =
      ap (λ es. cond (is_among (filter test changes) e.change) (e ∷ es) es) (those_filtered changes rows)
      ∙ step (is_among changes e.change) (test e.change) (is_among (filter test changes) e.change) e (those_of changes rows) (among_filtered changes e.change) refl

pub those_staying : (floor : ℕ) (keep changes : List ℕ) (rows : List Entry) → those_of (staying floor keep changes) rows ≡ left_to floor keep (those_of changes rows)
those_staying floor keep changes rows = those_filtered (λ n. stays floor keep n) changes rows

-- ---- in runs

pub entries_kept : (changes : List ℕ) (runs : List (List Entry)) → entries_in (map (those_of changes) runs) ≡ those_of changes (entries_in runs)
entries_kept changes [] = refl
entries_kept changes (run ∷ runs) =
    ap (λ es. those_of changes run ++ es) (entries_kept changes runs)
    ∙ sym (filter-append (λ (e : Entry). is_among changes e.change) run (entries_in runs))

pub runs_kept : (changes : List ℕ) (runs : List (List Entry)) → AreRuns runs → AreRuns (map (those_of changes) runs)
runs_kept changes runs are = record {
  sorted = All-from_contains IsRun (map (those_of changes) runs) (λ run c.
      let (old, there, is) = Contains-from_map (those_of changes) runs run c in
      subst IsRun is (AllPairs-filter RowBefore (λ (e : Entry). is_among changes e.change) old (All-contains IsRun runs old are.sorted there)));
  follow = AllPairs-map Precedes (those_of changes) runs
      (AllPairs-weaker Precedes (λ a b. Precedes (those_of changes a) (those_of changes b)) runs
      (λ a b here there before x y in_a in_b. before x y (from_those changes a x in_a).0 (from_those changes b y in_b).0)
      are.follow);
}

-- ---- what is asked

pub asked_those : (key : ℕ) (live changes : List ℕ) (rows bucket : List Entry) →
    AreAllInOrder EntryBefore (λ e. (e.key ≡ key) × Contains live e.change × Contains rows e) bucket →
    AreAllInOrder EntryBefore (λ e. (e.key ≡ key) × Contains live e.change × Contains (those_of changes rows) e) (those_of changes bucket)
asked_those key live changes rows bucket are = record {
  ordered = AllPairs-filter EntryBefore (λ (e : Entry). is_among changes e.change) bucket are.ordered;
  each = λ e. (
    λ h. let found = from_those changes bucket e h in
        let asked = (are.each e).0 found.0 in
        (asked.0, asked.1, to_those changes rows e asked.2 found.1),
    λ (is, lives, there). let found = from_those changes rows e there in to_those changes bucket e ((are.each e).1 (is, lives, found.0)) found.1,
  );
}

-- ---- entries come

module _ (applied later : ℕ) (changes puts : List ℕ) (rows entries : List Entry) (before : List Entry) (gone : ℕ) (is : IsStore applied changes rows gone) (next : AreNext (stored applied changes before) later puts entries) where
  entry_later : (e : Entry) → Contains entries e → applied < e.change
  entry_later e c = All-contains (λ n. applied < n) puts e.change next.later (All-contains (λ (e : Entry). Contains puts e.change) entries e next.each c)

  entry_known : (e : Entry) → Contains entries e → e.change ≤ later
  entry_known e c = All-contains (λ n. n ≤ later) puts e.change next.known (All-contains (λ (e : Entry). Contains puts e.change) entries e next.each c)

  -- those that come are of later changes than all before
  pub rows_precede : Precedes rows entries
  rows_precede a b here there =
      let low = All-contains (λ (e : Entry). e.change ≤ applied) rows a is.brought here in
      let high = entry_later b there in
      omega (arith, low, high)

  module _ (more : List Entry) (added : AreAdded rows entries more) where
    pub stored_added : AreAdded (those_of changes rows) entries (those_of (changes ++ puts) more)
    stored_added = record {
      each = λ e. (
        λ h. let found = from_those (changes ++ puts) more e h in
            ⊎_elim
            (λ old. inl (to_those changes rows e old (⊎_elim
            (λ was. was)
            (λ new.
            let low = All-contains (λ (e : Entry). e.change ≤ applied) rows e is.brought old in
            let high = All-contains (λ n. applied < n) puts e.change next.later new in
            absurd (omega (arith, low, high)))
            (Contains-append_cases changes puts e.change found.1))))
            (λ new. inr new)
            ((added.each e).0 found.0),
        λ h. ⊎_elim
            (λ old. let found = from_those changes rows e old in to_those (changes ++ puts) more e ((added.each e).1 (inl found.0)) (Contains-append_left changes puts e.change found.1))
            (λ new. to_those (changes ++ puts) more e ((added.each e).1 (inr new)) (Contains-append_right changes puts e.change (All-contains (λ (e : Entry). Contains puts e.change) entries e next.each new)))
            h,
      );
      different = λ _. AllPairs-filter (λ a b. a ≢ b) (λ (e : Entry). is_among (changes ++ puts) e.change) more (added.different is.different);
    }

    pub store_added : applied ≤ later → IsStore later (changes ++ puts) more gone
    store_added further = record {
      known = All-append (λ n. n ≤ later) changes puts (λ i d lt. let low = is.known i d lt in omega (arith, low, further)) next.known;
      brought = All-from_contains (λ (e : Entry). e.change ≤ later) more (λ e c. ⊎_elim
          (λ old. let low = All-contains (λ (e : Entry). e.change ≤ applied) rows e is.brought old in omega (arith, low, further))
          (λ new. entry_known e new)
          ((added.each e).0 c));
      different = added.different is.different;
      whole = λ none e c. ⊎_elim
          (λ old. Contains-append_left changes puts e.change (is.whole none e old))
          (λ new. Contains-append_right changes puts e.change (All-contains (λ (e : Entry). Contains puts e.change) entries e next.each new))
          ((added.each e).0 c);
    }

-- some that a sweep took out were cleared
pub store_less : (applied : ℕ) (changes : List ℕ) (rows less : List Entry) (gone left : ℕ) → IsStore applied changes rows gone → ((e : Entry) → Contains less e → Contains rows e) → AreDifferent less → (left ≡ 0 → gone ≡ 0) → IsStore applied changes less left
store_less applied changes rows less gone left is fewer different none = record {
  known = is.known;
  brought = All-from_contains (λ (e : Entry). e.change ≤ applied) less (λ e c. All-contains (λ (e : Entry). e.change ≤ applied) rows e is.brought (fewer e c));
  different = different;
  whole = λ zero e c. is.whole (none zero) e (fewer e c);
}

-- ---- a sweep

module _ (applied floor : ℕ) (keep changes : List ℕ) where
  staying_known : All (λ n. n ≤ applied) changes → All (λ n. n ≤ applied) (staying floor keep changes)
  staying_known known = All-from_contains (λ n. n ≤ applied) (staying floor keep changes) (λ n c. All-contains (λ n. n ≤ applied) changes n known (Contains-from_filter (λ n. stays floor keep n) changes n c).0)

  -- the entries still lie there
  pub store_marked : (rows : List Entry) (gone more : ℕ) → IsStore applied changes rows gone → (more ≡ 0 → (gone ≡ 0) × (staying floor keep changes ≡ changes)) → IsStore applied (staying floor keep changes) rows more
  store_marked rows gone more is none = record {
    known = staying_known is.known;
    brought = is.brought;
    different = is.different;
    whole = λ zero e c. let same = none zero in subst (λ ns. Contains ns e.change) (sym same.1) (is.whole same.0 e c);
  }

  -- or are cleared
  pub store_cleared : (rows : List Entry) (gone : ℕ) → IsStore applied changes rows gone → IsStore applied (staying floor keep changes) (those_of (staying floor keep changes) rows) 0
  store_cleared rows gone is =
      let left = staying floor keep changes in
      record {
        known = staying_known is.known;
        brought = All-from_contains (λ (e : Entry). e.change ≤ applied) (those_of left rows) (λ e c. All-contains (λ (e : Entry). e.change ≤ applied) rows e is.brought (from_those left rows e c).0);
        different = AllPairs-filter (λ a b. a ≢ b) (λ (e : Entry). is_among left e.change) rows is.different;
        whole = λ zero e c. (from_those left rows e c).1;
      }

  -- what counts then, as it was before but for what goes
  pub left_marked : (left : List ℕ) (rows : List Entry) (old : Stored) → stored applied changes rows ≡ old → left ≡ staying floor keep changes → stored applied left rows ≡ left_by floor keep old
  left_marked left rows old was is =
      ap (λ ns. stored applied ns rows) is
      ∙ ap (λ (es : List Entry). let s : Stored = record { applied = applied; puts = staying floor keep changes; entries = es } in s) (those_staying floor keep changes rows)
      ∙ ap (left_by floor keep) was

  pub left_cleared : (left : List ℕ) (rows kept : List Entry) (old : Stored) → stored applied changes rows ≡ old → left ≡ staying floor keep changes → kept ≡ those_of left rows → stored applied left kept ≡ left_by floor keep old
  left_cleared left rows kept old was is cleared =
      ap (stored applied left) cleared
      ∙ ap (λ (es : List Entry). let s : Stored = record { applied = applied; puts = left; entries = es } in s) (those_again left rows)
      ∙ left_marked left rows old was is

pub always_ok : {T E P : Type 0} (r : Result T E) → P → OnOk r P
always_ok (Ok x) is = is
always_ok (Err e) is = tt

pub always_err : {T E P : Type 0} (r : Result T E) → P → OnErr r P
always_err (Ok x) is = tt
always_err (Err e) is = is
