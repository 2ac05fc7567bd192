-- The entries that works bring, and for which changes a shard stands after all of them.
use Rattle.std.proofs.Common.{◌≡◌, ◌≢◌, ℕ, suc, ◌+◌, ◌<◌, ◌≤◌, Option, Some, None, List, [], ◌∷◌, ◌++◌, length, get_or, refl, sym, ap, subst, subst₂, inl, ⊎_elim, arith}
use Rattle.std.specs.Prelude.{All, AllPairs, Contains}
use Rattle.std.specs.List.Sorted.{IsStrictlyIncreasing}
use Rattle.std.proofs.lemmas.List.{append_assoc, append-nil}
use Rattle.std.proofs.lemmas.List.Elements.{All-contains, Contains-append_left, Contains-append_right, Contains-append_cases}
use Rattle.cq_base.specs.declared.lang.Lang.{Lang}
use Rattle.cq_base.specs.declared.entry.Entry.{Entry}
use Rattle.cq_base.specs.declared.change.Change.{Change}
use Rattle.cq_base.proofs.Lists.{Contains-nil, AllPairs-nil, AllPairs-append, AllPairs-weaker, All-from_contains}
use Rattle.cq_clones.specs.Windows.{EntryBefore}
use Rattle.cq_history.specs.Changes.{change_at}
use Rattle.cq_shard.specs.Laws.{ApplyingAddsItsRows}
use Rattle.cq_shard.specs.Runs.{Precedes, AreAdded}
use Rattle.cq_shard.specs.Stores.{Stored, AreNext}
use Rattle.cq_shard.specs.Shard.{Contents, IsShard, StandsFor, brought, all_brought, put_of, puts_among, HasItsWork, HaveTheirWorks}
use Rattle.cq_shard.proofs.Entries.{from_entries, entries_ordered}
use Rattle.cq_shard.proofs.Taking.{put_is, put_rises, puts_rise, puts_between, brought_put, brought_puts}
use Rattle.cq_shard.proofs.Standing.{AreWindows, with_applied, brought_is_shard, brought_stands}

-- ---- their order

module _ {W : Type 0} (keys_in : W → List ℕ) (shard shards : ℕ) where
  pub brought_change : (change : ℕ) (work : Option W) (e : Entry) → Contains (brought keys_in change shard shards work) e → e.change ≡ change
  brought_change change None e c = absurd (Contains-nil e c)
  brought_change change (Some w) e c = (from_entries change shard shards 0 (keys_in w) e c).change

  pub brought_ordered : (change : ℕ) (work : Option W) → AllPairs EntryBefore (brought keys_in change shard shards work)
  brought_ordered change None = AllPairs-nil EntryBefore
  brought_ordered change (Some w) = entries_ordered change shard shards 0 (keys_in w)

  pub brought_follow : (old : List Entry) (change : ℕ) (work : Option W) → All (λ e. e.change < change) old → Precedes old (brought keys_in change shard shards work)
  brought_follow old change work before a b here there =
      let known = All-contains (λ (e : Entry). e.change < change) old a before here in
      let same = brought_change change work b there in
      omega (arith, known, same)

  pub all_between : (applied : ℕ) (works : List (Option W)) (e : Entry) → Contains (all_brought keys_in applied shard shards works) e → (applied < e.change) × (e.change ≤ applied + length works)
  all_between applied [] e c = absurd (Contains-nil e c)
  all_between applied (work ∷ works) e c = ⊎_elim
      (λ here. let same = brought_change (applied + 1) work e here in (omega (arith, same), omega (arith, same)))
      (λ later. let more = all_between (applied + 1) works e later in (omega (arith, more.0), omega (arith, more.1)))
      (Contains-append_cases (brought keys_in (applied + 1) shard shards work) (all_brought keys_in (applied + 1) shard shards works) e c)

  pub all_ordered : (applied : ℕ) (works : List (Option W)) → AllPairs EntryBefore (all_brought keys_in applied shard shards works)
  all_ordered applied [] = AllPairs-nil EntryBefore
  all_ordered applied (work ∷ works) =
      AllPairs-append EntryBefore (brought keys_in (applied + 1) shard shards work) (all_brought keys_in (applied + 1) shard shards works)
      (brought_ordered (applied + 1) work)
      (all_ordered (applied + 1) works)
      (λ a b here later.
      let same = brought_change (applied + 1) work a here in
      let more = (all_between (applied + 1) works b later).0 in
      inl (omega (arith, same, more)))

  pub all_follow : (old : List Entry) (applied : ℕ) (works : List (Option W)) → All (λ e. e.change ≤ applied) old → Precedes old (all_brought keys_in applied shard shards works)
  all_follow old applied works known a b here there =
      let low = All-contains (λ (e : Entry). e.change ≤ applied) old a known here in
      let high = (all_between applied works b there).0 in
      omega (arith, low, high)

-- ---- the puts among them

module _ {W : Type 0} (keys_in : W → List ℕ) (s : Stored) (shard shards : ℕ) (up : IsStrictlyIncreasing s.puts) (low : All (λ n. n ≤ s.applied) s.puts) where
  pub put_next : (change : ℕ) (work : Option W) → s.applied < change → AreNext s change (put_of change work) (brought keys_in change shard shards work)
  put_next change work above = record {
    rising = (put_rises s.puts s.applied change work above up low).0;
    later = All-from_contains (λ n. s.applied < n) (put_of change work) (λ n c. let same = put_is change work n c in omega (arith, same, above));
    known = All-from_contains (λ n. n ≤ change) (put_of change work) (λ n c. let same = put_is change work n c in omega (arith, same));
    each = All-from_contains (λ (e : Entry). Contains (put_of change work) e.change) (brought keys_in change shard shards work) (λ e c. brought_put keys_in change shard shards work e c);
  }

  pub puts_next : (works : List (Option W)) → AreNext s (s.applied + length works) (puts_among s.applied works) (all_brought keys_in s.applied shard shards works)
  puts_next works = record {
    rising = (puts_rise s.puts s.applied works up low).0;
    later = All-from_contains (λ n. s.applied < n) (puts_among s.applied works) (λ n c. (puts_between s.applied works n c).0);
    known = All-from_contains (λ n. n ≤ s.applied + length works) (puts_among s.applied works) (λ n c. (puts_between s.applied works n c).1);
    each = All-from_contains (λ (e : Entry). Contains (puts_among s.applied works) e.change) (all_brought keys_in s.applied shard shards works) (λ e c. brought_puts keys_in s.applied shard shards works e c);
  }

-- ---- what comes after them

-- the old entries and later ones in order are each there once
added_behind : (old more : List Entry) → Precedes old more → AllPairs EntryBefore more → AreAdded old more (old ++ more)
added_behind old more follow ordered = record {
  each = λ e. (Contains-append_cases old more e, λ h. ⊎_elim (λ here. Contains-append_left old more e here) (λ there. Contains-append_right old more e there) h);
  different = λ were. AllPairs-append (λ a b. a ≢ b) old more were
      (AllPairs-weaker EntryBefore (λ a b. a ≢ b) more (λ a b c d before same. grind arith) ordered)
      (λ a b here there same. let before = follow a b here there in let is : a.change ≡ b.change = ap (λ (e : Entry). e.change) same in omega (arith, before, is));
}

-- the same shard up to a change, with these puts and these entries
abbrev pub up_to : Contents → ℕ → List ℕ → List Entry → Contents
up_to c applied puts entries = record { shard = c.shard; shards = c.shards; applied = applied; floor = c.floor; puts = puts; entries = entries }

-- with so many changes more applied, these puts more, and these entries
abbrev pub with_more : Contents → ℕ → List ℕ → List Entry → Contents
with_more c more puts entries = up_to c (c.applied + more) (c.puts ++ puts) entries

module _ {W : Type 0} (IsWindow : Lang → List ℕ → ℕ → ℕ → Type 0) (keys_in : W → List ℕ) (IsWork : Lang → List ℕ → W → Type 0) (changes : List Change)
    (windows : (lang : Lang) (text : List ℕ) (w : W) → IsWork lang text w → AreWindows IsWindow lang text (keys_in w)) (applies : ApplyingAddsItsRows IsWindow) where
  behind_all : (c : Contents) (works : List (Option W)) → IsShard c → StandsFor IsWindow changes c → HaveTheirWorks IsWork changes c.applied works →
      StandsFor IsWindow changes (with_more c (length works) (puts_among c.applied works) (c.entries ++ all_brought keys_in c.applied c.shard c.shards works))
  behind_all c [] is stands theirs =
      let none : c.applied ≡ c.applied + 0 = omega arith in
      subst (λ es. StandsFor IsWindow changes (with_more c 0 [] es)) (sym (append-nil c.entries))
      (subst (λ ns. StandsFor IsWindow changes (up_to c (c.applied + 0) ns c.entries)) (sym (append-nil c.puts))
      (subst (λ n. StandsFor IsWindow changes (up_to c n c.puts c.entries)) none stands))
  behind_all c (work ∷ works) is stands theirs =
      let next = brought keys_in (c.applied + 1) c.shard c.shards work in
      let rest = all_brought keys_in (c.applied + 1) c.shard c.shards works in
      let put = put_of (c.applied + 1) work in
      let puts = puts_among (c.applied + 1) works in
      let added = added_behind c.entries next
      (brought_follow keys_in c.shard c.shards c.entries (c.applied + 1) work (λ i d lt. let known = is.known i d lt in omega (arith, known)))
      (brought_ordered keys_in c.shard c.shards (c.applied + 1) work) in
      let one = with_applied c put (c.entries ++ next) in
      let first : HasItsWork IsWork (change_at changes (c.applied + 1)) work = subst (λ n. HasItsWork IsWork (change_at changes n) work) (omega arith) (theirs 0 None (omega arith)) in
      let others : HaveTheirWorks IsWork changes (c.applied + 1) works =
      λ i d lt. subst (λ n. HasItsWork IsWork (change_at changes n) (get_or works i d)) (omega arith) (theirs (suc i) d (omega (arith, lt))) in
      let all = behind_all one works
      (brought_is_shard keys_in c work (c.entries ++ next) is added)
      (brought_stands IsWindow keys_in IsWork changes c (change_at changes (c.applied + 1)) work (c.entries ++ next) added windows is.passed (applies c.shards changes c.shard c.applied c.floor is.passed) stands refl first)
      others in
      let many : c.applied + 1 + length works ≡ c.applied + length (work ∷ works) = omega arith in
      subst (λ n. StandsFor IsWindow changes (up_to c n (c.puts ++ (put ++ puts)) (c.entries ++ (next ++ rest)))) many
      (subst₂ (λ ns es. StandsFor IsWindow changes (up_to c (c.applied + 1 + length works) ns es)) (append_assoc c.puts put puts) (append_assoc c.entries next rest) all)

  -- however the entries lie
  pub all_stand : (c : Contents) (works : List (Option W)) (entries : List Entry) → AreAdded c.entries (all_brought keys_in c.applied c.shard c.shards works) entries → IsShard c → StandsFor IsWindow changes c → HaveTheirWorks IsWork changes c.applied works →
      StandsFor IsWindow changes (with_more c (length works) (puts_among c.applied works) entries)
  all_stand c works entries are is stands theirs =
      let added = all_brought keys_in c.applied c.shard c.shards works in
      let behind = behind_all c works is stands theirs in
      record {
        applied = behind.applied;
        puts = behind.puts;
        entries = λ e. (
          λ h. (behind.entries e).0 (⊎_elim (λ old. Contains-append_left c.entries added e old) (λ new. Contains-append_right c.entries added e new) ((are.each e).0 h)),
          λ h. (are.each e).1 (Contains-append_cases c.entries added e ((behind.entries e).1 h)),
        );
      }

pub all_is_shard : {W : Type 0} (keys_in : W → List ℕ) (c : Contents) (works : List (Option W)) (entries : List Entry) → IsShard c → AreAdded c.entries (all_brought keys_in c.applied c.shard c.shards works) entries → IsShard (with_more c (length works) (puts_among c.applied works) entries)
all_is_shard keys_in c works entries is are =
    let passed = is.passed in
    let rise = puts_rise c.puts c.applied works is.rising is.noted in
    record {
      mine = is.mine;
      passed = omega (arith, passed);
      rising = rise.0;
      noted = rise.1;
      known = All-from_contains (λ (e : Entry). e.change ≤ c.applied + length works) entries (λ e h. ⊎_elim
          (λ old. let known = All-contains (λ (e : Entry). e.change ≤ c.applied) c.entries e is.known old in omega (arith, known))
          (λ new. (all_between keys_in c.shard c.shards c.applied works e new).1)
          ((are.each e).0 h));
      different = are.different is.different;
    }
