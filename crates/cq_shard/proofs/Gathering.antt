-- Runs, and their entries run by run.
use Rattle.std.proofs.Common.{◌≡◌, ◌≢◌, ◌⊎◌, ◌↔◌, ℕ, ◌+◌, ◌-◌, ◌<◌, ◌≤◌, List, [], ◌∷◌, ◌++◌, length, take, drop, filter, get_or, sym, ap, ◌∙◌, subst, inl, inr, ⊎_elim, arith}
use Rattle.std.specs.Prelude.{AllPairs, Contains}
use Rattle.std.proofs.lemmas.List.{take_more, drop_more, take_all, flat_map_more}
use Rattle.std.proofs.lemmas.List.Elements.{All-contains, All-push, All-head, All-tail, Contains-get_or, Contains-append_left, Contains-append_right, Contains-append_cases, Contains-push, filter-append}
use Rattle.std.proofs.lemmas.List.Quantifiers.{all_pairs_push}
use Rattle.cq_base.specs.declared.entry.Entry.{Entry}
use Rattle.cq_base.proofs.Lists.{Contains-here, Contains-there, Contains-cases, Contains-nil, AllPairs-head, AllPairs-tail, AllPairs-nil, AllPairs-append, AllPairs-weaker, All-from_contains, AllPairs-front}
use Rattle.cq_clones.specs.Windows.{EntryBefore}
use Rattle.cq_shard.specs.Shard.{is_asked}
use Rattle.cq_shard.specs.Runs.{RowBefore, IsRun, Precedes, AreRuns, AreRunsWith, IsMerged, AreDifferent, AreAdded, entries_in}
use Rattle.cq_shard.proofs.RowOrder.{RowBefore-different, RowBefore-same_key}

-- ---- pairs of a list in two parts

pub pairs_across : {X : Type 0} (R : X → X → Type 0) (xs ys : List X) (x y : X) → AllPairs R (xs ++ ys) → Contains xs x → Contains ys y → R x y
pairs_across R [] ys x y h here there = absurd (Contains-nil x here)
pairs_across R (w ∷ xs) ys x y h here there =
    ⊎_elim
    (λ e. subst (λ v. R v y) e (AllPairs-head R w y (xs ++ ys) h (Contains-append_right xs ys y there)))
    (λ later. pairs_across R xs ys x y (AllPairs-tail R w (xs ++ ys) h) later there)
    (Contains-cases w x xs here)

-- ---- the entries of runs

in_some : (runs : List (List Entry)) (e : Entry) → Contains (entries_in runs) e → (run : List Entry) × Contains runs run × Contains run e
in_some [] e c = absurd (Contains-nil e c)
in_some (r ∷ rs) e c =
    ⊎_elim
    (λ here. (r, Contains-here r rs, here))
    (λ later. let found = in_some rs e later in (found.0, Contains-there r found.0 rs found.1, found.2))
    (Contains-append_cases r (entries_in rs) e c)

in_all : (runs : List (List Entry)) (run : List Entry) (e : Entry) → Contains runs run → Contains run e → Contains (entries_in runs) e
in_all [] run e there c = absurd (Contains-nil run there)
in_all (r ∷ rs) run e there c =
    ⊎_elim
    (λ same. Contains-append_left r (entries_in rs) e (subst (λ es. Contains es e) (sym same) c))
    (λ later. Contains-append_right r (entries_in rs) e (in_all rs run e later c))
    (Contains-cases r run rs there)

one_more : (runs : List (List Entry)) (run : List Entry) → entries_in runs ++ run ≡ entries_in (runs ++ run ∷ [])
one_more runs run = flat_map_more (λ (r : List Entry). r) [] runs run

with_last : (runs : List (List Entry)) (run : List Entry) (e : Entry) → Contains (entries_in (runs ++ run ∷ [])) e → Contains (entries_in runs) e ⊎ Contains run e
with_last runs run e c = Contains-append_cases (entries_in runs) run e (subst (λ es. Contains es e) (sym (one_more runs run)) c)

in_with_last : (runs : List (List Entry)) (run : List Entry) (e : Entry) → Contains (entries_in runs) e ⊎ Contains run e → Contains (entries_in (runs ++ run ∷ [])) e
in_with_last runs run e c = subst (λ es. Contains es e) (one_more runs run) (⊎_elim (λ h. Contains-append_left (entries_in runs) run e h) (λ h. Contains-append_right (entries_in runs) run e h) c)

-- a relation of an entry to a later one of its run, and to one of a later change
runs_pairs : (R : Entry → Entry → Type 0) → ((a b : Entry) → RowBefore a b → R a b) → ((a b : Entry) → a.change < b.change → R a b) → (runs : List (List Entry)) → AreRuns runs → AllPairs R (entries_in runs)
runs_pairs R inside across [] are = AllPairs-nil R
runs_pairs R inside across (r ∷ rs) are =
    AllPairs-append R r (entries_in rs)
    (AllPairs-weaker RowBefore R r (λ a b c d h. inside a b h) (All-head IsRun r rs are.sorted))
    (runs_pairs R inside across rs (record { sorted = All-tail IsRun r rs are.sorted; follow = AllPairs-tail Precedes r rs are.follow }))
    (λ a b here later. let found = in_some rs b later in across a b (AllPairs-head Precedes r found.0 rs are.follow found.1 a b here found.2))

earlier_differs : (a b : Entry) → a.change < b.change → a ≢ b
earlier_differs a b lt same = let at : a.change ≡ b.change = ap (λ (e : Entry). e.change) same in omega (arith, lt, at)

pub runs_different : (runs : List (List Entry)) → AreRuns runs → AreDifferent (entries_in runs)
runs_different runs are = runs_pairs (λ a b. a ≢ b) RowBefore-different earlier_differs runs are

-- the entries of one key come by change and place
pub runs_by_key : (runs : List (List Entry)) → AreRuns runs → AllPairs (λ a b. a.key ≡ b.key → EntryBefore a b) (entries_in runs)
runs_by_key runs are = runs_pairs (λ a b. a.key ≡ b.key → EntryBefore a b) RowBefore-same_key (λ a b lt same. inl lt) runs are

-- ---- a run more

pub runs_more : (runs : List (List Entry)) (run added : List Entry) → AreRuns runs → IsRun run → ((e : Entry) → Contains run e → Contains added e) → Precedes (entries_in runs) added → AreRuns (runs ++ run ∷ [])
runs_more runs run added are sorted of follows = record {
  sorted = All-push IsRun runs run are.sorted sorted;
  follow = all_pairs_push Precedes runs run are.follow (λ k d lt a b here there. follows a b (in_all runs (get_or runs k d) a (Contains-get_or runs k d lt) here) (of b there));
}

pub gathering_first : (runs : List (List Entry)) (run : List Entry) → AreRuns (runs ++ run ∷ []) → AreRunsWith runs run (take (length runs) runs ++ run ∷ [])
gathering_first runs run are =
    subst (λ (front : List (List Entry)). AreRunsWith runs run (front ++ run ∷ [])) (sym (take_all (length runs) runs (omega arith)))
    (record { stand = are; each = λ e. (with_last runs run e, in_with_last runs run e) })

-- the last two
pub last_two : (xs : List (List Entry)) (a b : List Entry) → AreRuns ((xs ++ a ∷ []) ++ b ∷ []) → IsRun a × IsRun b × Precedes a b
last_two xs a b are =
    let front = xs ++ a ∷ [] in (
      All-contains IsRun (front ++ b ∷ []) a are.sorted (Contains-append_left front (b ∷ []) a (Contains-push xs a)),
      All-contains IsRun (front ++ b ∷ []) b are.sorted (Contains-push front b),
      pairs_across Precedes front (b ∷ []) a b are.follow (Contains-push xs a) (Contains-here b []),
    )

-- and they merged
last_merged : (xs : List (List Entry)) (a b c : List Entry) → AreRuns ((xs ++ a ∷ []) ++ b ∷ []) → IsMerged a b c → AreRuns (xs ++ c ∷ [])
last_merged xs a b c are m =
    let front = xs ++ a ∷ [] in
    let kept : AllPairs Precedes front = AllPairs-front Precedes front (b ∷ []) are.follow in
    record {
      sorted = All-push IsRun xs c (All-from_contains IsRun xs (λ r h. All-contains IsRun (front ++ b ∷ []) r are.sorted (Contains-append_left front (b ∷ []) r (Contains-append_left xs (a ∷ []) r h)))) m.sorted;
      follow = all_pairs_push Precedes xs c (AllPairs-front Precedes xs (a ∷ []) kept) (λ k d lt e f here there.
          let r = get_or xs k d in
          let of : Contains xs r = Contains-get_or xs k d lt in
          ⊎_elim
          (λ h. pairs_across Precedes xs (a ∷ []) r a kept of (Contains-here a []) e f here h)
          (λ h. pairs_across Precedes front (b ∷ []) r b are.follow (Contains-append_left xs (a ∷ []) r of) (Contains-here b []) e f here h)
          ((m.each f).0 there));
    }

module _ (runs : List (List Entry)) (added : List Entry) (kept : ℕ) (d b : List Entry) (some : 0 < kept) (within : kept ≤ length runs) (have : AreRunsWith runs added (take kept runs ++ b ∷ [])) where
  front : take kept runs ≡ take (kept - 1) runs ++ get_or runs (kept - 1) d ∷ []
  front = ap (λ n. take n runs) (next kept some) ∙ take_more runs (kept - 1) d (omega (arith, some, within))
    where
      next : (n : ℕ) → 0 < n → n ≡ (n - 1) + 1
      next n some = omega (arith, some)

  behind : AreRunsWith runs added ((take (kept - 1) runs ++ get_or runs (kept - 1) d ∷ []) ++ b ∷ [])
  behind = subst (λ (rs : List (List Entry)). AreRunsWith runs added (rs ++ b ∷ [])) front have

  pub to_merge : IsRun (get_or runs (kept - 1) d) × IsRun b × Precedes (get_or runs (kept - 1) d) b
  to_merge = last_two (take (kept - 1) runs) (get_or runs (kept - 1) d) b behind.stand

  pub gathering_next : (c : List Entry) → IsMerged (get_or runs (kept - 1) d) b c → AreRunsWith runs added (take (kept - 1) runs ++ c ∷ [])
  gathering_next c m =
      let rs = take (kept - 1) runs in
      let r = get_or runs (kept - 1) d in
      record {
        stand = last_merged rs r b c behind.stand m;
        each = λ e. (
          λ h. (behind.each e).0 (in_with_last (rs ++ r ∷ []) b e (⊎_elim
              (λ old. inl (in_with_last rs r e (inl old)))
              (λ new. ⊎_elim (λ l. inl (in_with_last rs r e (inr l))) (λ more. inr more) ((m.each e).0 new))
              (with_last rs c e h))),
          λ h. in_with_last rs c e (⊎_elim
              (λ l. ⊎_elim (λ old. inl old) (λ also. inr ((m.each e).1 (inl also))) (with_last rs r e l))
              (λ more. inr ((m.each e).1 (inr more)))
              (with_last (rs ++ r ∷ []) b e ((behind.each e).1 h))),
        );
      }

-- what a shard is told of it
pub added_from : (runs more : List (List Entry)) (run added : List Entry) → ((e : Entry) → Contains run e ↔ Contains added e) → AreRunsWith runs run more → AreAdded (entries_in runs) added (entries_in more)
added_from runs more run added same are = record {
  each = λ e. (
    λ h. ⊎_elim (λ old. inl old) (λ new. inr ((same e).0 new)) ((are.each e).0 h),
    λ h. (are.each e).1 (⊎_elim (λ old. inl old) (λ new. inr ((same e).1 new)) h),
  );
  different = λ old. runs_different more are.stand;
}

-- ---- what is asked of them, run by run

pub asked_next : (key : ℕ) (live : List ℕ) (runs : List (List Entry)) (i : ℕ) (d : List Entry) → i < length runs →
    filter (is_asked key live) (entries_in (drop i runs)) ≡ filter (is_asked key live) (get_or runs i d) ++ filter (is_asked key live) (entries_in (drop (i + 1) runs))
asked_next key live runs i d within =
    ap (λ (rs : List (List Entry)). filter (is_asked key live) (entries_in rs)) (drop_more runs i d within)
    ∙ filter-append (is_asked key live) (get_or runs i d) (entries_in (drop (i + 1) runs))
