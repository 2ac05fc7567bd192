-- What is held at a higher floor.
use Rattle.std.proofs.Common.{◌≡◌, ℕ, ◌<◌, ◌≤◌, Bool, true, false, not, ◌||◌, ◌&&◌, nat_eq, nat_le, nat_lt, List, [], length, get_or, refl, sym, ap, ◌∙◌, subst, ⊎_elim, append-nil, arith}
use Rattle.std.specs.Prelude.{◌↔◌, AllPairs, Contains}
use Rattle.std.specs.BTreeMap.{BTreeMap, keys, get}
use Rattle.std.specs.List.{range_with_len}
use Rattle.std.proofs.lemmas.Bool.{cases_lt, cases_eq, and_parts, and_from, leb-true, le-leb, ltb-true, lt-ltb, eqb-true, eq-eqb, false_from_ne_true, false≢true}
use Rattle.std.proofs.lemmas.List.{get_or_default}
use Rattle.std.proofs.lemmas.List.Elements.{All-contains, All-filter}
use Rattle.std.proofs.lemmas.List.Folds.{Any-from_list_any, list_any_at}
use Rattle.std.proofs.lemmas.List.Kept.{AllPairs-filter}
use Rattle.cq_base.proofs.Lists.{Contains-filter, Contains-from_filter, All-from_contains}
use Rattle.cq_base.specs.declared.change.Change.{Change}
use Rattle.cq_base.specs.declared.lang.Lang.{Lang}
use Rattle.cq_history.specs.Changes.{IsNumber}
use Rattle.cq_history.specs.Gone.{IsGone, is_gone, kept_numbers}
use Rattle.cq_history.specs.State.{Slot}
use Rattle.cq_history.proofs.Forgetting.{gone_is, stays_gone, in_range}
use Rattle.cq_history.proofs.Keeping.{filter_same_in, gone_higher}
use Rattle.cq_kept.specs.Accepted.{is_over_at, not_over, over_behind, IsPartOf, IsHeldAs, HoldsKept}
use Rattle.cq_kept.specs.Over.{IsNoLater, AreOthers, IsOverAt, AreNoted}
use Rattle.cq_kept.specs.Presence.{IsPresence, key_cmp, project_cmp}
use Rattle.cq_kept.specs.Slots.{changes_of}
use Rattle.cq_kept.specs.declared.kept.Kept.{Kept}
use Rattle.cq_kept.specs.declared.over.Over.{Over}
use Rattle.cq_kept.specs.declared.presence.Presence.{Presence}
use Rattle.cq_kept.proofs.Letting.{filter_twice}

-- what is computed of the notes is what is said
over_is : (all : List Over) (floor n : ℕ) → (is_over_at all floor n ≡ true) ↔ IsOverAt all floor n
over_is all floor n = (
  λ h.
      let (k, o, lt, at, found) = Any-from_list_any test all h in
      let both = and_parts (nat_le o.by floor) (nat_eq o.number n) found in
      (o, (k, lt, at), leb-true o.by floor both.0, eqb-true o.number n both.1),
  λ (o, (k, lt, at), low, is).
      list_any_at test all k o lt (subst (λ (p : Over). test p ≡ true) (sym at) (and_from (nat_le o.by floor) (nat_eq o.number n) (le-leb o.by floor low) (eq-eqb o.number n is))),
)
  where
    test : Over → Bool
    test o = nat_le o.by floor && nat_eq o.number n

-- a change is noted once
only_once : (all : List Over) → AllPairs AreOthers all → (a b : Over) → Contains all a → Contains all b → a.number ≡ b.number → a ≡ b
only_once all once a b (i, below, here) (j, under, there) same =
    ⊎_elim
    (λ (one : i ≡ j). sym here ∙ ap (λ k. get_or all k a) one ∙ get_or_default all j a b under ∙ there)
    (λ other. ⊎_elim
    (λ (lt : i < j). absurd (once i j a lt under (ap (λ (o : Over). o.number) here ∙ same ∙ sym (ap (λ (o : Over). o.number) (get_or_default all j a b under ∙ there)))))
    (λ (ge : j ≤ i). absurd (once j i a (omega (arith, ge, other)) below (ap (λ (o : Over). o.number) (get_or_default all j a b under ∙ there) ∙ sym same ∙ sym (ap (λ (o : Over). o.number) here))))
    (cases_lt i j))
    (cases_eq i j)

module _ (changes : List Change) (low floor : ℕ) (le : low ≤ floor) where
  gone_then : (n : ℕ) → IsGone changes low n → IsGone changes floor n
  gone_then n gone = subst (λ cs. IsGone cs floor n) (append-nil changes) (stays_gone changes [] low floor n le gone)

  module _ (over : List Over) (are : AreNoted changes low over) where
    -- what is gone at the floor was gone before, or is over now
    gone_or_over : (n : ℕ) → IsNumber changes n → is_gone changes floor n ≡ (is_gone changes low n || is_over_at over floor n)
    gone_or_over n number = by_low (is_gone changes low n) refl
      where
        by_over : (b : Bool) → is_over_at over floor n ≡ b → is_gone changes low n ≡ false → is_gone changes floor n ≡ b
        by_over true is kept = (gone_is changes floor n number).1 ((are.each floor n le).0 ((over_is over floor n).0 is)).0
        by_over false is kept = false_from_ne_true (is_gone changes floor n) (λ gone.
            false≢true (sym is ∙ (over_is over floor n).1 ((are.each floor n le).1 ((gone_is changes floor n number).0 gone, λ early. false≢true (sym kept ∙ (gone_is changes low n number).1 early)))))

        by_low : (b : Bool) → is_gone changes low n ≡ b → is_gone changes floor n ≡ (is_gone changes low n || is_over_at over floor n)
        by_low true is = gone_higher changes low floor n le is ∙ sym (ap (λ b. b || is_over_at over floor n) is)
        by_low false is = by_over (is_over_at over floor n) refl is ∙ sym (ap (λ b. b || is_over_at over floor n) is)

    pub numbers_then : not_over over floor (kept_numbers changes low) ≡ kept_numbers changes floor
    numbers_then =
        let numbers = range_with_len 1 (length changes) in
        let either : ℕ → Bool = λ (n : ℕ). is_gone changes low n || is_over_at over floor n in
        filter_twice (λ n. is_gone changes low n) (λ n. is_over_at over floor n) either (λ n. refl) numbers
        ∙ filter_same_in (λ (n : ℕ). not (either n)) (λ (n : ℕ). not (is_gone changes floor n)) numbers
        (All-from_contains (λ n. not (either n) ≡ not (is_gone changes floor n)) numbers (λ n has. ap not (sym (gone_or_over n (in_range (length changes) n has)))))

    pub notes_then : AreNoted changes floor (over_behind floor over)
    notes_then = record {
      in_order = AllPairs-filter IsNoLater late over are.in_order;
      once = AllPairs-filter AreOthers late over are.once;
      above = All-from_contains (λ o. floor < o.by) (over_behind floor over) (λ o has. ltb-true floor o.by (Contains-from_filter late over o has).1);
      known = All-filter late (λ (o : Over). o.by ≤ length changes) over are.known;
      each = λ higher n up. (
        λ (o, has, within, is).
            let there = Contains-from_filter late over o has in
            let gone = (are.each higher n (omega (arith, le, up))).0 (o, there.0, within, is) in (
              gone.0,
              λ now.
                  let (p, early_there, early, same) = (are.each floor n le).1 (now, gone.1) in
                  let one : o ≡ p = only_once over are.once o p there.0 early_there (is ∙ sym same) in
                  let at : o.by ≡ p.by = ap (λ (x : Over). x.by) one in
                  let past = ltb-true floor o.by there.1 in
                  omega (arith, at, past, early),
            ),
        λ (gone, kept).
            let (o, has, within, is) = (are.each higher n (omega (arith, le, up))).1 (gone, λ early. kept (gone_then n early)) in
            let past : floor < o.by = ⊎_elim (λ (lt : floor < o.by). lt) (λ ge. absurd (kept ((are.each floor n le).0 (o, has, ge, is)).0)) (cases_lt floor o.by) in
            (o, Contains-filter late over o has (lt-ltb floor o.by past), within, is),
      );
    }
      where
        late : Over → Bool
        late o = nat_lt floor o.by

pub presence_then : (changes : List Change) (low floor : ℕ) → low ≤ floor → (there new : Presence) → IsPresence changes low there → new.puts ≡ there.puts → new.gates ≡ there.gates → new.over.items ≡ over_behind floor there.over.items → IsPresence changes floor new
presence_then changes low floor le there new is puts gates over = record {
  puts = λ k. ap (λ m. get key_cmp m k) puts ∙ is.puts k;
  gates = λ k. ap (λ m. get project_cmp m k) gates ∙ is.gates k;
  over = subst (AreNoted changes floor) (sym over) (notes_then changes low floor le there.over.items is.over);
}

pub holds_then : {W : Type 0} (IsWork : Lang → List ℕ → W → Type 0) (slots : List Slot) (low floor : ℕ) → low ≤ floor → (over : List Over) → AreNoted (changes_of slots) low over → (kept new : BTreeMap ℕ (Kept W)) →
    HoldsKept IsWork slots low kept → keys new ≡ not_over over floor (keys kept) → IsPartOf kept new → HoldsKept IsWork slots floor new
holds_then IsWork slots low floor le over are kept new holds numbers part = record {
  numbers = numbers ∙ ap (not_over over floor) holds.numbers ∙ numbers_then (changes_of slots) low floor le over are;
  each = All-from_contains (IsHeldAs IsWork slots) new.entries (λ e has. All-contains (IsHeldAs IsWork slots) kept.entries e holds.each (part e has));
}
