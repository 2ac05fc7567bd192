-- A scan that finds no end: no spelling begins at a character that it read.
use Rattle.std.proofs.Common.{◌≡◌, ◌⊎◌, ℕ, zero, suc, ◌+◌, ◌-◌, ◌<◌, ◌≤◌, ◌==◌, ◌&&◌, ◌||◌, not, nat_le, Option, Some, None, true, List, [], ◌∷◌, ◌++◌, inl, inr, length, get_or, take, drop, ⊎_elim, refl, sym, ap, subst, ◌∙◌, arith, length-drop}
use Rattle.std.specs.List.{list_all}
use Rattle.std.proofs.lemmas.Bool.{and_parts, both_ways, cases_lt, eq-eqb, eqb-true, leb-true, not-true, or_cases}
use Rattle.std.proofs.lemmas.List.{drop-take, drop_more, get_or_past, take-append-drop, take-take}
use Rattle.cq_munch.specs.Automata.{Tables, class_at, entry_at, row_from, row_of, HasRow}
use Rattle.cq_munch.specs.Behind.{each_below}
use Rattle.cq_munch.specs.Longest.{LongestAt}
use Rattle.cq_munch.specs.Once.{goes_with, is_within, goes_on, begun_fits, ends_alone, scans_once, FitsOnce, NoneBegins}
use Rattle.cq_munch.specs.Pattern.{Pattern, Spells}
use Rattle.cq_munch.proofs.Fitting.{has_row}
use Rattle.cq_munch.proofs.Front.{LongestAt-same}
use Rattle.cq_munch.proofs.Rowed.{Rowed, rowed_none, rowed_won, rowed_kept, rowed_stopped, rowed_all}
use Rattle.cq_munch.proofs.RowScans.{no_entry}
use Rattle.cq_munch.proofs.Tables.{below_each}

-- ---- what goes on from one state goes on from another

entry_with : (es os : List ℕ) → goes_with es os ≡ true → (k : ℕ) → (get_or es k 0 - 48 ≡ 0) ⊎ (get_or es k 0 ≡ get_or os k 0)
entry_with [] os h k = inl refl
entry_with (e ∷ es) [] h zero = let low = leb-true e 48 (and_parts (nat_le e 48) _ h).0 in inl (omega (arith, low))
entry_with (e ∷ es) [] h (suc k) = entry_with es [] (and_parts (nat_le e 48) _ h).1 k
entry_with (e ∷ es) (o ∷ os) h zero =
    ⊎_elim (λ low. let less = leb-true e 48 low in inl (omega (arith, less))) (λ same. inr (eqb-true e o same)) (or_cases (nat_le e 48) (e == o) (and_parts (nat_le e 48 || (e == o)) _ h).0)
entry_with (e ∷ es) (o ∷ os) h (suc k) = entry_with es os (and_parts (nat_le e 48 || (e == o)) _ h).1 k

module _ (t : Tables) where
  by_entries : (a b : ℕ) → goes_with (get_or t.steps a []) (get_or t.steps b []) ≡ true → ((get_or t.ends a 0 == 0) || (get_or t.ends a 0 == get_or t.ends b 0)) ≡ true
      → (s : List ℕ) → 0 < row_from t (suc a) s → 0 < row_from t (suc b) s
  by_entries a b steps ends [] some =
      ⊎_elim
      (λ none. let is = eqb-true (get_or t.ends a 0) 0 none in absurd (omega (arith, is, some)))
      (λ same. let is = eqb-true (get_or t.ends a 0) (get_or t.ends b 0) same in omega (arith, is, some))
      (or_cases (get_or t.ends a 0 == 0) (get_or t.ends a 0 == get_or t.ends b 0) ends)
  by_entries a b steps ends (c ∷ s) some =
      ⊎_elim
      (λ none. let stopped : row_from t (entry_at t a c) s ≡ 0 = ap (λ e. row_from t e s) none in absurd (omega (arith, stopped, some)))
      (λ same. subst (λ e. 0 < row_from t (e - 48) s) same some)
      (entry_with (get_or t.steps a []) (get_or t.steps b []) steps (class_at t.classes c))

  goes_within : (a b : ℕ) → is_within t a b ≡ true → (s : List ℕ) → 0 < row_from t (suc a) s → 0 < row_from t (suc b) s
  goes_within a b h s some =
      ⊎_elim
      (λ same. subst (λ n. 0 < row_from t (suc n) s) (eqb-true a b same) some)
      (λ both. let parts = and_parts (goes_with (get_or t.steps a []) (get_or t.steps b [])) _ both in by_entries a b parts.0 parts.1 s some)
      (or_cases (a == b) _ h)

  -- ---- the test of the table
  module _ (once : scans_once t ≡ true) where
    tested : (s : ℕ) → s < length t.steps → (ends_alone t s && each_below (length (get_or t.steps 0 [])) (begun_fits t s)) ≡ true
    unfolding scans_once
    tested s low = below_each (length t.steps) (λ n. ends_alone t n && each_below (length (get_or t.steps 0 [])) (begun_fits t n)) once s low

    -- nothing goes on from an end
    stops : (s : ℕ) → 0 < get_or t.ends s 0 → (c : ℕ) → entry_at t s c ≡ 0
    stops s some c =
        no_entry (get_or t.steps s [])
        (⊎_elim
        (λ low.
        ⊎_elim
        (λ none. let is = eqb-true (get_or t.ends s 0) 0 none in absurd (omega (arith, is, some)))
        (λ alone. alone)
        (or_cases (get_or t.ends s 0 == 0) _ (and_parts (ends_alone t s) _ (tested s low)).0))
        (λ high. ap (list_all (λ e. nat_le e 48)) (get_or_past t.steps s [] high))
        (cases_lt s (length t.steps)))
        (class_at t.classes c)

    -- a spelling that begins with a character goes on from the state to which that leads the scan
    module _ (state c next : ℕ) (steps : entry_at t state c ≡ suc next) (unended : get_or t.ends next 0 ≡ 0) (s : List ℕ) where
      by_first : (first : ℕ) → goes_on t first (suc next) ≡ true → 0 < row_from t first s → 0 < row_from t (suc next) s
      by_first zero ok some = absurd (omega (arith, some))
      by_first (suc first) ok some =
          ⊎_elim
          (λ ends. absurd (both_ways (get_or t.ends next 0 == 0) (not-true (get_or t.ends next 0 == 0) ends) (eq-eqb (get_or t.ends next 0) 0 unended)))
          (λ within. goes_within first next within s some)
          (or_cases (not (get_or t.ends next 0 == 0)) _ ok)

      begun_on : 0 < row_of t (c ∷ s) → 0 < row_from t (suc next) s
      begun_on some =
          by_first (entry_at t 0 c)
          (⊎_elim
          (λ low.
          ⊎_elim
          (λ known. subst (λ e. goes_on t (entry_at t 0 c) e ≡ true) steps (below_each (length (get_or t.steps 0 [])) (begun_fits t state) (and_parts (ends_alone t state) _ (tested state low)).1 (class_at t.classes c) known))
          (λ past. let none : entry_at t 0 c ≡ 0 = ap (λ e. e - 48) (get_or_past (get_or t.steps 0 []) (class_at t.classes c) 0 past) in subst (λ e. goes_on t e (suc next) ≡ true) (sym none) refl)
          (cases_lt (class_at t.classes c) (length (get_or t.steps 0 []))))
          (λ high.
          let none : entry_at t state c ≡ 0 = ap (λ row. get_or row (class_at t.classes c) 0 - 48) (get_or_past t.steps state [] high) in
          absurd (omega (arith, none, steps)))
          (cases_lt state (length t.steps)))
          some

-- ---- the scan

-- so many characters are read, and they lead to the state; what begins at one of them goes on from there
pub record Unended (t : Tables) (text : List ℕ) (i state : ℕ) : Type 0 where
  pub rowed : Rowed t text i state None
  pub begun : scans_once t ≡ true → (j : ℕ) → j < i → (s : List ℕ) → HasRow t (get_or text j 0 ∷ s) → HasRow t (take (j + 1) text ++ s)

pub none_read : (t : Tables) (text : List ℕ) → Unended t text 0 0
none_read t text = record { rowed = rowed_none t text; begun = λ once j less. absurd (omega (arith, less)) }

module _ (t : Tables) (text : List ℕ) (i state : ℕ) (so_far : Unended t text i state) where
  pub none_to_end : length text ≤ i → LongestAt (HasRow t) text None
  none_to_end end = rowed_all t text i state None so_far.rowed end

  module _ (c : ℕ) (inside : i < length text) (c_is : get_or text i 0 ≡ c) where
    pub none_stopped : entry_at t state c ≡ 0 → LongestAt (HasRow t) text None
    none_stopped stopped = rowed_stopped t text i state None so_far.rowed c inside c_is stopped

    module _ (next : ℕ) (steps : entry_at t state c ≡ suc next) where
      pub one_more : get_or t.ends next 0 ≡ 0 → Unended t text (i + 1) next
      one_more unended =
          let rowed : Rowed t text (i + 1) next None = rowed_kept t text i state None so_far.rowed c inside c_is next steps unended in
          record {
            rowed = rowed;
            begun = λ once j less s h.
                ⊎_elim
                (λ before. so_far.begun once j before s h)
                (λ last.
                let same : j ≡ i = omega (arith, less, last) in
                let there : HasRow t (c ∷ s) = subst (λ d. HasRow t (d ∷ s)) (ap (λ k. get_or text k 0) same ∙ c_is) h in
                subst (λ k. HasRow t (take (k + 1) text ++ s)) (sym same) (subst (λ n. 0 < n) (sym (rowed.leads s)) (begun_on t once state c next steps unended s there)))
                (cases_lt j i);
          }

      -- a spelling ends there
      pub ended : scans_once t ≡ true → 0 < get_or t.ends next 0 → LongestAt (HasRow t) text (Some (i + 1))
      ended once some =
          let row = get_or t.ends next 0 - 1 in
          let won : Rowed t text (i + 1) next (Some (i + 1, row)) = rowed_won t text i state None so_far.rowed c inside c_is next steps row (omega (arith, some)) in
          ⊎_elim
          (λ more. (rowed_stopped t text (i + 1) next (Some (i + 1, row)) won (get_or text (i + 1) 0) more refl (stops t once next some (get_or text (i + 1) 0))).0)
          (λ end. (rowed_all t text (i + 1) next (Some (i + 1, row)) won end).0)
          (cases_lt (i + 1) (length text))

-- ---- by the pattern

-- what stands from a place on
taken_from : (text : List ℕ) (at m : ℕ) → take at text ++ take m (drop at text) ≡ take (at + m) text
taken_from text at m =
    (λ k. sym (take-take at (at + m) text (omega arith)) k ++ sym (drop-take at m text) k) ∙ take-append-drop at (take (at + m) text)

-- if none is found at the front, none is of those that would go on alike
none_from : (set : List ℕ → Type 0) (text : List ℕ) (i : ℕ) → LongestAt set text None → ((j : ℕ) → j < i → (s : List ℕ) → set (get_or text j 0 ∷ s) → set (take (j + 1) text ++ s))
    → (at : ℕ) → at < i → LongestAt set (drop at text) None
none_from set text i none begun at less zero some within h = absurd (omega arith)
none_from set text i none begun at less (suc m) some within h =
    let left = length-drop at text in
    let here : drop at text ≡ get_or text at 0 ∷ drop (at + 1) text = drop_more text at 0 (omega (arith, left)) in
    let all = begun at less (take m (drop (at + 1) text)) (subst set (ap (take (suc m)) here) h) in
    none (at + 1 + m) (omega arith) (omega (arith, left)) (subst set (taken_from text (at + 1) m) all)

module _ (p : Pattern) (texts : List (List ℕ)) (t : Tables) (right : FitsOnce p texts t) where
  pub by_pattern : (text : List ℕ) (r : Option ℕ) → LongestAt (HasRow t) text r → LongestAt (Spells p) text r
  by_pattern text r h =
      LongestAt-same (HasRow t) (Spells p)
      (λ s. let same = has_row texts t (p ∷ []) right.0 s in (λ k. ⊎_elim (λ own. own) (λ none. absurd none) (same.0 k), λ k. same.1 (inl k)))
      text r h

  pub none_begins : (text : List ℕ) (i state : ℕ) → Unended t text i state → LongestAt (HasRow t) text None → LongestAt (Spells p) text None × NoneBegins p text 0 i
  none_begins text i state so_far none = (by_pattern text None none, λ at from less. by_pattern (drop at text) None (none_from (HasRow t) text i none (so_far.begun right.1) at less))
