-- A walk from the last place to the first, with the nearest place of each mark.
use Rattle.std.proofs.Common.{◌≡◌, ℕ, ◌+◌, ◌-◌, ◌<◌, ◌≤◌, Bool, cond, eqb, List, length, get_or, set, replicate, sym, ap, ◌∙◌, subst, ⊎_elim, arith}
use Rattle.std.proofs.lemmas.Bool.{cases_eq, eq-eqb, ne_eqb, cond-true, cond-false}
use Rattle.std.proofs.lemmas.List.{length-set, length-replicate, get_or-replicate, get_or-set_same, get_or-set_other}
use Rattle.cq_func.specs.Places.{first_place, place_above}
use Rattle.cq_func.specs.Tables.{AreAbove, AreFirst}
use Rattle.cq_func.proofs.Least.{first_place-step, first_place-none}

-- for each mark the first place from `at` on that has it
pub record AreNearest (marks : List ℕ) (width at : ℕ) (nearest : List ℕ) : Type 0 where
  pub long : length nearest ≡ width
  pub each : (v : ℕ) → v < width → get_or nearest v 0 ≡ first_place (λ j. eqb (get_or marks j 0) v) at (length marks - at)

pub nearest_none : (marks : List ℕ) (width n at : ℕ) → n ≡ length marks → at ≡ length marks → AreNearest marks width at (replicate width n)
nearest_none marks width n at is behind = record {
  long = length-replicate width n;
  each = λ v below.
      get_or-replicate width v n 0 below ∙ (is ∙ sym behind)
      ∙ sym (first_place-none (λ j. eqb (get_or marks j 0) v) at (length marks - at) (omega arith));
}

at_mark : (marks nearest : List ℕ) (m v at rest first : ℕ) → m < length nearest → get_or nearest v 0 ≡ rest → first ≡ cond (eqb m v) at rest → get_or (set nearest m at) v 0 ≡ first
at_mark marks nearest m v at rest first inside was is =
    ⊎_elim
    (λ (e : m ≡ v). ap (λ k. get_or (set nearest m at) k 0) (sym e) ∙ get_or-set_same nearest m at 0 inside ∙ sym (is ∙ cond-true (eqb m v) at rest (eq-eqb m v e)))
    (λ (ne : m ≡ v → ⊥). get_or-set_other nearest m v at 0 (λ (e : v ≡ m). ne (sym e)) ∙ was ∙ sym (is ∙ cond-false (eqb m v) at rest (ne_eqb m v ne)))
    (cases_eq m v)

pub nearest_more : (marks : List ℕ) (width at next : ℕ) (nearest : List ℕ) (m : ℕ) → next ≡ at + 1 → at < length marks → m ≡ get_or marks at 0 → m < width → AreNearest marks width next nearest → AreNearest marks width at (set nearest m at)
nearest_more marks width at next nearest m behind inside is below before = record {
  long = length-set nearest m at ∙ before.long;
  each = λ v small.
      let test : ℕ → Bool = λ j. eqb (get_or marks j 0) v in
      let rest = first_place test (at + 1) (length marks - next) in
      let was : get_or nearest v 0 ≡ rest = before.each v small ∙ ap (λ k. first_place test k (length marks - next)) behind in
      let now : first_place test at (length marks - at) ≡ cond (eqb (get_or marks at 0) v) at rest = first_place-step test at (length marks - at) (length marks - next) (omega arith) in
      let long = before.long in
      at_mark marks nearest m v at rest _ (omega (arith, long)) was (now ∙ ap (λ k. cond (eqb k v) at rest) (sym is));
}

-- from `at` on each place has found what it looks for
pub record AreFound (wanted marks : List ℕ) (at : ℕ) (found : List ℕ) : Type 0 where
  pub long : length found ≡ length marks
  pub each : (k : ℕ) → at ≤ k → k < length marks → get_or found k 0 ≡ place_above (λ j. eqb (get_or marks j 0) (get_or wanted k 0)) k (length marks)

pub found_none : (wanted marks : List ℕ) (n at : ℕ) → at ≡ length marks → AreFound wanted marks at (replicate (length marks) n)
found_none wanted marks n at behind = record {
  long = length-replicate (length marks) n;
  each = λ k low high. absurd (omega arith);
}

pub found_more : (wanted marks : List ℕ) (width at next : ℕ) (nearest found : List ℕ) (w f : ℕ) → next ≡ at + 1 → at < length marks → w ≡ get_or wanted at 0 → w < width → f ≡ get_or nearest w 0
    → AreNearest marks width next nearest → AreFound wanted marks next found → AreFound wanted marks at (set found at f)
found_more wanted marks width at next nearest found w f behind inside is below got near before = record {
  long = length-set found at f ∙ before.long;
  each = λ k low high.
      ⊎_elim
      (λ (e : at ≡ k).
      let long = before.long in
      subst (λ i. get_or (set found at f) i 0 ≡ place_above (λ j. eqb (get_or marks j 0) (get_or wanted i 0)) i (length marks)) e
      (get_or-set_same found at f 0 (omega (arith, long)) ∙ got ∙ near.each w below
      ∙ ap (λ v. first_place (λ j. eqb (get_or marks j 0) v) next (length marks - next)) is
      ∙ ap (λ i. first_place (λ j. eqb (get_or marks j 0) (get_or wanted at 0)) i (length marks - i)) behind))
      (λ (ne : at ≡ k → ⊥). get_or-set_other found at k f 0 (λ (e : k ≡ at). ne (sym e)) ∙ before.each k (omega arith) high)
      (cases_eq at k);
}

pub found_all : (wanted marks : List ℕ) (at : ℕ) (found : List ℕ) → at ≡ 0 → AreFound wanted marks at found → AreAbove wanted marks found
found_all wanted marks at found first all = record { long = let long = all.long in omega (arith, long); each = λ k below. all.each k (omega arith) below }

pub first_all : (marks : List ℕ) (width at : ℕ) (first : List ℕ) → at ≡ 0 → AreNearest marks width at first → AreFirst marks width first
first_all marks width at first begins all = record {
  long = let long = all.long in omega (arith, long);
  each = λ v below. all.each v below ∙ ap (λ i. first_place (λ j. eqb (get_or marks j 0) v) i (length marks - i)) begins ∙ ap (first_place (λ j. eqb (get_or marks j 0) v) 0) (omega arith);
}
