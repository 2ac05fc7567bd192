-- Runs of which some were cleared.
use Rattle.std.proofs.Common.{◌≡◌, ℕ, suc, ◌<◌, List, [], ◌∷◌, ◌++◌, length, get_or, set, refl, sym, ap, ap₂, ◌∙◌, subst, subst₂, inl, inr, ⊎_elim, arith}
use Rattle.std.specs.Prelude.{Contains}
use Rattle.std.proofs.lemmas.List.{length-set, get_or-set_same, get_or-set_other, get_or_default}
use Rattle.std.proofs.lemmas.Bool.{cases_eq}
use Rattle.std.proofs.lemmas.List.Elements.{Contains-append_left, Contains-append_right, Contains-append_cases, filter-append}
use Rattle.std.proofs.lemmas.List.Kept.{AllPairs-filter}
use Rattle.cq_base.specs.declared.entry.Entry.{Entry}
use Rattle.cq_shard.specs.Runs.{RowBefore, IsRun, Precedes, AreRuns, entries_in}
use Rattle.cq_shard.specs.Stores.{those_of, IsLeft, AreLeft}
use Rattle.cq_shard.specs.Tables.{is_among}
use Rattle.cq_shard.proofs.Storing.{from_those, those_again}

-- ---- one run

left_has : (changes : List ℕ) (old new : List Entry) → IsLeft changes old new → (e : Entry) → Contains new e → Contains old e
left_has changes old new is e c = ⊎_elim (λ same. subst (λ es. Contains es e) same c) (λ kept. (from_those changes old e (subst (λ es. Contains es e) kept c)).0) is

left_those : (changes : List ℕ) (old new : List Entry) → IsLeft changes old new → those_of changes new ≡ those_of changes old
left_those changes old new is = ⊎_elim (λ same. ap (those_of changes) same) (λ kept. ap (those_of changes) kept ∙ those_again changes old) is

left_run : (changes : List ℕ) (old new : List Entry) → IsLeft changes old new → IsRun old → IsRun new
left_run changes old new is run = ⊎_elim (λ same. subst IsRun (sym same) run) (λ kept. subst IsRun (sym kept) (AllPairs-filter RowBefore (λ (e : Entry). is_among changes e.change) old run)) is

left_again : (changes : List ℕ) (old new : List Entry) → IsLeft changes old new → IsLeft changes old (those_of changes new)
left_again changes old new is = inr (left_those changes old new is)

-- ---- all runs

pub left_first : (changes : List ℕ) (runs : List (List Entry)) → AreLeft changes runs runs
left_first changes runs = record { number = refl; each = λ i within. inl refl }

pub left_next : (changes : List ℕ) (old runs : List (List Entry)) (i : ℕ) (run kept : List Entry) → AreLeft changes old runs → i < length runs → run ≡ get_or runs i [] → kept ≡ those_of changes run → AreLeft changes old (set runs i kept)
left_next changes old runs i run kept are within is cleared = record {
  number = length-set runs i kept ∙ are.number;
  each = λ j lt. ⊎_elim
      (λ same. subst (λ k. IsLeft changes (get_or old k []) (get_or (set runs i kept) k [])) (sym same)
      (subst (IsLeft changes (get_or old i [])) (sym (get_or-set_same runs i kept [] within ∙ cleared ∙ ap (those_of changes) is))
      (left_again changes (get_or old i []) (get_or runs i []) (are.each i (subst (λ k. k < length old) same lt)))))
      (λ other. subst (IsLeft changes (get_or old j [])) (sym (get_or-set_other runs i j kept [] other)) (are.each j lt))
      (cases_eq j i);
}

pub left_stand : (changes : List ℕ) (old new : List (List Entry)) → AreLeft changes old new → AreRuns old → AreRuns new
left_stand changes old new are stand =
    let number = are.number in
    record {
      sorted = λ k d within.
          let lt : k < length old = omega (arith, within, number) in
          subst IsRun (get_or_default new k [] d within) (left_run changes (get_or old k []) (get_or new k []) (are.each k lt) (stand.sorted k [] lt));
      follow = λ i j d less within.
          let lt : j < length old = omega (arith, within, number) in
          let first : i < length old = omega (arith, less, lt) in
          subst₂ Precedes (get_or_default new i [] d (omega (arith, less, within))) (get_or_default new j [] d within)
          (λ a b here there. stand.follow i j [] less lt a b
          (left_has changes (get_or old i []) (get_or new i []) (are.each i first) a here)
          (left_has changes (get_or old j []) (get_or new j []) (are.each j lt) b there));
    }

left_tail : (changes : List ℕ) (x y : List Entry) (xs ys : List (List Entry)) → AreLeft changes (x ∷ xs) (y ∷ ys) → AreLeft changes xs ys
left_tail changes x y xs ys are = let number = are.number in record { number = omega (arith, number); each = λ i within. are.each (suc i) (omega (arith, within)) }

left_head : (changes : List ℕ) (x y : List Entry) (xs ys : List (List Entry)) → AreLeft changes (x ∷ xs) (y ∷ ys) → IsLeft changes x y
left_head changes x y xs ys are = are.each 0 (omega arith)

pub entries_those : (changes : List ℕ) (old new : List (List Entry)) → AreLeft changes old new → those_of changes (entries_in new) ≡ those_of changes (entries_in old)
entries_those changes [] [] are = refl
entries_those changes [] (y ∷ ys) are = let number = are.number in absurd (omega (arith, number))
entries_those changes (x ∷ xs) [] are = let number = are.number in absurd (omega (arith, number))
entries_those changes (x ∷ xs) (y ∷ ys) are =
    let of = λ (e : Entry). is_among changes e.change in
    filter-append of y (entries_in ys)
    ∙ ap₂ (λ (xs ys : List Entry). xs ++ ys) (left_those changes x y (left_head changes x y xs ys are)) (entries_those changes xs ys (left_tail changes x y xs ys are))
    ∙ sym (filter-append of x (entries_in xs))

pub entries_fewer : (changes : List ℕ) (old new : List (List Entry)) → AreLeft changes old new → (e : Entry) → Contains (entries_in new) e → Contains (entries_in old) e
entries_fewer changes [] [] are e c = c
entries_fewer changes [] (y ∷ ys) are e c = let number = are.number in absurd (omega (arith, number))
entries_fewer changes (x ∷ xs) [] are e c = let number = are.number in absurd (omega (arith, number))
entries_fewer changes (x ∷ xs) (y ∷ ys) are e c = ⊎_elim
    (λ h. Contains-append_left x (entries_in xs) e (left_has changes x y (left_head changes x y xs ys are) e h))
    (λ h. Contains-append_right x (entries_in xs) e (entries_fewer changes xs ys (left_tail changes x y xs ys are) e h))
    (Contains-append_cases y (entries_in ys) e c)
