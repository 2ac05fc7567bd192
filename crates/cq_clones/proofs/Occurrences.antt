-- A word has a list of all its occurrences, in order.
use Rattle.std.proofs.Common.{◌≡◌, ◌⊎◌, ℕ, zero, suc, ◌<◌, ◌≤◌, List, [], ◌∷◌, ◌++◌, length, refl, sym, ap, subst, inl, inr, ⊎_elim, arith}
use Rattle.std.proofs.lemmas.List.{get_or_past}
use Rattle.cq_base.specs.declared.group.Place.{Place}
use Rattle.cq_clones.specs.Lists.{AreAllInOrder}
use Rattle.cq_clones.specs.Groups.{file_at, IsPlace, IsBefore, word_at, StandsAt}
use Rattle.cq_clones.proofs.InOrder.{in_order_none, in_order_push, in_order_same}
use Rattle.cq_clones.proofs.Words.{within_from_word}
use Rattle.cq_clones.proofs.Decided.{AreDecided, lists_decided}

-- in an earlier file, or in file `f` before token `n`
abbrev IsUpTo : ℕ → ℕ → Place → Type 0
IsUpTo f n z = (z.file < f) ⊎ ((z.file ≡ f) × (z.at < n))

-- where a token stands there is a file
file_known : {T : Type 0} (corpus : List (List T)) (z : Place) → IsPlace corpus z → z.file < length corpus
file_known corpus z inside =
    ⊎_elim
    (λ lt. lt)
    (λ past. let none = ap length (get_or_past corpus z.file [] past) in absurd (omega (arith, none)))
    (below_or_past z.file (length corpus))
  where
    below_or_past : (a b : ℕ) → (a < b) ⊎ (b ≤ a)
    below_or_past a b = grind arith

module _ {T : Type 0} (corpus : List (List T)) (P : Place → Type 0) (decided : (z : Place) → P z ⊎ (P z → ⊥)) (inside : (z : Place) → P z → IsPlace corpus z) where
  -- the places with the property up to one place, in order
  upto : (f n : ℕ) → (xs : List Place) × AreAllInOrder IsBefore (λ z. P z × IsUpTo f n z) xs
  upto zero zero = ([], in_order_none IsBefore (λ z. P z × IsUpTo 0 0 z) (λ z h. ⊎_elim (λ lt. omega arith) (λ here. let lt = here.1 in omega arith) h.1))
  upto (suc f) zero =
      let (xs, is) = upto f (length (file_at corpus f)) in (
        xs,
        in_order_same IsBefore (λ z. P z × IsUpTo f (length (file_at corpus f)) z) (λ z. P z × IsUpTo (suc f) 0 z) xs
            (λ z h. (h.0, ⊎_elim (λ lt. inl (omega arith)) (λ here. inl (omega arith)) h.1))
            (λ z h. (
              h.0,
              ⊎_elim
                  (λ lt. ⊎_elim (λ e. inr (e, subst (λ g. z.at < length (file_at corpus g)) e (inside z h.0))) (λ less. inl less) (last_or_less z.file f lt))
                  (λ here. absurd (omega arith)) h.1,
            ))
            is,
      )
    where
      last_or_less : (a b : ℕ) → a < suc b → (a ≡ b) ⊎ (a < b)
      last_or_less a b lt = grind arith
  upto f (suc n) =
      let (xs, is) = upto f n in
      ⊎_elim
      (λ here. (
        xs ++ y ∷ [],
        in_order_push IsBefore (λ z. P z × IsUpTo f n z) (λ z. P z × IsUpTo f (suc n) z) xs y is
            (λ z h. ⊎_elim (λ lt. inl lt) (λ same. inr same) h.1)
            (λ z h. (h.0, ⊎_elim (λ lt. inl lt) (λ same. inr (same.0, omega arith)) h.1))
            (here, inr (refl, omega arith))
            (λ z h. more z h),
      ))
      (λ not_here. (
        xs,
        in_order_same IsBefore (λ z. P z × IsUpTo f n z) (λ z. P z × IsUpTo f (suc n) z) xs
            (λ z h. (h.0, ⊎_elim (λ lt. inl lt) (λ same. inr (same.0, omega arith)) h.1))
            (λ z h. ⊎_elim (λ p. p) (λ e. absurd (not_here (subst P (sym e) h.0))) (more z h))
            is,
      ))
      (decided y)
    where
      y : Place
      y = record { file = f; at = n }

      more : (z : Place) → P z × IsUpTo f (suc n) z → (P z × IsUpTo f n z) ⊎ (y ≡ z)
      more z (p, where_) = grind arith

  pub all_in_order : (xs : List Place) × AreAllInOrder IsBefore P xs
  all_in_order =
      let (xs, is) = upto (length corpus) 0 in
      (xs, in_order_same IsBefore (λ z. P z × IsUpTo (length corpus) 0 z) P xs (λ z h. h.0) (λ z p. (p, inl (known z p))) is)
    where
      known : (z : Place) → P z → z.file < length corpus
      known z p = file_known corpus z (inside z p)

-- all occurrences of a word of at least one token
pub occurrences_of : {T : Type 0} → AreDecided T → (corpus : List (List T)) (word : List T) → 0 < length word → (xs : List Place) × AreAllInOrder IsBefore (StandsAt corpus word) xs
occurrences_of {T} each corpus word some =
    all_in_order corpus (StandsAt corpus word)
    (λ z. lists_decided T each (word_at corpus z (length word)) word)
    (λ z stands. let within = within_from_word (file_at corpus z.file) z.at (length word) (ap length stands) some in omega (arith, within))
