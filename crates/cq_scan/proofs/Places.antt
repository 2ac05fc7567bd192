-- Places of a corpus, and lists of those with a property, as they grow file by file and token by token.
use Rattle.std.proofs.Common.{◌≡◌, ◌⊎◌, ℕ, ◌+◌, ◌<◌, ◌≤◌, List, [], ◌∷◌, ◌++◌, length, get_or, take, Some, refl, sym, ap, ◌∙◌, subst, subst₂, inl, inr, ⊎_elim, arith}
use Rattle.std.specs.Prelude.{Contains, AllPairs}
use Rattle.std.proofs.lemmas.Bool.{cases_lt}
use Rattle.std.proofs.lemmas.List.{take_all}
use Rattle.std.proofs.lemmas.Option.{slice_get-get_or, get_or_from_slice_get}
use Rattle.cq_base.specs.declared.group.Place.{Place}
use Rattle.cq_clones.specs.Lists.{AreAllInOrder}
use Rattle.cq_clones.specs.Groups.{file_at, IsPlace, IsBefore, word_at, StandsAt}
use Rattle.cq_scan.specs.Found.{AreAllPlaces}
use Rattle.cq_clones.proofs.InOrder.{in_order_same, in_order_push, in_order_none, before_at, take_more_cases}
use Rattle.cq_clones.proofs.Order.{IsBefore-apart}
use Rattle.cq_clones.proofs.Words.{length-word}
use Rattle.cq_clones.proofs.GroupLaws.{within_from_standing}

-- a word of some tokens stands at places of the corpus alone
pub place_of_word : {T : Type 0} (corpus : List (List T)) (word : List T) (z : Place) → 0 < length word → StandsAt corpus word z → IsPlace corpus z
place_of_word corpus word z some stands =
    let w = within_from_standing corpus word z stands some in omega (arith, w, some)

pub place_from_standing : {T : Type 0} (corpus : List (List T)) (p z : Place) (n : ℕ) → p.at + n ≤ length (file_at corpus p.file) → 0 < n → StandsAt corpus (word_at corpus p n) z → IsPlace corpus z
place_from_standing corpus p z n within some stands =
    let len : length (word_at corpus p n) ≡ n = length-word (file_at corpus p.file) p.at n within in
    place_of_word corpus (word_at corpus p n) z (omega (arith, len)) stands

pub same_place : (file at : ℕ) (z : Place) → z.file ≡ file → z.at ≡ at → record { file = file; at = at } ≡ z
same_place file at z e f = grind arith

-- the old places, and those of this file below a token
abbrev pub Upto : (Place → Type 0) → List Place → ℕ → ℕ → Place → Type 0
Upto Is old file at z = Contains old z ⊎ (Is z × (z.file ≡ file) × (z.at < at))

pub upto_none : (Is : Place → Type 0) (old : List Place) (file : ℕ) → AllPairs IsBefore old → AreAllInOrder IsBefore (Upto Is old file 0) old
upto_none Is old file ordered = record {
  ordered = ordered;
  each = λ z. (λ c. inl c, λ h. ⊎_elim (λ c. c) (λ here. absurd (omega (arith, here.2))) h);
}

pub upto_keep : (Is : Place → Type 0) (old xs : List Place) (file at : ℕ) → ((z : Place) → Contains old z → z.file < file) → Is (record { file = file; at = at }) → AreAllInOrder IsBefore (Upto Is old file at) xs
    → AreAllInOrder IsBefore (Upto Is old file (at + 1)) (xs ++ record { file = file; at = at } ∷ [])
upto_keep Is old xs file at earlier holds is =
    let new : Place = record { file = file; at = at } in
    in_order_push IsBefore (Upto Is old file at) (Upto Is old file (at + 1)) xs new is
    (λ z h. ⊎_elim (λ c. inl (earlier z c)) (λ here. inr (here.1, here.2)) h)
    (λ z h. ⊎_elim (λ c. inl c) (λ here. inr (here.0, here.1, omega (arith, here.2))) h)
    (inr (holds, refl, omega arith))
    (λ z h. ⊎_elim (λ c. inl (inl c)) (λ here. ⊎_elim (λ lt. inl (inr (here.0, here.1, lt))) (λ ge. inr (same_place file at z here.1 (omega (arith, here.2)))) (cases_lt z.at at)) h)

pub upto_all : (Is : Place → Type 0) (old xs : List Place) (file at : ℕ) → ((z : Place) → Is z → z.file ≡ file → z.at < at) → AreAllInOrder IsBefore (Upto Is old file at) xs → AreAllInOrder IsBefore (λ z. Contains old z ⊎ (Is z × (z.file ≡ file))) xs
upto_all Is old xs file at below is =
    in_order_same IsBefore (Upto Is old file at) (λ z. Contains old z ⊎ (Is z × (z.file ≡ file))) xs
    (λ z h. ⊎_elim (λ c. inl c) (λ here. inr (here.0, here.1)) h)
    (λ z h. ⊎_elim (λ c. inl c) (λ here. inr (here.0, here.1, below z here.0 here.1)) h)
    is

pub files_none : (Is : Place → Type 0) → AreAllInOrder IsBefore (λ z. Is z × (z.file < 0)) []
files_none Is = in_order_none IsBefore (λ z. Is z × (z.file < 0)) (λ z h. omega (arith, h.1))

pub files_more : (Is : Place → Type 0) (old xs : List Place) (file : ℕ) → AreAllInOrder IsBefore (λ z. Is z × (z.file < file)) old → AreAllInOrder IsBefore (λ z. Contains old z ⊎ (Is z × (z.file ≡ file))) xs → AreAllInOrder IsBefore (λ z. Is z × (z.file < file + 1)) xs
files_more Is old xs file before is =
    in_order_same IsBefore (λ z. Contains old z ⊎ (Is z × (z.file ≡ file))) (λ z. Is z × (z.file < file + 1)) xs
    (λ z h. ⊎_elim (λ c. let b = (before.each z).0 c in (b.0, omega (arith, b.1))) (λ here. (here.0, omega (arith, here.1))) h)
    (λ z h. ⊎_elim (λ lt. inl ((before.each z).1 (h.0, lt))) (λ ge. inr (h.0, omega (arith, h.1))) (cases_lt z.file file))
    is

pub files_all : (Is : Place → Type 0) (xs : List Place) (n : ℕ) → ((z : Place) → Is z → z.file < n) → AreAllInOrder IsBefore (λ z. Is z × (z.file < n)) xs → AreAllInOrder IsBefore Is xs
files_all Is xs n below is =
    in_order_same IsBefore (λ z. Is z × (z.file < n)) Is xs (λ z h. h.0) (λ z h. (h, below z h)) is

-- those of all places at which a word stands are all at which it does
pub standing_of_all : {T : Type 0} (corpus : List (List T)) (p : Place) (n : ℕ) (places found : List Place) → p.at + n ≤ length (file_at corpus p.file) → 0 < n → AreAllPlaces corpus places → AreAllInOrder IsBefore (λ z. Contains places z × StandsAt corpus (word_at corpus p n) z) found
    → AreAllInOrder IsBefore (StandsAt corpus (word_at corpus p n)) found
standing_of_all corpus p n places found within some all is =
    in_order_same IsBefore (λ z. Contains places z × StandsAt corpus (word_at corpus p n) z) (StandsAt corpus (word_at corpus p n)) found
    (λ z h. h.1)
    (λ z stands. ((all.each z).1 (place_from_standing corpus p z n within some stands), stands))
    is

-- ---- places at positions of a list in order

-- the place at a later position is a later place
pub later_place : (xs : List Place) (i j : ℕ) (p q : Place) → i < j → j < length xs → p ≡ get_or xs i p → q ≡ get_or xs j q → AllPairs IsBefore xs → IsBefore p q
later_place xs i j p q lt within p_is q_is ordered =
    subst₂ IsBefore
    (get_or_from_slice_get xs i p q (slice_get-get_or xs i p (omega arith) ∙ ap Some (sym p_is)))
    (sym q_is) (ordered i j q lt within)

-- none of the places up to a position is later than the one there
pub none_later : (xs : List Place) (i : ℕ) (p z : Place) → i < length xs → p ≡ get_or xs i p → AllPairs IsBefore xs → Contains (take (i + 1) xs) z → IsBefore p z → ⊥
none_later xs i p z lt read ordered c later =
    ⊎_elim
    (λ h. IsBefore-apart p z later (before_at IsBefore xs i p z lt read ordered h))
    (λ e. let again = subst (IsBefore p) (sym e) later in IsBefore-apart p p again again)
    (take_more_cases xs i p z lt read c)

-- at the end of a walk all places of the list were met
pub met_all : (xs : List Place) (i : ℕ) (z : Place) → length xs ≤ i → Contains xs z → Contains (take i xs) z
met_all xs i z past c = subst (λ ys. Contains ys z) (sym (take_all i xs past)) c
