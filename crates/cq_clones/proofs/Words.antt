-- Words at places of a corpus, by their tokens.
use Rattle.std.proofs.Common.{◌≡◌, ℕ, ◌+◌, ◌<◌, ◌≤◌, List, length, get_or, take, drop, slice_get, Some, is_some, sym, ap, ⊎_elim, arith, ◌∙◌, length-take, length-drop}
use Rattle.std.proofs.lemmas.List.{same_lists, get_or-take, get_or-drop, length-take-le}
use Rattle.std.proofs.lemmas.Option.{slice_get-get_or, same_Some, slice_get_cases}
use Rattle.cq_clones.specs.Groups.{AreSame}

-- `n` tokens that are there
pub length-word : {T : Type 0} (xs : List T) (i n : ℕ) → i + n ≤ length xs → length (take n (drop i xs)) ≡ n
length-word xs i n within = length-take-le n (drop i xs) (let e = length-drop i xs in omega (arith, e))

pub get_or-word : {T : Type 0} (xs : List T) (i n k : ℕ) (d : T) → k < n → get_or (take n (drop i xs)) k d ≡ get_or xs (i + k) d
get_or-word xs i n k d lt = get_or-take n (drop i xs) k d lt ∙ get_or-drop i xs k d

-- the words are equal where all their tokens are
pub words_from_tokens : {T : Type 0} (xs ys : List T) (i j n : ℕ) → i + n ≤ length xs → j + n ≤ length ys → ((k : ℕ) → k < n → AreSame (slice_get xs (i + k)) (slice_get ys (j + k))) → take n (drop i xs) ≡ take n (drop j ys)
words_from_tokens xs ys i j n xs_in ys_in same =
    same_lists _ _
    (length-word xs i n xs_in ∙ sym (length-word ys j n ys_in))
    (λ k d lt.
    let within : k < n = omega (arith, length-word xs i n xs_in) in
    let a = slice_get-get_or xs (i + k) d (omega arith) in
    let b = slice_get-get_or ys (j + k) d (omega arith) in
    get_or-word xs i n k d within ∙ (same_Some _ _ (sym a ∙ (same k within).1 ∙ b)) ∙ sym (get_or-word ys j n k d within))

-- and the other way round
pub tokens_from_words : {T : Type 0} (xs ys : List T) (i j n : ℕ) → i + n ≤ length xs → j + n ≤ length ys → take n (drop i xs) ≡ take n (drop j ys) → (k : ℕ) → k < n → AreSame (slice_get xs (i + k)) (slice_get ys (j + k))
tokens_from_words {T} xs ys i j n xs_in ys_in same k lt =
    ⊎_elim
    (λ (x, within, here, read).
    let y : T = get_or ys (j + k) x in
    let there : slice_get ys (j + k) ≡ Some y = slice_get-get_or ys (j + k) x (omega arith) in
    let e : x ≡ y =
    sym read ∙ sym (get_or-word xs i n k x lt) ∙ ap (λ zs. get_or zs k x) same ∙ get_or-word ys j n k x lt in
    (ap is_some here, here ∙ ap Some e ∙ sym there))
    (λ (past, none). absurd (omega arith))
    (slice_get_cases xs (i + k)).1

-- a word of a file stands within it
pub within_from_word : {T : Type 0} (xs : List T) (i n : ℕ) → length (take n (drop i xs)) ≡ n → 0 < n → i + n ≤ length xs
within_from_word xs i n full some =
    let a = length-take n (drop i xs) in let b = length-drop i xs in omega (arith, a, b, full)
