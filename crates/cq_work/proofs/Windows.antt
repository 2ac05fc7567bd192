-- The keys of windows, one after the other.
use Rattle.std.proofs.Common.{◌≡◌, ℕ, suc, ◌+◌, ◌-◌, ◌<◌, ◌≤◌, List, [], ◌∷◌, ◌++◌, length, take, drop, get_or, Bool, true, false, cond, refl, sym, ap, ◌∙◌, arith, append_assoc, add-one}
use Rattle.std.specs.Prelude.{nat_le}
use Rattle.std.proofs.lemmas.Grind.{common_steps}
use Rattle.std.proofs.Common.{append-nil}
use Rattle.std.proofs.lemmas.List.{length-drop, drop-drop, drop_more, take_more, get_or-drop}
use Rattle.cq_base.specs.declared.settings.Settings.{Settings}
use Rattle.cq_work.specs.Keys.{key_of, keys_of, Rolls}

by_test : (b : Bool) (xs ys : List ℕ) → b ≡ true → cond b xs ys ≡ xs
by_test true xs ys e = refl
by_test false xs ys e = absurd (cc)

by_fail : (b : Bool) (xs ys : List ℕ) → b ≡ false → cond b xs ys ≡ ys
by_fail true xs ys e = absurd (cc)
by_fail false xs ys e = refl

pub keys_short : (s : Settings) (codes : List ℕ) → length codes < s.chunk → keys_of s codes ≡ []
keys_short s [] short = refl
keys_short s (c ∷ codes) short =
    let test : nat_le s.chunk (length (c ∷ codes)) ≡ false = grind (arith, common_steps) in
    by_fail (nat_le s.chunk (length (c ∷ codes))) _ _ test

pub keys_first : (s : Settings) (codes : List ℕ) → 1 ≤ s.chunk → s.chunk ≤ length codes → keys_of s codes ≡ key_of s (take s.chunk codes) ∷ keys_of s (drop 1 codes)
keys_first s [] some long = absurd (omega (arith, some, long))
keys_first s (c ∷ codes) some long =
    let test : nat_le s.chunk (length (c ∷ codes)) ≡ true = grind (arith, common_steps) in
    by_test (nat_le s.chunk (length (c ∷ codes))) _ _ test

-- one key more
pub keys_more : (s : Settings) (codes keys new : List ℕ) (at key : ℕ) → 1 ≤ s.chunk → at + s.chunk ≤ length codes → keys ++ keys_of s (drop at codes) ≡ keys_of s codes → key ≡ key_of s (take s.chunk (drop at codes)) → new ≡ keys ++ key ∷ []
    → new ++ keys_of s (drop (at + 1) codes) ≡ keys_of s codes
keys_more s codes keys new at key some inside before key_is grown =
    let left = length-drop at codes in
    let first : keys_of s (drop at codes) ≡ key_of s (take s.chunk (drop at codes)) ∷ keys_of s (drop 1 (drop at codes)) = keys_first s (drop at codes) some (omega (arith, left, inside)) in
    rw grown (rw (append_assoc keys (key ∷ []) (keys_of s (drop (at + 1) codes))) (ap (λ k. keys ++ k ∷ keys_of s (drop (at + 1) codes)) key_is ∙ (ap (λ ks. keys ++ key_of s (take s.chunk (drop at codes)) ∷ keys_of s ks) (sym (drop-drop 1 at codes)) ∙ (ap (λ ks. keys ++ ks) (sym first) ∙ before))))

-- the key of the window a code further on
pub key_on : (s : Settings) (codes : List ℕ) (at key next : ℕ) → 1 ≤ s.chunk → at + s.chunk < length codes → Rolls s (get_or codes at 0) (get_or codes (at + s.chunk) 0) key next → key ≡ key_of s (take s.chunk (drop at codes)) → next ≡ key_of s (take s.chunk (drop (at + 1) codes))
key_on s codes at key next some inside rolls key_is =
    let behind = drop (at + 1) codes in
    let few = s.chunk - 1 in
    let many : length behind ≡ length codes - (at + 1) = length-drop (at + 1) codes in
    let chunk_is : s.chunk ≡ few + 1 = omega (arith, some) in
    let size : length (take few behind) + 1 ≡ s.chunk = grind (arith, common_steps, many, some, inside) in
    let first : take s.chunk (drop at codes) ≡ get_or codes at 0 ∷ take few behind = ap (λ n. take n (drop at codes)) (chunk_is ∙ add-one few) ∙ ap (take (suc few)) (drop_more codes at 0 (omega (arith, inside))) in
    let last : take s.chunk behind ≡ take few behind ++ get_or codes (at + s.chunk) 0 ∷ [] =
    ap (λ n. take n behind) chunk_is ∙ take_more behind few 0 (omega (arith, many, inside, some))
    ∙ ap (λ c. take few behind ++ c ∷ []) (get_or-drop (at + 1) codes few 0 ∙ ap (λ n. get_or codes n 0) (omega (arith, some))) in
    rolls (take few behind) size (key_is ∙ ap (key_of s) first) ∙ ap (key_of s) (sym last)

-- where no window is left
pub keys_all : (s : Settings) (codes keys : List ℕ) (at : ℕ) → at ≤ length codes → length codes - at < s.chunk → keys ++ keys_of s (drop at codes) ≡ keys_of s codes → keys ≡ keys_of s codes
keys_all s codes keys at inside short all =
    let left = length-drop at codes in
    let none : keys_of s (drop at codes) ≡ [] = keys_short s (drop at codes) (omega (arith, left, short)) in
    sym (append-nil keys) ∙ (ap (λ ks. keys ++ ks) (sym none) ∙ all)

few_by : (b : Bool) (xs : List ℕ) (k n : ℕ) → length xs ≤ n → length (cond b (k ∷ xs) []) ≤ n + 1
few_by true xs k n few = omega (arith, few)
few_by false xs k n few = omega arith

-- no more keys than codes
pub keys_few : (s : Settings) (codes : List ℕ) → length (keys_of s codes) ≤ length codes
keys_few s [] = omega arith
keys_few s (c ∷ codes) = let one = few_by (nat_le s.chunk (length (c ∷ codes))) (keys_of s codes) (key_of s (take s.chunk (c ∷ codes))) (length codes) (keys_few s codes) in omega (arith, one)
