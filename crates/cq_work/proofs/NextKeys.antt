-- The key of a window from that of the window before.
use Rattle.std.proofs.Common.{◌≡◌, ℕ, zero, suc, ◌+◌, ◌-◌, ◌<◌, ◌≤◌, List, [], ◌∷◌, ◌++◌, length, refl, sym, ap, subst, add-one, ◌∙◌, ⊎_elim, arith}
use Rattle.std.specs.Prelude.{◌*◌, ◌^◌, ◌%◌, min, fold}
use Rattle.std.specs.Int.{◌∣◌}
use Rattle.std.proofs.Math.Nat.{add-mod-mod, mod-add-mod, mod-mod_of_dvd, mod-eq_of_lt, mod-zero, mod-mod, pow-le-pow_right, pow-suc, pow-zero, dvd-mul_right, add-mul-mod_self_right}
use Rattle.std.proofs.lemmas.Bool.{cases_lt}
use Rattle.std.proofs.lemmas.Nat.{mul-mod_first, mod_below, pow-add, pow_pos}
use Rattle.std.proofs.lemmas.List.Sums.{fold-append}
use Rattle.cq_base.specs.declared.settings.Settings.{Settings}
use Rattle.cq_work.specs.Keys.{factor, folded, lowest, key_of, weight, Rolls}

-- one code more, with nothing cut off
abbrev grown : ℕ → ℕ → ℕ → ℕ
grown f key code = key * f + (code + 1)

-- what stands before some codes weighs the factor once for each of them
apart : (f before key : ℕ) (codes : List ℕ) → fold (grown f) (before + key) codes ≡ f ^ length codes * before + fold (grown f) key codes
apart f before key [] = omega (arith, ap (λ n. n * before) (pow-zero f))
apart f before key (c ∷ codes) =
    let first : grown f (before + key) c ≡ before * f + grown f key c = omega arith in
    ap (λ n. fold (grown f) n codes) first ∙ apart f (before * f) (grown f key c) codes
    ∙ ap (λ n. n + fold (grown f) (grown f key c) codes) (omega (arith, ap (λ n. n * before) (pow-suc f (length codes))))

-- a code leaves in front, and one comes in at the end
window_on : (f outgoing incoming : ℕ) (rest : List ℕ) → f ^ (length rest + 1) * (outgoing + 1) + fold (grown f) 0 (rest ++ incoming ∷ []) ≡ grown f (fold (grown f) 0 (outgoing ∷ rest)) incoming
window_on f outgoing incoming rest =
    let first : grown f 0 outgoing ≡ outgoing + 1 + 0 = omega arith in
    let before : fold (grown f) 0 (outgoing ∷ rest) ≡ f ^ length rest * (outgoing + 1) + fold (grown f) 0 rest = ap (λ n. fold (grown f) n rest) first ∙ apart f (outgoing + 1) 0 rest in
    let power : f ^ (length rest + 1) ≡ f ^ length rest * f = ap (λ n. f ^ n) (add-one (length rest)) ∙ pow-suc f (length rest) in
    omega (arith, fold-append (grown f) 0 rest (incoming ∷ []), ap (λ n. n * (outgoing + 1)) power, ap (λ n. n * f) before)

-- numbers that are alike by a modulus
more_alike : (w a b times more : ℕ) → a % w ≡ b % w → (a * times + more) % w ≡ (b * times + more) % w
more_alike w a b times more same = sym (by_first a) ∙ ap (λ n. (n * times + more) % w) same ∙ by_first b
  where
    by_first : (n : ℕ) → (n % w * times + more) % w ≡ (n * times + more) % w
    by_first n = sym (mod-add-mod (n % w * times) w more) ∙ ap (λ k. (k + more) % w) (mul-mod_first n times w) ∙ mod-add-mod (n * times) w more

less_alike : (w more a b : ℕ) → (more + a) % w ≡ (more + b) % w → a % w ≡ b % w
less_alike zero more a b same = omega (arith, same, mod-zero (more + a), mod-zero (more + b), mod-zero a, mod-zero b)
less_alike (suc n) more a b same = sym (whole a) ∙ sym (add-mod-mod (more * n) (more + a) (suc n)) ∙ ap (λ k. (more * n + k) % suc n) same ∙ add-mod-mod (more * n) (more + b) (suc n) ∙ whole b
  where
    whole : (k : ℕ) → (more * n + (more + k)) % suc n ≡ k % suc n
    whole k = let sum : more * n + (more + k) ≡ k + more * suc n = omega arith in ap (λ j. j % suc n) sum ∙ add-mul-mod_self_right k more (suc n)

alike_within : (w a b : ℕ) → w ∣ 2 ^ 64 → a % 2 ^ 64 ≡ b % 2 ^ 64 → a % w ≡ b % w
alike_within w a b within same = sym (mod-mod_of_dvd w a within) ∙ ap (λ n. n % w) same ∙ mod-mod_of_dvd w b within

-- a fold in 64 bits, and one with nothing cut off
folds_alike : (a b : ℕ) (codes : List ℕ) → a % 2 ^ 64 ≡ b % 2 ^ 64 → fold folded a codes % 2 ^ 64 ≡ fold (grown factor) b codes % 2 ^ 64
folds_alike a b [] same = same
folds_alike a b (c ∷ codes) same = folds_alike (folded a c) (grown factor b c) codes (mod-mod (grown factor a c) (2 ^ 64) ∙ more_alike (2 ^ 64) a b factor (c + 1) same)

fold_fits : (key : ℕ) (codes : List ℕ) → key < 2 ^ 64 → fold folded key codes < 2 ^ 64
fold_fits key [] fits = fits
fold_fits key (c ∷ codes) fits = fold_fits (folded key c) codes (mod_below (grown factor key c) (2 ^ 64) (pow_pos 64))

-- the modulus of what is kept of 64 bits
abbrev kept : ℕ → ℕ
kept bits = 2 ^ min bits 64

kept_within : (bits : ℕ) → kept bits ∣ 2 ^ 64
kept_within bits =
    let all : min bits 64 + (64 - min bits 64) ≡ 64 = omega arith in
    let product : 2 ^ 64 ≡ kept bits * 2 ^ (64 - min bits 64) = sym (ap (λ n. 2 ^ n) all) ∙ pow-add 2 (min bits 64) (64 - min bits 64) in
    subst (λ (n : ℕ). kept bits ∣ n) (sym product) (dvd-mul_right (kept bits) (2 ^ (64 - min bits 64)))

lowest_is : (key bits : ℕ) → key < 2 ^ 64 → lowest key bits ≡ key % kept bits
lowest_is key bits fits =
    ⊎_elim
    (λ (few : bits < 64). let same : bits ≡ min bits 64 = omega (arith, few) in ap (λ n. key % 2 ^ n) same)
    (λ (all : 64 ≤ bits).
    let same : min bits 64 ≡ 64 = omega (arith, all) in
    let wide : 2 ^ 64 ≤ 2 ^ bits = pow-le-pow_right (omega arith) all in
    mod-eq_of_lt (omega (arith, wide, fits)) ∙ sym (ap (λ n. key % 2 ^ n) same ∙ mod-eq_of_lt fits))
    (cases_lt bits 64)

key_is : (s : Settings) (codes : List ℕ) → key_of s codes ≡ fold (grown factor) 0 codes % kept s.key_bits
key_is s codes =
    lowest_is (fold folded 0 codes) s.key_bits (fold_fits 0 codes (pow_pos 64))
    ∙ alike_within (kept s.key_bits) (fold folded 0 codes) (fold (grown factor) 0 codes) (kept_within s.key_bits) (folds_alike 0 0 codes refl)

pub rolls : (s : Settings) (outgoing incoming key exchanged : ℕ) → exchanged < 2 ^ 64 → (weight s * (outgoing + 1) + exchanged) % 2 ^ 64 ≡ folded key incoming → Rolls s outgoing incoming key (lowest exchanged s.key_bits)
rolls s outgoing incoming key exchanged fits exchanged_is = λ rest size before_is.
    let w = kept s.key_bits in
    let within = kept_within s.key_bits in
    let power = factor ^ s.chunk in
    let before = fold (grown factor) 0 (outgoing ∷ rest) in
    let next = fold (grown factor) 0 (rest ++ incoming ∷ []) in
    let key_alike : key % w ≡ before % w = ap (λ n. n % w) (before_is ∙ key_is s (outgoing ∷ rest)) ∙ mod-mod before w in
    let both : power * (outgoing + 1) + next ≡ grown factor before incoming = ap (λ n. factor ^ n * (outgoing + 1) + next) (sym size) ∙ window_on factor outgoing incoming rest in
    let alike : (power * (outgoing + 1) + exchanged) % w ≡ (power * (outgoing + 1) + next) % w =
    more_alike w power (weight s) (outgoing + 1) exchanged (sym (mod-mod_of_dvd w power within))
    ∙ sym (mod-mod_of_dvd w (weight s * (outgoing + 1) + exchanged) within) ∙ ap (λ n. n % w) exchanged_is ∙ mod-mod_of_dvd w (grown factor key incoming) within
    ∙ more_alike w key before factor (incoming + 1) key_alike ∙ ap (λ n. n % w) (sym both) in
    lowest_is exchanged s.key_bits fits ∙ less_alike w (power * (outgoing + 1)) exchanged next alike ∙ sym (key_is s (rest ++ incoming ∷ []))
