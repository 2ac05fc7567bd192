-- What a search among the marks tells, and that a part of the tokens has no more bytes than all.
use Rattle.std.proofs.Common.{◌≡◌, ℕ, zero, suc, ◌-◌, ◌<◌, ◌≤◌, nat_lt, Bool, true, false, if◌then◌else◌, List, [], ◌∷◌, length, sum_by, get_or, refl, sym, ap, ◌∙◌, arith}
use Rattle.std.proofs.lemmas.List.{length-map}
use Rattle.std.proofs.lemmas.List.Filters.{length-filter_both, sum_by-filter_both}
use Rattle.std.specs.List.{AllWithin}
use Rattle.std.specs.List.Sorted.{IsPartitionPoint}
use Rattle.std.specs.Prelude.{not}
use Rattle.cq_base.specs.declared.lang.Lang.{Lang}
use Rattle.cq_base.specs.declared.settings.Settings.{Settings}
use Rattle.cq_base.specs.declared.token.Mark.{Mark}
use Rattle.cq_base.specs.declared.token.Spelled.{Spelled}
use Rattle.cq_normal.specs.Kept.{is_on, kept}
use Rattle.cq_normal.specs.Normal.{norm_of, normal}

-- no mark begins before the byte
pub none_before : (byte : ℕ) (on : Bool) (marks : List Mark) → AllWithin (λ (m : Mark). nat_lt m.at byte ≡ false) marks 0 (length marks) → is_on on marks byte ≡ on
none_before byte on [] behind = refl
none_before byte on (m ∷ marks) behind =
    ap (λ b. is_on (if b then m.on else on) marks byte) (behind 0 m (omega arith) (omega arith))
    ∙ none_before byte on marks (λ k d low high. behind (suc k) d (omega arith) (omega (arith, high)))

-- so many marks begin before the byte, and the last of them tells
pub last_before : (byte : ℕ) (on : Bool) (marks : List Mark) (n : ℕ) (d : Mark) → suc n ≤ length marks → AllWithin (λ (m : Mark). nat_lt m.at byte ≡ true) marks 0 (suc n) → AllWithin (λ (m : Mark). nat_lt m.at byte ≡ false) marks (suc n) (length marks)
    → is_on on marks byte ≡ (get_or marks n d).on
last_before byte on [] n d within before behind = absurd (omega arith)
last_before byte on (m ∷ marks) zero d within before behind =
    ap (λ b. is_on (if b then m.on else on) marks byte) (before 0 m (omega arith) (omega arith))
    ∙ none_before byte m.on marks (λ k e low high. behind (suc k) e (omega arith) (omega (arith, high)))
last_before byte on (m ∷ marks) (suc n) d within before behind =
    ap (λ b. is_on (if b then m.on else on) marks byte) (before 0 m (omega arith) (omega arith))
    ∙ last_before byte m.on marks n d (omega arith)
    (λ k e low high. before (suc k) e (omega arith) (omega (arith, high)))
    (λ k e low high. behind (suc k) e (omega (arith, low)) (omega (arith, high)))

-- as many as are before it, and the last of these
pub search_tells : (byte : ℕ) (on : Bool) (marks : List Mark) (n : ℕ) (d : Mark) → n ≤ length marks → 0 < n → IsPartitionPoint (λ (m : Mark). nat_lt m.at byte ≡ true) (λ (m : Mark). nat_lt m.at byte ≡ false) marks n → (get_or marks (n - 1) d).on ≡ is_on on marks byte
search_tells byte on marks zero d within some point = absurd (omega arith)
search_tells byte on marks (suc n) d within some point =
    let before : suc n - 1 ≡ n = omega arith in
    ap (λ k. (get_or marks k d).on) before ∙ sym (last_before byte on marks n d within point.0 point.1)

pub none_tells : (byte : ℕ) (on : Bool) (marks : List Mark) (n : ℕ) → n ≡ 0 → IsPartitionPoint (λ (m : Mark). nat_lt m.at byte ≡ true) (λ (m : Mark). nat_lt m.at byte ≡ false) marks n → on ≡ is_on on marks byte
none_tells byte on marks n none point = sym (none_before byte on marks (λ k d low high. point.1 k d (omega (arith, none)) high))

-- without marks all tokens are left
pub all_kept : (tokens : List Spelled) → tokens ≡ kept [] tokens
all_kept [] = refl
all_kept (s ∷ tokens) = ap (λ ts. s ∷ ts) (all_kept tokens)

pub unmarked_kept : (marks : List Mark) (tokens : List Spelled) → length marks ≡ 0 → tokens ≡ kept marks tokens
unmarked_kept [] tokens none = all_kept tokens
unmarked_kept (m ∷ marks) tokens none = absurd (omega arith)

-- the spellings that are left have no more bytes
pub kept-short : (marks : List Mark) (tokens : List Spelled) → sum_by (λ (s : Spelled). length s.text) (kept marks tokens) ≤ sum_by (λ (s : Spelled). length s.text) tokens
kept-short marks tokens =
    let both = sum_by-filter_both (λ (s : Spelled). is_on true marks s.token.start) (λ (s : Spelled). not (is_on true marks s.token.start)) (λ _. refl) (λ (s : Spelled). length s.text) tokens in
    omega (arith, both)

-- and they are no more
pub kept-fewer : (settings : Settings) (l : Lang) (marks : List Mark) (tokens : List Spelled) → length (normal settings l (kept marks tokens)) ≤ length tokens
kept-fewer settings l marks tokens =
    let both = length-filter_both (λ (s : Spelled). is_on true marks s.token.start) (λ (s : Spelled). not (is_on true marks s.token.start)) (λ _. refl) tokens in
    let many = length-map (kept marks tokens) (norm_of settings l) in
    omega (arith, both, many)
