-- Tokens whose lines are among so many cover no more lines.
use Rattle.std.proofs.Common.{◌≡◌, ℕ, ◌≤◌, Bool, true, false, ◌||◌, cond, List, [], ◌∷◌, map, filter, refl, sym, ap, ◌∙◌, arith}
use Rattle.std.specs.List.{AllByRecursion, IsDistinct, flat_map, list_any}
use Rattle.std.specs.Set.{is_member, unique_keys}
use Rattle.std.proofs.lemmas.Map.Keys.{IsDistinct-cons}
use Rattle.std.proofs.lemmas.Map.Made.{length-le_from_is_member}
use Rattle.cq_base.specs.declared.token.Token.{Token}
use Rattle.cq_measures.specs.Extents.{Line, same_line, lines_of, covered_lines, code_lines, extent_of_token, has_bytes}
use Rattle.cq_measures.proofs.Lines.{same_line-laws, lines_on, length-lines_on, is_on, member-lines_on, none_same, covers, member-flat_map}
use Rattle.cq_work.specs.Bounds.{IsWithin}

-- ---- each line of a list once

each_unique : (P : Line → Type 0) (xs : List Line) → AllByRecursion P xs → AllByRecursion P (unique_keys same_line xs)
each_unique P [] each = tt
each_unique P (x ∷ xs) each = by (is_member same_line xs x) (each_unique P xs each.1)
  where
    by : (b : Bool) → AllByRecursion P (unique_keys same_line xs) → AllByRecursion P (cond b (unique_keys same_line xs) (x ∷ unique_keys same_line xs))
    by true rest = rest
    by false rest = (each.0, rest)

unique-distinct : (xs : List Line) → IsDistinct same_line (unique_keys same_line xs)
unfolding IsDistinct
unique-distinct [] = tt
unique-distinct (x ∷ xs) = by (is_member same_line xs x) refl (unique-distinct xs)
  where
    by : (b : Bool) → is_member same_line xs x ≡ b → IsDistinct same_line (unique_keys same_line xs) → IsDistinct same_line (cond b (unique_keys same_line xs) (x ∷ unique_keys same_line xs))
    by true is rest = rest
    by false is rest = IsDistinct-cons same_line x (unique_keys same_line xs) (each_unique (λ y. same_line x y ≡ false) xs (none_same x xs is)) rest

or_first : (a b c : Bool) → (b ≡ true → c ≡ true) → (a || b) ≡ true → (a || c) ≡ true
or_first true b c more h = refl
or_first false b c more h = more h

or_later : (a c : Bool) → c ≡ true → (a || c) ≡ true
or_later true c h = refl
or_later false c h = h

unique-member : (xs : List Line) (q : Line) → is_member same_line (unique_keys same_line xs) q ≡ true → is_member same_line xs q ≡ true
unique-member [] q h = h
unique-member (x ∷ xs) q h = by (is_member same_line xs x) (unique-member xs q) h
  where
    by : (b : Bool) → (is_member same_line (unique_keys same_line xs) q ≡ true → is_member same_line xs q ≡ true) → is_member same_line (cond b (unique_keys same_line xs) (x ∷ unique_keys same_line xs)) q ≡ true
        → (same_line q x || is_member same_line xs q) ≡ true
    by true more h = or_later (same_line q x) (is_member same_line xs q) (more h)
    by false more h = or_first (same_line q x) (is_member same_line (unique_keys same_line xs) q) (is_member same_line xs q) more h

-- ---- the lines of tokens

-- the lines of a token are among so many
abbrev IsAmong : ℕ → Token → Type 0
IsAmong lines t = (1 ≤ t.first_line) × (t.last_line ≤ lines)

covers_one : (lines : ℕ) (t : Token) (q : Line) → 1 ≤ t.first_line → t.last_line ≤ lines → covers q (extent_of_token t) ≡ true → is_on 0 1 lines q ≡ true
covers_one lines t q first last is = grind arith

covers_any : (lines : ℕ) (ts : List Token) (q : Line) → AllByRecursion (IsAmong lines) ts → list_any (covers q) (map extent_of_token ts) ≡ true → is_on 0 1 lines q ≡ true
covers_any lines [] q each is = absurd (cc)
covers_any lines (t ∷ ts) q each is = by (covers q (extent_of_token t)) refl (λ later. covers_any lines ts q each.1 later) is
  where
    by : (b : Bool) → covers q (extent_of_token t) ≡ b → (list_any (covers q) (map extent_of_token ts) ≡ true → is_on 0 1 lines q ≡ true) → (b || list_any (covers q) (map extent_of_token ts)) ≡ true → is_on 0 1 lines q ≡ true
    by true here more h = covers_one lines t q each.0.0 each.0.1 here
    by false here more h = more h

on_lines : (lines : ℕ) (q : Line) → is_on 0 1 lines q ≡ true → is_member same_line (lines_on 0 1 lines []) q ≡ true
on_lines lines q is = member-lines_on 0 1 lines [] q ∙ ap (λ b. b || false) is

few_covered : (lines : ℕ) (ts : List Token) → AllByRecursion (IsAmong lines) ts → covered_lines (map extent_of_token ts) ≤ lines
few_covered lines ts each =
    let all = flat_map lines_of (map extent_of_token ts) in
    let most = length-le_from_is_member same_line-laws (unique_keys same_line all) (lines_on 0 1 lines []) (unique-distinct all)
    (λ q h. on_lines lines q (covers_any lines ts q each (sym (member-flat_map (map extent_of_token ts) q) ∙ unique-member all q h))) in
    let many = length-lines_on 0 1 lines [] in
    omega (arith, most, many)

among_if : (b : Bool) (lines : ℕ) (t : Token) (ts : List Token) → IsAmong lines t → AllByRecursion (IsAmong lines) ts → AllByRecursion (IsAmong lines) (cond b (t ∷ ts) ts)
among_if true lines t ts is rest = (is, rest)
among_if false lines t ts is rest = rest

tokens_among : (most lines : ℕ) (ts : List Token) → AllByRecursion (IsWithin most lines) ts → AllByRecursion (IsAmong lines) (filter has_bytes ts)
tokens_among most lines [] each = tt
tokens_among most lines (t ∷ ts) each = among_if (has_bytes t) lines t (filter has_bytes ts) (each.0.first, each.0.last) (tokens_among most lines ts each.1)

pub few_code_lines : (most lines : ℕ) (ts : List Token) → AllByRecursion (IsWithin most lines) ts → code_lines ts ≤ lines
few_code_lines most lines ts each = few_covered lines (filter has_bytes ts) (tokens_among most lines ts each)
