-- Words at two places, from the answers for their tokens.
use Rattle.std.proofs.Common.{◌≡◌, ℕ, ◌+◌, ◌-◌, ◌<◌, ◌≤◌, List, length, is_some, sym, ap, arith, ◌∙◌, true≢false, min, drop, length-take, length-drop, ⊎_elim}
use Rattle.std.proofs.lemmas.Bool.{cases_lt}
use Rattle.std.proofs.lemmas.Option.{slice_get_past}
use Rattle.cq_base.specs.declared.group.Place.{Place}
use Rattle.cq_clones.specs.Groups.{file_at, IsPlace, word_at, StandsAt, token_behind, AreSame}
use Rattle.cq_clones.proofs.Words.{length-word, words_from_tokens, tokens_from_words}
use Rattle.cq_scan.specs.Match.{Matches}

-- the first `n` tokens from two places on are there and equal
abbrev pub AreSameBelow : {T : Type 0} → List (List T) → Place → Place → ℕ → Type 0
AreSameBelow corpus p q n = (k : ℕ) → k < n → AreSame (token_behind corpus p k) (token_behind corpus q k)

pub matches_from_tokens : {T : Type 0} (corpus : List (List T)) (p q : Place) (n : ℕ) → p.at + n ≤ length (file_at corpus p.file) → q.at + n ≤ length (file_at corpus q.file) → AreSameBelow corpus p q n → (AreSame (token_behind corpus p n) (token_behind corpus q n) → ⊥) → Matches corpus p q n
matches_from_tokens corpus p q n p_in q_in same other = record {
  first = p_in;
  second = q_in;
  equal = words_from_tokens _ _ p.at q.at n p_in q_in same;
  right = other;
}

-- where one of the files ends no token follows
pub end_differs : {T : Type 0} (corpus : List (List T)) (p q : Place) (n : ℕ) → length (file_at corpus p.file) ≤ p.at + n → AreSame (token_behind corpus p n) (token_behind corpus q n) → ⊥
end_differs corpus p q n past same =
    true≢false (sym same.0 ∙ ap is_some (slice_get_past (file_at corpus p.file) (p.at + n) past))

pub end_differs_too : {T : Type 0} (corpus : List (List T)) (p q : Place) (n : ℕ) → length (file_at corpus q.file) ≤ q.at + n → AreSame (token_behind corpus p n) (token_behind corpus q n) → ⊥
end_differs_too corpus p q n past same =
    true≢false (sym same.0 ∙ ap is_some (same.1 ∙ slice_get_past (file_at corpus q.file) (q.at + n) past))

pub matches_to_end : {T : Type 0} (corpus : List (List T)) (p q : Place) (n : ℕ) → IsPlace corpus p → IsPlace corpus q → n ≡ min (length (file_at corpus p.file) - p.at) (length (file_at corpus q.file) - q.at) → AreSameBelow corpus p q n → Matches corpus p q n
matches_to_end corpus p q n p_in q_in is same =
    matches_from_tokens corpus p q n (omega arith) (omega arith) same
    (⊎_elim
    (λ h. end_differs corpus p q n (omega arith))
    (λ h. end_differs_too corpus p q n (omega arith))
    (cases_lt (length (file_at corpus p.file) - p.at) (length (file_at corpus q.file) - q.at)))

pub stands_from_tokens : {T : Type 0} (corpus : List (List T)) (p q : Place) (n : ℕ) → p.at + n ≤ length (file_at corpus p.file) → q.at + n ≤ length (file_at corpus q.file) → AreSameBelow corpus p q n → StandsAt corpus (word_at corpus p n) q
stands_from_tokens corpus p q n p_in q_in same =
    ap (word_at corpus q) (length-word (file_at corpus p.file) p.at n p_in) ∙ sym (words_from_tokens _ _ p.at q.at n p_in q_in same)

-- a word that stands at a place has its tokens there
pub words_from_stands : {T : Type 0} (corpus : List (List T)) (p q : Place) (n : ℕ) → p.at + n ≤ length (file_at corpus p.file) → StandsAt corpus (word_at corpus p n) q → word_at corpus p n ≡ word_at corpus q n
words_from_stands corpus p q n p_in stands =
    sym stands ∙ ap (word_at corpus q) (length-word (file_at corpus p.file) p.at n p_in)

pub within_from_stands : {T : Type 0} (corpus : List (List T)) (p q : Place) (n : ℕ) → p.at + n ≤ length (file_at corpus p.file) → q.at ≤ length (file_at corpus q.file) → StandsAt corpus (word_at corpus p n) q → q.at + n ≤ length (file_at corpus q.file)
within_from_stands corpus p q n p_in q_in stands =
    let xs = file_at corpus q.file in
    let full = ap length (words_from_stands corpus p q n p_in stands) in
    let here = length-word (file_at corpus p.file) p.at n p_in in
    let a = length-take n (drop q.at xs) in
    let b = length-drop q.at xs in
    omega (arith, a, b, full, here)

pub stands_not : {T : Type 0} (corpus : List (List T)) (p q : Place) (n k : ℕ) → p.at + n ≤ length (file_at corpus p.file) → q.at + n ≤ length (file_at corpus q.file) → k < n → (AreSame (token_behind corpus p k) (token_behind corpus q k) → ⊥) → StandsAt corpus (word_at corpus p n) q → ⊥
stands_not corpus p q n k p_in q_in lt other stands =
    other (tokens_from_words _ _ p.at q.at n p_in q_in (words_from_stands corpus p q n p_in stands) k lt)
