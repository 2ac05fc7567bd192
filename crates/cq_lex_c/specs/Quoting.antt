-- Texts in quotes begin with their quote.
use Rattle.std.proofs.Common.{◌≡◌, ◌⊎◌, ℕ, List, [], ◌∷◌, ◌++◌, get_or, ap, ◌∙◌, inl, inr, ⊎_elim, arith}
use Rattle.std.specs.Prelude.{IsTrue}
use Rattle.cq_munch.specs.Pattern.{Pattern, Spells, only, many, ◌▸◌, in_ranges}
use Rattle.cq_munch.specs.Quotes.{quoted, item}
use Rattle.cq_munch.specs.declared.ends.LineEnds.TheVariants.{ReturnOrFeed}
use Rattle.cq_lex_c.specs.Texts.{constant, IsString, IsText}

-- a pattern that begins with one character
first_is : (n : ℕ) (q : Pattern) (s : List ℕ) → Spells (only n ▸ q) s → get_or s 0 0 ≡ n
first_is n q s (a, b, parts, (c, one, within), rest) =
    ap (λ v. get_or v 0 0) (parts ∙ ap (λ v. v ++ b) one) ∙ only_one n c within
  where
    only_one : (m d : ℕ) → IsTrue (in_ranges ((m, m) ∷ []) d) → d ≡ m
    only_one m d k = grind arith

pub string_first : (s : List ℕ) → IsString s → get_or s 0 0 ≡ 34
unfolding quoted
string_first s h = first_is 34 (many (item 34 ReturnOrFeed) ▸ only 34) s h

pub character_first : (s : List ℕ) → Spells constant s → get_or s 0 0 ≡ 39
unfolding quoted
character_first s h = first_is 39 ((item 39 ReturnOrFeed ▸ many (item 39 ReturnOrFeed)) ▸ only 39) s h

pub text_first : (s : List ℕ) → IsText s → (get_or s 0 0 ≡ 34) ⊎ (get_or s 0 0 ≡ 39)
text_first s h = ⊎_elim (λ a. inl (string_first s a)) (λ b. inr (character_first s b)) h
