-- Elements, marks and semicolons that the languages refuse.
use Rattle.std.specs.Str.{bytes_eq}
use Rattle.std.specs.Prelude.{not, IsFalse, ◌≡◌, ◌==◌, ◌||◌, ℕ, true, false, Some, Ok, List, [], ◌∷◌, length, codes}
use Rattle.std.proofs.Common.{arith, ap, refl, inl, ⊎_elim}
use Rattle.cq_base.specs.declared.token.Class.TheVariants as class
use Rattle.cq_base.specs.declared.token.Mark.{Mark}
use Rattle.cq_base.specs.declared.token.Spelled.{Spelled}
use Rattle.cq_definition_cases.proofs.Different.{is_false, is_true}
use Rattle.cq_munch.specs.Comments.{IsBlockComment, IsLineComment}
use Rattle.cq_munch.specs.Language.{Language}
use Rattle.cq_munch.specs.Lexed.{IsLexed, mark_of, marks_of, placed, tokens_of, units_of}
use Rattle.cq_munch.specs.ListingMarks.{said}
use Rattle.cq_munch.proofs.Steps.{spelled_word, word_if}
use Rattle.cq_munch.proofs.WordLists.{among_passes}
use Rattle.cq_munch.specs.Longest.{IsAmong, LongestAt}
use Rattle.cq_munch.specs.Pattern.{Spells, many, only}
use Rattle.cq_munch.specs.Once.{NoneBegins}
use Rattle.cq_munch.specs.Quotes.{quoted}
use Rattle.cq_munch.specs.Table.{better}
use Rattle.cq_munch.specs.declared.element.Spell.TheVariants as spell
use Rattle.cq_munch.specs.declared.ends.LineEnds.TheVariants as ends
use Rattle.cq_munch.specs.declared.munching.Lexed.TheVariants as lexed
use Rattle.cq_munch.specs.declared.quoted.Quote.TheVariants as quotes
use Rattle.cq_munch.specs.declared.unit.Unit.{Unit}
use Rattle.ucd_derived.proofs.BinaryLemmas.{is_xid_continue_stepped}
use Rattle.ucd_table.proofs.Computing.{tables}
use Rattle.ucd_table.proofs.Facts.{Stepped-below}
use Rattle.unicode_ident.specs.Ident.{is_xid_continue}
use Rattle.cq_lex_any.specs.Any.{any}
use Rattle.cq_lex_c.specs.C.{mode_behind}
use Rattle.cq_lex_c.specs.Headers.{IsHeaderAt}
use Rattle.cq_lex_c.specs.Identifiers.{IsIdentifier, identifier}
use Rattle.cq_lex_c.specs.Numbers.{IsNumber, number}
use Rattle.cq_lex_go.specs.Semicolons.{completed}
use Rattle.cq_lex_go.specs.Words.{IsName, name, keywords}
use Rattle.cq_lex_java.specs.Blocks.{text_block}

-- ---- any language

-- `/* a`
pub an_open_comment_is_none : IsBlockComment (codes "/* a") → ⊥
an_open_comment_is_none h = h.1.1

pub a_comment_behind_slashes_ends_before_its_line_feed : IsLineComment ends.Feed (47 ∷ 47 ∷ 97 ∷ 10 ∷ []) → ⊥
a_comment_behind_slashes_ends_before_its_line_feed h = is_true h.1.1.1.0

-- a carriage return ends a line of Java
pub a_comment_behind_slashes_ends_before_a_return : IsLineComment ends.ReturnOrFeed (47 ∷ 47 ∷ 97 ∷ 13 ∷ []) → ⊥
a_comment_behind_slashes_ends_before_a_return h = is_true h.1.1.1.0

-- a line separator ends a line of JavaScript
pub a_comment_behind_slashes_ends_before_a_line_separator : IsLineComment ends.Separator (47 ∷ 47 ∷ 97 ∷ 8232 ∷ []) → ⊥
a_comment_behind_slashes_ends_before_a_line_separator h = is_true h.1.1.1.0

pub the_longer_element_is_taken : better (Some (record { spell = spell.Blank; units = 1; mode = 0 })) (Some (record { spell = spell.Comment; units = 2; mode = 0 })) ≡ Some (record { spell = spell.Blank; units = 1; mode = 0 }) → ⊥
the_longer_element_is_taken e = grind (arith, e)

-- `aa`, of any number of `a`
pub the_longest_spelling_is_taken : LongestAt (Spells (many (only 97))) (97 ∷ 97 ∷ []) (Some 1) → ⊥
the_longest_spelling_is_taken h = h.longest 2 (omega arith) (omega arith) ((97 ∷ []) ∷ (97 ∷ []) ∷ [], refl, ((97, refl, refl), ((97, refl, refl), tt)))

-- `a"b"`
pub a_quote_that_closes_is_not_passed_over : NoneBegins (quoted quotes.Double ends.Feed) (97 ∷ 34 ∷ 98 ∷ 34 ∷ []) 0 4 → ⊥
unfolding quoted
a_quote_that_closes_is_not_passed_over h = h 1 (omega arith) (omega arith) 3 (omega arith) (omega arith) (34 ∷ [], 98 ∷ 34 ∷ [], refl, (34, refl, refl), (98 ∷ [], 34 ∷ [], refl, ((98 ∷ []) ∷ [], refl, (inl (98, refl, refl), tt)), (34, refl, refl)))

pub the_last_word_of_a_comment_counts : said (codes "CPD-OFF CPD-ON") ≡ Some false → ⊥
the_last_word_of_a_comment_counts e = grind (arith, e)

pub a_literal_is_no_mark : (units : List Unit) (mark : Mark) → mark_of (spell.Token class.Literal) units ≡ Some mark → ⊥
a_literal_is_no_mark units mark e = cc

pub a_comment_is_one_mark : length (marks_of (placed 0 (codes "//CPD-OFF")) 0 (record { spell = spell.Comment; units = 9; mode = 0 } ∷ [])) ≡ 2 → ⊥
a_comment_is_one_mark e = omega (arith, e)

pub a_byte_order_mark_is_no_token : any.tried 0 0 (65279 ∷ []) (spell.Token class.Punct) (65279 ∷ []) → ⊥
a_byte_order_mark_is_no_token h = let e = h.0 in cc

-- a digit begins no identifier and goes on in one
pub a_digit_goes_on_in_a_run : IsFalse (is_xid_continue 49) → ⊥
unfolding tables is_xid_continue_stepped
a_digit_goes_on_in_a_run ends = let goes : is_xid_continue 49 ≡ true = Stepped-below is_xid_continue is_xid_continue_stepped (λ d b. not (d == 49) || b) 50 refl 49 (omega arith) in cc

-- a text whose tokens are so many, whatever they are
module _ (lang : Language) (completed : List ℕ → List Spelled → List Spelled) (bytes : List ℕ) where
  pub no_text_of_262144_tokens_is_large :
      ((tokens : List Spelled) → length (completed bytes tokens) ≡ 262144) → IsLexed lang (λ units. Ok units) completed bytes lexed.Large → ⊥
  no_text_of_262144_tokens_is_large length_is (fs, whole, more) = let n = length_is (tokens_of bytes (units_of bytes) 0 fs) in omega (arith, n, more)

-- ---- C

-- `<a>` after a hash
pub a_header_name_needs_the_word_include : IsHeaderAt 1 (codes "<a>") 3 → ⊥
a_header_name_needs_the_word_include h = is_false h.0

pub a_line_feed_ends_the_directive : mode_behind 2 spell.Blank (10 ∷ []) ≡ 2 → ⊥
a_line_feed_ends_the_directive e = omega (arith, e)

-- `\u123`
pub a_universal_name_has_four_digits : IsIdentifier (92 ∷ 117 ∷ 49 ∷ 50 ∷ 51 ∷ []) → ⊥
unfolding identifier
a_universal_name_has_four_digits h = is_false (spelled_word (92 ∷ 117 ∷ 49 ∷ 50 ∷ 51 ∷ []) (identifier ∷ []) (inl h))

-- `1+`
pub a_sign_goes_on_only_behind_an_exponent : IsNumber (codes "1+") → ⊥
unfolding number
a_sign_goes_on_only_behind_an_exponent h = is_false (spelled_word (codes "1+") (number ∷ []) (inl h))

-- `1e+5`
pub a_sign_goes_on_behind_an_exponent : LongestAt IsNumber (codes "1e+5") (Some 2) → ⊥
unfolding number
a_sign_goes_on_behind_an_exponent h =
    h.longest 4 (omega arith) (omega arith) (⊎_elim (λ own. own) (λ none. absurd none) (word_if (codes "1e+5") (number ∷ []) refl))

-- ---- Go

abbrev returns : Spelled
returns = record { token = record { class = class.Word; start = 0; len = 6; first_line = 1; last_line = 1 }; text = codes "return" }

pub a_semicolon_follows_return_at_the_end_of_its_line : completed (codes "return") (returns ∷ []) ≡ returns ∷ [] → ⊥
a_semicolon_follows_return_at_the_end_of_its_line e = omega (arith, ap (λ (ts : List Spelled). length ts) e)

-- `1a`
pub a_digit_begins_no_name : IsName (codes "1a") → ⊥
unfolding name
a_digit_begins_no_name h = is_false (spelled_word (codes "1a") (name ∷ []) (inl h))

pub a_longer_word_is_no_keyword : IsAmong keywords (codes "interfaces") → ⊥
a_longer_word_is_no_keyword among =
    let other = among_passes keywords (λ w. not (bytes_eq w (codes "interfaces"))) (codes "interfaces") refl among in is_false other

-- ---- Java

-- three quotes, a line feed, a backslash and three quotes
pub an_escaped_quote_closes_no_text_block : Spells text_block (34 ∷ 34 ∷ 34 ∷ 10 ∷ 92 ∷ 34 ∷ 34 ∷ 34 ∷ []) → ⊥
unfolding text_block
an_escaped_quote_closes_no_text_block h = is_false (spelled_word (34 ∷ 34 ∷ 34 ∷ 10 ∷ 92 ∷ 34 ∷ 34 ∷ 34 ∷ []) (text_block ∷ []) (inl h))
