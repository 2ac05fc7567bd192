-- The only place of a text where nothing is taken is that of a comment that is not closed.
use Rattle.std.proofs.Common.{◌≡◌, ℕ, zero, suc, ◌<◌, ◌≤◌, None, Bool, true, false, nat_lt, if◌then◌else◌, ◌==◌, ◌||◌, List, [], ◌∷◌, length, take, drop, refl, sym, subst, ap, ◌∙◌, inl, inr, ⊎_elim, ◌+◌, arith}
use Rattle.std.specs.Prelude.{codes}
use Rattle.std.proofs.lemmas.Bool.{eqb-true, ltb-true, and_parts, both_ways, cases_Bool, or_cases}
use Rattle.cq_base.proofs.Bools.{MatchBool-from_true, MatchBool-from_false}
use Rattle.cq_munch.specs.Characters.{characters}
use Rattle.cq_munch.specs.Comments.{IsBlockComment, lines}
use Rattle.cq_munch.specs.Language.{Takes, has_mark}
use Rattle.cq_munch.specs.Lexed.{EndsAt, unit_at}
use Rattle.cq_munch.specs.Longest.{LongestAt, IsAmong}
use Rattle.cq_munch.specs.Table.{InTable, begins}
use Rattle.cq_munch.specs.Tabled.{sign, with_blanks}
use Rattle.cq_munch.specs.declared.ends.LineEnds.TheVariants.{Feed}
use Rattle.cq_munch.specs.declared.element.Spell.{Spell}
use Rattle.cq_munch.specs.declared.element.Spell.TheVariants.{Blank, Comment, Token}
use Rattle.cq_munch.specs.declared.unit.Unit.{Unit}
use Rattle.cq_base.specs.declared.token.Class.TheVariants.{Word}
use Rattle.cq_munch.specs.Automata.{HasRow, row_of}
use Rattle.cq_munch.proofs.Reserving.{unless_reserved}
use Rattle.cq_munch.proofs.RowScans.{row_there}
use Rattle.cq_munch.proofs.Seen.{in_seen, seen_below}
use Rattle.cq_munch.proofs.Tables.{below_each}
use Rattle.cq_munch.proofs.Trying.{At, at_test}
use Rattle.cq_munch.proofs.Texts.{from_unit}
use Rattle.cq_munch.proofs.WordLists.{among_passes}
use Rattle.cq_lex_c.specs.C.{c, is_blank, rows, rows_at, tests, no_names, opens_header}
use Rattle.cq_lex_c.specs.Characters.{begins_identifier, continues_identifier, stood}
use Rattle.cq_lex_c.specs.Identifiers.{identifier, keywords}
use Rattle.cq_lex_c.specs.OneKind.{scanner, scanner_fits, is_scanner}
use Rattle.cq_lex_c.specs.Scanner.{scanned, texts}
use Rattle.cq_lex_c.specs.declared.scanner.TheConstants.{NAMES, SPELLS}
use Rattle.cq_lex_c.specs.Headers.{has_header}
use Rattle.cq_lex_c.specs.OpenComments.{IsOpenComment}
use Rattle.cq_lex_c.proofs.Elements.{header_not}

-- ---- a row has each character that is no blank

no_keyword : (d : ℕ) → IsAmong keywords (d ∷ []) → ⊥
no_keyword d among = let short : nat_lt 1 1 ≡ true = among_passes keywords (λ w. nat_lt 1 (length w)) (d ∷ []) refl among in absurd (cc)

-- it is seen as none
no_blank_past : (begins continues : Bool) → is_blank 0 (if begins then 128 else (if continues then 129 else 130)) ≡ false
no_blank_past true continues = refl
no_blank_past false true = refl
no_blank_past false false = refl

no_blank : (d : ℕ) → is_blank 0 d ≡ false → is_blank 0 (stood d) ≡ false
no_blank d visible = by (nat_lt d 128)
  where
    by : (low : Bool) → is_blank 0 (if low then d else (if begins_identifier d then 128 else (if continues_identifier d then 129 else 130))) ≡ false
    by true = visible
    by false = no_blank_past (begins_identifier d) (continues_identifier d)

-- the table has a row for each other character that it sees
rowed : (d : ℕ) → is_blank 0 d ≡ false → HasRow scanner (stood d ∷ [])
rowed d visible =
    ⊎_elim
    (λ blank. absurd (both_ways (is_blank 0 (stood d)) (no_blank d visible) blank))
    (λ some. ltb-true 0 (row_of scanner (stood d ∷ [])) some)
    (or_cases (is_blank 0 (stood d)) _ (below_each 131 (λ n. is_blank 0 n || nat_lt 0 (row_of scanner (n ∷ []))) refl (stood d) (seen_below begins_identifier continues_identifier d)))

row_of_one : (d : ℕ) → is_blank 0 d ≡ false → (spell : Spell) × InTable rows spell (d ∷ [])
row_of_one d visible =
    let row = row_there scanned texts scanner scanner_fits (stood d ∷ []) (rowed d visible) in
    (row.0, inr (inr (unless_reserved stood identifier keywords no_names NAMES SPELLS scanner is_scanner row.0 (d ∷ []) (λ e among. no_keyword d among) ((in_seen stood scanned row.0 (d ∷ [])).1 row.1))))

-- ---- what stands at an opener

mark_is : (at : ℕ) (text : List ℕ) → has_mark at text ≡ true → take 1 text ≡ 65279 ∷ []
mark_is zero [] h = absurd (cc)
mark_is zero (d ∷ s) h = ap (λ e. e ∷ []) (eqb-true d 65279 h)
mark_is (suc at) text h = absurd (cc)

line_there : (text : List ℕ) → begins (47 ∷ 47 ∷ []) text ≡ true → (2 ≤ length text) × (take 2 text ≡ 47 ∷ 47 ∷ [])
line_there [] h = absurd (cc)
line_there (d ∷ []) h = let bad : false ≡ true = (and_parts (d == 47) false h).1 in absurd (cc)
line_there (d ∷ e ∷ s) h =
    (omega arith, (λ k. eqb-true d 47 (and_parts (d == 47) _ h).0 k ∷ eqb-true e 47 (and_parts (e == 47) true (and_parts (d == 47) _ h).1).0 k ∷ []))

module _ (at mode d : ℕ) (s : List ℕ) (none : Takes c at mode (d ∷ s) None) where
  no_mark : (b : Bool) → has_mark at (d ∷ s) ≡ b → b ≡ false
  no_mark false e = refl
  no_mark true e = absurd (none 1 (omega arith) (omega arith) (Blank, MatchBool-from_true (has_mark at (d ∷ s)) _ _ e (refl, mark_is at (d ∷ s) e)))

  -- no row that is tried there has a spelling at the front
  untried : (spell : Spell) (m : ℕ) → 0 < m → m ≤ length (d ∷ s) → InTable (with_blanks is_blank rows_at mode (d ∷ s)) spell (take m (d ∷ s)) → ⊥
  untried spell m some within h = none m some within (spell, MatchBool-from_false (has_mark at (d ∷ s)) _ _ (no_mark (has_mark at (d ∷ s)) refl) h)

  visible : is_blank 0 d ≡ false
  visible =
      ⊎_elim
      (λ blank. absurd (untried Blank 1 (omega arith) (omega arith) (at_test (λ rs. InTable rs Blank (d ∷ [])) ((is_blank 0 d, sign Blank d ∷ []) ∷ []) (rows_at mode (d ∷ s)) 0 (blank, inl (refl, refl)))))
      (λ no. no)
      (cases_Bool (is_blank 0 d))

  -- nor has one of those beside the tests, if it is reached
  no_row : (spell : Spell) (m n : ℕ) → 0 < m → m ≤ length (d ∷ s) → At (λ rs. InTable rs spell (take m (d ∷ s))) (tests mode (d ∷ s)) rows n → ⊥
  no_row spell m n some within h =
      untried spell m some within
      (at_test (λ rs. InTable rs spell (take m (d ∷ s))) ((is_blank 0 d, sign Blank d ∷ []) ∷ []) (rows_at mode (d ∷ s)) 1 (visible, at_test (λ rs. InTable rs spell (take m (d ∷ s))) (tests mode (d ∷ s)) rows n h))

  no_header : opens_header mode (d ∷ s) ≡ false
  no_header =
      ⊎_elim
      (λ is. absurd (header_not (d ∷ s) (λ m some within x. no_row (Token Word) m 0 some within (is, inl (refl, x))) (and_parts (mode == 2) (has_header (d ∷ s)) is).1))
      (λ no. no)
      (cases_Bool (opens_header mode (d ∷ s)))

  -- one of the other rows has the first character, or two slashes
  other_taken : begins (codes "/*") (d ∷ s) ≡ false → (b : Bool) → begins (codes "//") (d ∷ s) ≡ b → ⊥
  other_taken apart true e =
      let line = line_there (d ∷ s) e in
      no_row Comment 2 2 (omega arith) line.0 (no_header, (apart, (e, subst (InTable (lines Feed) Comment) (sym line.1) (inl (refl, (refl, (refl, tt)))))))
  other_taken apart false e =
      let row = row_of_one d visible in no_row row.0 1 3 (omega arith) (omega arith) (no_header, (apart, (e, row.1)))

  pub comment_opens : begins (codes "/*") (d ∷ s) ≡ true
  comment_opens = ⊎_elim (λ yes. yes) (λ apart. absurd (other_taken apart (begins (codes "//") (d ∷ s)) refl)) (cases_Bool (begins (codes "/*") (d ∷ s)))

  pub comment_unclosed : LongestAt IsBlockComment (d ∷ s) None
  comment_unclosed = λ m some within x. no_row Comment m 1 some within (no_header, (comment_opens, inl (refl, x)))

pub open_comment : (units : List Unit) (byte : ℕ) → EndsAt c units byte → IsOpenComment units byte
open_comment units byte ends =
    let cut = from_unit units ends.at ends.inside in
    let d = (unit_at units ends.at).ch in
    let s = drop (ends.at + 1) (characters units) in
    let nothing = subst (λ t. Takes c ends.at ends.mode t None) cut ends.nothing in
    record {
      at = ends.at;
      inside = ends.inside;
      byte_is = ends.byte_is;
      opens = ap (begins (codes "/*")) cut ∙ comment_opens ends.at ends.mode d s nothing;
      unclosed = subst (λ t. LongestAt IsBlockComment t None) (sym cut) (comment_unclosed ends.at ends.mode d s nothing);
    }
