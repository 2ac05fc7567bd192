-- The text blocks of the pattern are those that are written as the standard has them.
use Rattle.std.proofs.Common.{◌≡◌, ℕ, ◌==◌, ◌&&◌, ◌||◌, Bool, true, false, List, [], ◌∷◌, ◌++◌, IsTrue, IsFalse, inl, inr, ⊎_elim, refl, sym, ap, ap₂, subst, ◌∙◌, append_assoc, arith}
use Rattle.std.specs.List.{concat, AllByRecursion}
use Rattle.std.proofs.lemmas.Bool.{eqb-true, eq-eqb, le-leb, leb-true, and_parts, and_from, or_from, cases_Bool, false≢true}
use Rattle.cq_munch.specs.Pattern.{in_range, in_ranges, only, many, optional, ◌▸◌, Spells}
use Rattle.cq_lex_java.specs.Blocks.{is_space, quote, quotes, space, character, part, text_block}
use Rattle.cq_lex_java.specs.TextBlocks.{Part, plain, escaped, spelled, spells, IsPart, is_quote, begins_closing, IsOpen, IsWritten, TextBlocksAreWritten}

-- ---- one character

by_test : (a b : Bool) → (a ≡ true → b ≡ true) → (b ≡ true → a ≡ true) → a ≡ b
by_test true b there back = sym (there refl)
by_test false true there back = back refl
by_test false false there back = refl

in_one : (n c : ℕ) → in_range (n, n) c ≡ (c == n)
in_one n c =
    by_test (in_range (n, n) c) (c == n)
    (λ h. let both = and_parts _ _ h in let low = leb-true n c both.0 in let high = leb-true c n both.1 in eq-eqb c n (omega arith))
    (λ h. let same = eqb-true c n h in and_from _ _ (le-leb n c (omega arith)) (le-leb c n (omega arith)))

or-none : (b : Bool) → (b || false) ≡ b
or-none true = refl
or-none false = refl

in_two : (m n c : ℕ) → in_ranges ((m, m) ∷ (n, n) ∷ []) c ≡ ((c == m) || (c == n))
in_two m n c = ap₂ (λ a b. a || b) (in_one m c) (or-none (in_range (n, n) c) ∙ in_one n c)

in_space : (c : ℕ) → in_ranges ((32, 32) ∷ (9, 9) ∷ (12, 12) ∷ []) c ≡ is_space c
in_space c = ap₂ (λ a b. a || b) (in_one 32 c) (in_two 9 12 c) ∙ apart (c == 32) (c == 9) (c == 12)
  where
    apart : (x y z : Bool) → (x || (y || z)) ≡ ((x || y) || z)
    apart true y z = refl
    apart false y z = refl

only_is : (n : ℕ) (s : List ℕ) → Spells (only n) s → s ≡ n ∷ []
only_is n s h = h.1 ∙ ap (λ c. c ∷ []) (eqb-true h.0 n (sym (or-none (in_range (n, n) h.0) ∙ in_one n h.0) ∙ h.2))

only_there : (n : ℕ) → Spells (only n) (n ∷ [])
only_there n = (n, refl, or-none (in_range (n, n) n) ∙ in_one n n ∙ eq-eqb n n refl)

-- ---- three quotes

abbrev closing : List ℕ
closing = 34 ∷ 34 ∷ 34 ∷ []

quotes_are : (s : List ℕ) → Spells quotes s → s ≡ closing
quotes_are s h = h.2 ∙ ap₂ (λ a b. a ++ b) (only_is 34 h.0 h.3) (h.4.2 ∙ ap₂ (λ a b. a ++ b) (only_is 34 h.4.0 h.4.3) (only_is 34 h.4.1 h.4.4))

quotes_there : Spells quotes closing
quotes_there = (34 ∷ [], 34 ∷ 34 ∷ [], refl, only_there 34, (34 ∷ [], 34 ∷ [], refl, only_there 34, only_there 34))

-- ---- a character of the content, which is no quote

record Character (s : List ℕ) : Type 0 where
  as_part : Part
  text : s ≡ spelled as_part
  is : IsPart as_part
  no_quote : IsFalse (is_quote as_part)

neither : (c : ℕ) → in_ranges ((34, 34) ∷ (92, 92) ∷ []) c ≡ false → ((c == 34) ≡ false) × ((c == 92) ≡ false)
neither c h = by (c == 34) (c == 92) (sym (in_two 34 92 c) ∙ h)
  where
    by : (a b : Bool) → (a || b) ≡ false → (a ≡ false) × (b ≡ false)
    by true b e = absurd (cc)
    by false b e = (refl, e)

character_of : (s : List ℕ) → Spells character s → Character s
character_of s h =
    ⊎_elim
    (λ own. let other = neither own.0 own.2 in record { as_part = plain own.0; text = own.1; is = other.1; no_quote = other.0 })
    (λ two. record { as_part = escaped two.4.0; text = two.2 ∙ ap₂ (λ a b. a ++ b) (only_is 92 two.0 two.3) two.4.1; is = tt; no_quote = refl })
    h

character_there : (p : Part) → IsPart p → IsFalse (is_quote p) → Spells character (spelled p)
character_there (plain c) is unlike = inl (c, refl, in_two 34 92 c ∙ or_from (c == 34) (c == 92) unlike is)
character_there (escaped c) is unlike = inr (92 ∷ [], c ∷ [], refl, only_there 92, (c, refl, refl))

-- ---- content and what closes it

abbrev two : List Part
two = plain 34 ∷ plain 34 ∷ []

record Content (s : List ℕ) : Type 0 where
  parts : List Part
  text : s ≡ spells parts ++ closing
  each : AllByRecursion IsPart parts
  is_open : IsOpen (parts ++ two)

-- no three quotes with a part that is none
not_first : (p : Part) (ps : List Part) → IsFalse (is_quote p) → IsFalse (begins_closing (p ∷ ps))
not_first p [] e = refl
not_first p (q ∷ []) e = refl
not_first p (q ∷ r ∷ ps) e = ap (λ b. b && (is_quote q && is_quote r)) e

not_second : (p : Part) (ps : List Part) → IsFalse (is_quote p) → IsFalse (begins_closing (plain 34 ∷ p ∷ ps))
not_second p [] e = refl
not_second p (r ∷ ps) e = ap (λ b. b && is_quote r) e

spells-append : (ps qs : List Part) → spells (ps ++ qs) ≡ spells ps ++ spells qs
spells-append [] qs = refl
spells-append (p ∷ ps) qs = ap (λ t. spelled p ++ t) (spells-append ps qs) ∙ sym (append_assoc (spelled p) (spells ps) (spells qs))

-- a part more, after some quotes
one_more : (before : List Part) (p : Part) (s : List ℕ) (h : Content s) → AllByRecursion IsPart (before ++ p ∷ h.parts) → IsOpen ((before ++ p ∷ h.parts) ++ two) → Content ((spells before ++ spelled p) ++ s)
one_more before p s h each is_open = record {
  parts = before ++ p ∷ h.parts;
  text = ap (λ t. (spells before ++ spelled p) ++ t) h.text
      ∙ append_assoc (spells before) (spelled p) (spells h.parts ++ closing)
      ∙ ap (λ t. spells before ++ t) (sym (append_assoc (spelled p) (spells h.parts) closing))
      ∙ sym (append_assoc (spells before) (spells (p ∷ h.parts)) closing)
      ∙ ap (λ t. t ++ closing) (sym (spells-append before (p ∷ h.parts)));
  each = each;
  is_open = is_open;
}

part_more : (q c s : List ℕ) → Spells (optional (quote ▸ optional quote)) q → Spells character c → Content s → Content ((q ++ c) ++ s)
part_more q c s few h rest =
    let one = character_of c h in
    let p = one.as_part in
    let first = not_first p (rest.parts ++ two) one.no_quote in
    let second = not_second p (rest.parts ++ two) one.no_quote in
    let like : (before : List Part) → q ≡ spells before → Content ((spells before ++ spelled p) ++ s) → Content ((q ++ c) ++ s) =
    λ before e. subst (λ t. Content (t ++ s)) (sym (ap₂ (λ a b. a ++ b) e one.text)) in
    ⊎_elim
    (λ none. like [] none (one_more [] p s rest (one.is, rest.each) (first, rest.is_open)))
    (λ some.
    let quote_is = only_is 34 some.0 some.3 in
    ⊎_elim
    (λ none. like (plain 34 ∷ []) (some.2 ∙ ap₂ (λ a b. a ++ b) quote_is none) (one_more (plain 34 ∷ []) p s rest (refl, (one.is, rest.each)) (second, (first, rest.is_open))))
    (λ more. like two (some.2 ∙ ap₂ (λ a b. a ++ b) quote_is (only_is 34 some.1 more)) (one_more two p s rest (refl, (refl, (one.is, rest.each))) (one.no_quote, (second, (first, rest.is_open)))))
    some.4)
    few

content_of : (parts : List (List ℕ)) → AllByRecursion (Spells part) parts → Content (concat parts ++ closing)
content_of [] all = record { parts = []; text = refl; each = tt; is_open = (refl, (refl, tt)) }
content_of (a ∷ parts) all =
    let more = part_more all.0.0 all.0.1 (concat parts ++ closing) all.0.3 all.0.4 (content_of parts all.1) in
    subst Content (ap (λ t. t ++ (concat parts ++ closing)) (sym all.0.2) ∙ sym (append_assoc a (concat parts) closing)) more

-- ---- and back

abbrev Inside : List ℕ → Type 0
Inside s = Spells (many part ▸ quotes) s

inside_more : (a s : List ℕ) → Spells part a → Inside s → Inside (a ++ s)
inside_more a s h rest = (
  a ++ rest.0,
  rest.1,
  ap (λ t. a ++ t) rest.2 ∙ sym (append_assoc a rest.0 rest.1),
  (a ∷ rest.3.0, ap (λ t. a ++ t) rest.3.1, (h, rest.3.2)),
  rest.4,
)

quote_or : {A : Type 0} (p : Part) → (p ≡ plain 34 → A) → (is_quote p ≡ false → A) → A
quote_or (escaped c) there other = other refl
quote_or (plain c) there other = ⊎_elim (λ is. there (ap plain (eqb-true c 34 is))) other (cases_Bool (c == 34))

-- parts after some quotes, of which no third follows
abbrev Closes : List Part → List Part → Type 0
Closes before ps = IsOpen (before ++ (ps ++ two)) → Inside (spells before ++ (spells ps ++ closing))

-- a part that is no quote
at_part : (before : List Part) → Spells (optional (quote ▸ optional quote)) (spells before) → (p : Part) (ps : List Part) → IsPart p → IsFalse (is_quote p) → (IsOpen (before ++ (p ∷ ps ++ two)) → IsOpen (ps ++ two))
    → Closes [] ps → Closes before (p ∷ ps)
at_part before few p ps is unlike later rest = λ is_open.
    subst Inside (append_assoc (spells before) (spelled p) (spells ps ++ closing) ∙ ap (λ t. spells before ++ t) (sym (append_assoc (spelled p) (spells ps) closing)))
    (inside_more (spells before ++ spelled p) (spells ps ++ closing) (spells before, spelled p, refl, few, character_there p is unlike) (rest (later is_open)))

closes : (ps : List Part) → AllByRecursion IsPart ps → Closes [] ps × Closes (plain 34 ∷ []) ps × Closes two ps
closes [] each = (λ is_open. ([], closing, refl, ([], refl, tt), quotes_there), λ is_open. absurd (false≢true (sym is_open.0)), λ is_open. absurd (false≢true (sym is_open.0)))
closes (p ∷ ps) each =
    let rest = closes ps each.1 in
    let one : Spells (optional (quote ▸ optional quote)) (34 ∷ []) = inr (34 ∷ [], [], refl, only_there 34, inl refl) in
    let both : Spells (optional (quote ▸ optional quote)) (34 ∷ 34 ∷ []) = inr (34 ∷ [], 34 ∷ [], refl, only_there 34, inr (only_there 34)) in
    quote_or p
    (λ is. subst (λ q. Closes [] (q ∷ ps) × Closes (plain 34 ∷ []) (q ∷ ps) × Closes two (q ∷ ps)) (sym is) (rest.1, rest.2, λ is_open. absurd (false≢true (sym is_open.0))))
    (λ unlike. (
      at_part [] (inl refl) p ps each.0 unlike (λ o. o.1) rest.0,
      at_part (plain 34 ∷ []) one p ps each.0 unlike (λ o. o.1.1) rest.0,
      at_part two both p ps each.0 unlike (λ o. o.1.1.1) rest.0,
    ))

-- ---- blanks

abbrev AreBlank : List ℕ → Type 0
AreBlank s = AllByRecursion (λ c. IsTrue (is_space c)) s

are_blank : (parts : List (List ℕ)) → AllByRecursion (Spells space) parts → AreBlank (concat parts)
are_blank [] all = tt
are_blank (a ∷ parts) all = subst (λ s. AreBlank (s ++ concat parts)) (sym all.0.1) (sym (in_space all.0.0) ∙ all.0.2, are_blank parts all.1)

blanks_there : (blanks : List ℕ) → AreBlank blanks → Spells (many space) blanks
blanks_there [] are = ([], refl, tt)
blanks_there (c ∷ cs) are = let rest = blanks_there cs are.1 in ((c ∷ []) ∷ rest.0, ap (λ s. c ∷ s) rest.1, ((c, refl, in_space c ∙ are.0), rest.2))

-- ---- whole

written : (s : List ℕ) → Spells text_block s → IsWritten s
unfolding text_block
written s h =
    let after_quotes = h.4 in
    let blanks = after_quotes.3 in
    let after_blanks = after_quotes.4 in
    let end = after_blanks.3 in
    let inside = after_blanks.4 in
    let content = content_of inside.3.0 inside.3.2 in
    record {
      blanks = after_quotes.0;
      line_end = end.0;
      content = content.parts;
      text = h.2
          ∙ ap₂ (λ a b. a ++ b) (quotes_are h.0 h.3)
          (after_quotes.2 ∙ ap (λ t. after_quotes.0 ++ t) (after_blanks.2 ∙ ap₂ (λ a b. a ++ b) end.1 (inside.2 ∙ ap₂ (λ a b. a ++ b) inside.3.1 (quotes_are inside.1 inside.4) ∙ content.text))
          ∙ sym (append_assoc after_quotes.0 (end.0 ∷ spells content.parts) closing));
      are_blanks = subst AreBlank (sym blanks.1) (are_blank blanks.0 blanks.2);
      ends_line = sym (in_two 13 10 end.0) ∙ end.2;
      is_content = (content.each, content.is_open);
    }

block_of : (s : List ℕ) → IsWritten s → Spells text_block s
unfolding text_block
block_of s h =
    subst (Spells text_block) (sym (h.text ∙ ap (λ t. closing ++ t) (append_assoc h.blanks (h.line_end ∷ spells h.content) closing))) (
      closing,
      h.blanks ++ h.line_end ∷ (spells h.content ++ closing),
      refl,
      quotes_there,
      (
        h.blanks,
        h.line_end ∷ (spells h.content ++ closing),
        refl,
        blanks_there h.blanks h.are_blanks,
        (h.line_end ∷ [], spells h.content ++ closing, refl, (h.line_end, refl, in_two 13 10 h.line_end ∙ h.ends_line), (closes h.content h.is_content.0).0 h.is_content.1),
      ),
    )

pub are_written : TextBlocksAreWritten
are_written s = (written s, block_of s)
