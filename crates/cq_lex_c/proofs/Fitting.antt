-- The longest text with a prefix, from the longest after the prefix.
use Rattle.std.proofs.Common.{◌≡◌, ◌⊎◌, ℕ, zero, suc, ◌+◌, ◌-◌, ◌<◌, ◌≤◌, Option, Some, None, ◌==◌, List, [], ◌∷◌, ◌↔◌, length, get_or, take, drop, refl, sym, subst, ap, ◌∙◌, inl, inr, ⊎_elim, arith, length-drop, zero-le}
use Rattle.std.specs.Option.{option_map}
use Rattle.std.proofs.lemmas.Bool.{eqb-true}
use Rattle.std.proofs.lemmas.List.{drop-drop, drop_more, length-map}
use Rattle.cq_munch.specs.Characters.{characters}
use Rattle.cq_munch.specs.Comments.{IsAfter}
use Rattle.cq_munch.specs.Lexed.{unit_at}
use Rattle.cq_munch.specs.declared.unit.Unit.{Unit}
use Rattle.cq_munch.proofs.Front.{ch_at, as_many}
use Rattle.cq_munch.specs.Longest.{LongestAt}
use Rattle.cq_munch.specs.Once.{NoneBegins}
use Rattle.cq_munch.specs.Pattern.{Pattern, Spells}
use Rattle.cq_lex_c.specs.Texts.{constant, IsString, IsText, IsSmall, IsPrefixed}
use Rattle.cq_lex_c.specs.Quoting.{string_first, character_first, text_first}

-- the same spellings at the front have the same longest one
pub longest_front : (S T : List ℕ → Type 0) (text : List ℕ) → ((m : ℕ) → 0 < m → m ≤ length text → S (take m text) ↔ T (take m text)) → (r : Option ℕ) → LongestAt S text r → LongestAt T text r
longest_front S T text same None h = λ m some within spelled. h m some within ((same m some within).1 spelled)
longest_front S T text same (Some n) h = record {
  some = h.some;
  within = h.within;
  spelled = (same n h.some h.within).0 h.spelled;
  longest = λ m more within spelled. h.longest m more within ((same m (omega arith) within).1 spelled);
}

-- one character before
pub longest_behind : (S T : List ℕ → Type 0) (c : ℕ) (t : List ℕ) → ((s : List ℕ) → S (c ∷ s) ↔ T s) → (T [] → ⊥) → (r : Option ℕ) → LongestAt T t r → LongestAt S (c ∷ t) (option_map suc r)
longest_behind S T c t same none None h = by
  where
    by : (m : ℕ) → 0 < m → m ≤ length (c ∷ t) → S (take m (c ∷ t)) → ⊥
    by zero some within spelled = omega arith
    by (suc zero) some within spelled = none ((same []).0 spelled)
    by (suc (suc m)) some within spelled = h (suc m) (omega arith) (omega arith) ((same (take (suc m) t)).0 spelled)
longest_behind S T c t same none (Some n) h = record {
  some = omega arith;
  within = omega (arith, h.within);
  spelled = (same (take n t)).1 h.spelled;
  longest = by;
}
  where
    by : (m : ℕ) → suc n < m → m ≤ length (c ∷ t) → S (take m (c ∷ t)) → ⊥
    by zero more within spelled = omega arith
    by (suc m) more within spelled = h.longest m (omega arith) (omega arith) ((same (take m t)).0 spelled)

first_of_front : (text : List ℕ) (m : ℕ) → 0 < m → get_or (take m text) 0 0 ≡ get_or text 0 0
first_of_front text zero some = absurd (omega arith)
first_of_front [] (suc m) some = refl
first_of_front (c ∷ t) (suc m) some = refl

-- ---- texts without a prefix

pub text_of_string : (text : List ℕ) → get_or text 0 0 ≡ 34 → (r : Option ℕ) → LongestAt IsString text r → LongestAt IsText text r
text_of_string text is r h =
    longest_front IsString IsText text
    (λ m some within. (
      λ s. inl s,
      λ h. ⊎_elim (λ s. s) (λ s. let e : 34 ≡ 39 = sym is ∙ sym (first_of_front text m some) ∙ character_first (take m text) s in absurd (omega (arith, e))) h,
    ))
    r h

pub text_of_character : (text : List ℕ) → (get_or text 0 0 ≡ 34 → ⊥) → (r : Option ℕ) → LongestAt (Spells constant) text r → LongestAt IsText text r
text_of_character text other r h =
    longest_front (Spells constant) IsText text
    (λ m some within. (
      λ s. inr s,
      λ h. ⊎_elim (λ s. absurd (other (sym (first_of_front text m some) ∙ string_first (take m text) s))) (λ s. s) h,
    ))
    r h

-- ---- texts with a prefix

after_first : (c : ℕ) (S : List ℕ → Type 0) (s : List ℕ) → IsAfter c S s → get_or s 0 0 ≡ c
after_first c S [] h = absurd h
after_first c S (d ∷ s) h = eqb-true d c h.0

no_string : IsString [] → ⊥
no_string h = let n : 0 ≡ 34 = string_first [] h in omega (arith, n)

no_text : IsText [] → ⊥
no_text h = ⊎_elim (λ e. let n : 0 ≡ 34 = e in omega (arith, n)) (λ e. let n : 0 ≡ 39 = e in omega (arith, n)) (text_first [] h)

no_small : IsSmall [] → ⊥
no_small h = ⊎_elim no_text (λ b. b) h

text_apart : (s : List ℕ) → get_or s 0 0 ≡ 56 → IsText s → ⊥
text_apart s is h = ⊎_elim (λ e. let n : 56 ≡ 34 = sym is ∙ e in omega (arith, n)) (λ e. let n : 56 ≡ 39 = sym is ∙ e in omega (arith, n)) (text_first s h)

pub small_text : (text : List ℕ) → (get_or text 0 0 ≡ 56 → ⊥) → (r : Option ℕ) → LongestAt IsText text r → LongestAt IsSmall text r
small_text text other r h =
    longest_front IsText IsSmall text
    (λ m some within. (λ a. inl a, λ h. ⊎_elim (λ a. a) (λ b. absurd (other (sym (first_of_front text m some) ∙ after_first 56 IsString (take m text) b))) h))
    r h

same_eight : (c : ℕ) → c ≡ 56 → (s : List ℕ) → IsSmall (c ∷ s) ↔ IsString s
same_eight c is s = (λ h. ⊎_elim (λ a. absurd (text_apart (c ∷ s) is a)) (λ b. b.1) h, λ a. inr (ap (λ d. d == 56) is, a))

same_small : (c : ℕ) → c ≡ 117 → (s : List ℕ) → IsPrefixed (c ∷ s) ↔ IsSmall s
same_small c is s = (
  λ h. ⊎_elim (λ a. a.1) (λ h. ⊎_elim
      (λ b. let e : 117 ≡ 85 = sym is ∙ after_first 85 IsText (c ∷ s) b in absurd (omega (arith, e)))
      (λ b. let e : 117 ≡ 76 = sym is ∙ after_first 76 IsText (c ∷ s) b in absurd (omega (arith, e))) h) h,
  λ a. inl (ap (λ d. d == 117) is, a),
)

same_big : (c : ℕ) → (c ≡ 85) ⊎ (c ≡ 76) → (s : List ℕ) → IsPrefixed (c ∷ s) ↔ IsText s
same_big c is s = (
  λ h. ⊎_elim
      (λ a. let e = after_first 117 IsSmall (c ∷ s) a in ⊎_elim (λ x. absurd (omega (arith, e, x))) (λ x. absurd (omega (arith, e, x))) is)
      (λ h. ⊎_elim (λ b. b.1) (λ b. b.1) h) h,
  λ a. ⊎_elim (λ x. inr (inl (ap (λ d. d == 85) x, a))) (λ x. inr (inr (ap (λ d. d == 76) x, a))) is,
)

-- the first character, and the rest
cut : (text : List ℕ) → 0 < length text → text ≡ get_or text 0 0 ∷ drop 1 text
cut [] some = absurd (omega arith)
cut (c ∷ t) some = refl

module _ (text : List ℕ) (some : 0 < length text) (r : Option ℕ) where
  pub eight_string : get_or text 0 0 ≡ 56 → LongestAt IsString (drop 1 text) r → LongestAt IsSmall text (option_map suc r)
  eight_string is h =
      subst (λ t. LongestAt IsSmall t (option_map suc r)) (sym (cut text some)) (longest_behind IsSmall IsString (get_or text 0 0) (drop 1 text) (same_eight (get_or text 0 0) is) no_string r h)

  pub prefixed_small : get_or text 0 0 ≡ 117 → LongestAt IsSmall (drop 1 text) r → LongestAt IsPrefixed text (option_map suc r)
  prefixed_small is h =
      subst (λ t. LongestAt IsPrefixed t (option_map suc r)) (sym (cut text some)) (longest_behind IsPrefixed IsSmall (get_or text 0 0) (drop 1 text) (same_small (get_or text 0 0) is) no_small r h)

  pub prefixed_big : (get_or text 0 0 ≡ 85) ⊎ (get_or text 0 0 ≡ 76) → LongestAt IsText (drop 1 text) r → LongestAt IsPrefixed text (option_map suc r)
  prefixed_big is h =
      subst (λ t. LongestAt IsPrefixed t (option_map suc r)) (sym (cut text some)) (longest_behind IsPrefixed IsText (get_or text 0 0) (drop 1 text) (same_big (get_or text 0 0) is) no_text r h)

pub prefixed_none : (text : List ℕ) → (get_or text 0 0 ≡ 117 → ⊥) → (get_or text 0 0 ≡ 85 → ⊥) → (get_or text 0 0 ≡ 76 → ⊥) → LongestAt IsPrefixed text None
prefixed_none text small big wide = λ m some within h.
    let first = first_of_front text m some in
    ⊎_elim (λ a. small (sym first ∙ after_first 117 IsSmall (take m text) a))
    (λ h. ⊎_elim (λ b. big (sym first ∙ after_first 85 IsText (take m text) b)) (λ b. wide (sym first ∙ after_first 76 IsText (take m text) b)) h) h

pub text_none : (text : List ℕ) → (get_or text 0 0 ≡ 34 → ⊥) → (get_or text 0 0 ≡ 39 → ⊥) → LongestAt IsText text None
text_none text double single = λ m some within h.
    let first = first_of_front text m some in
    ⊎_elim (λ e. double (sym first ∙ e)) (λ e. single (sym first ∙ e)) (text_first (take m text) h)

-- ---- at a unit

-- the first character there
pub first_at : (units : List Unit) (at : ℕ) → at < length units → get_or (drop at (characters units)) 0 0 ≡ (unit_at units at).ch
first_at units at inside = ap (λ t. get_or t 0 0) (drop_more (characters units) at 0 (as_many units at inside)) ∙ ch_at units at inside

-- what comes after it
pub behind_at : (text : List ℕ) (at : ℕ) → drop (at + 1) text ≡ drop 1 (drop at text)
behind_at text at = sym (drop-drop 1 at text ∙ ap (λ k. drop k text) (omega arith))

pub some_at : (units : List Unit) (at : ℕ) → at < length units → 0 < length (drop at (characters units))
some_at units at inside = let left = length-drop at (characters units) in let many = length-map units (λ (u : Unit). u.ch) in omega arith

-- none begins from a unit on, as far as a scan from there has read
pub none_behind : (p : Pattern) (text : List ℕ) (at read : ℕ) → NoneBegins p (drop at text) 0 read → NoneBegins p text at (at + read)
none_behind p text at read h = λ k from to. subst (λ t. LongestAt (Spells p) t None) (drop-drop (k - at) at text ∙ ap (λ n. drop n text) (omega arith)) (h (k - at) zero-le (omega arith))

-- after the last unit no 8 stands
pub nothing_at : (units : List Unit) (at : ℕ) → length units ≤ at → get_or (drop at (characters units)) 0 0 ≡ 56 → ⊥
nothing_at units at end = by (drop at (characters units)) (let left = length-drop at (characters units) in let many = length-map units (λ (u : Unit). u.ch) in omega arith)
  where
    by : (t : List ℕ) → length t ≤ 0 → get_or t 0 0 ≡ 56 → ⊥
    by [] none e = let is : 0 ≡ 56 = e in omega (arith, is)
    by (c ∷ t) none e = omega arith
