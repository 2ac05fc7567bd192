-- The scans of comments.
use Rattle.std.proofs.Common.{◌≡◌, ℕ, zero, suc, ◌+◌, ◌<◌, ◌≤◌, ◌==◌, ◌&&◌, ◌↔◌, Bool, true, false, Some, None, List, [], ◌∷◌, length, take, get_or, refl, sym, ap, ap₂, subst, ◌∙◌, ⊎_elim, arith}
use Rattle.std.proofs.lemmas.Bool.{eqb-true, eq-eqb, ne_eqb, cases_lt, false≢true, and_parts, and_from, and_left, and_right, MatchBool-at_false}
use Rattle.std.proofs.lemmas.List.{length-map}
use Rattle.cq_base.proofs.Bools.{MatchBool-from_false}
use Rattle.cq_munch.specs.declared.ends.LineEnds.{LineEnds}
use Rattle.cq_munch.specs.declared.unit.Unit.{Unit}
use Rattle.cq_munch.specs.Characters.{characters}
use Rattle.cq_munch.specs.Comments.{IsAfter, EndsAtClose, IsBlockComment, IsOneLine, IsLineComment}
use Rattle.cq_munch.specs.Lexed.{unit_at}
use Rattle.cq_munch.specs.LineEnds.{ends_line}
use Rattle.cq_munch.specs.Longest.{LongestAt}
use Rattle.cq_munch.specs.Table.{begins}
use Rattle.cq_munch.specs.Scans.{Scanned}
use Rattle.cq_munch.proofs.Front.{scanned_none, scanned_kept, scanned_won, scanned_stopped, scanned_all, scanned_ended, ch_at, as_many}

-- ---- two characters that open a comment

-- the spellings that begin with a slash and a character
abbrev Opened : ℕ → (List ℕ → Type 0) → List ℕ → Type 0
Opened d Follows s = IsAfter 47 (IsAfter d Follows) s

begins_so : (d : ℕ) (Follows : List ℕ → Type 0) (text : List ℕ) (m : ℕ) → Opened d Follows (take m text) → begins (47 ∷ d ∷ []) text ≡ true
begins_so d Follows text zero h = absurd h
begins_so d Follows [] (suc m) h = absurd h
begins_so d Follows (a ∷ text) (suc zero) h = absurd h.1
begins_so d Follows (a ∷ []) (suc (suc m)) h = absurd h.1
begins_so d Follows (a ∷ b ∷ text) (suc (suc m)) h = and_from (a == 47) ((b == d) && true) h.0 (and_from (b == d) true h.1.0 refl)

none_opens : (d : ℕ) (Follows : List ℕ → Type 0) (text : List ℕ) → begins (47 ∷ d ∷ []) text ≡ false → LongestAt (Opened d Follows) text None
none_opens d Follows text none = λ m some within spelled. absurd (false≢true (sym none ∙ begins_so d Follows text m spelled))

two_there : (d : ℕ) (text : List ℕ) → begins (47 ∷ d ∷ []) text ≡ true → (2 ≤ length text) × (get_or text 0 0 ≡ 47) × (get_or text 1 0 ≡ d)
two_there d [] opens = absurd (cc)
two_there d (a ∷ []) opens = absurd (false≢true (and_parts (a == 47) false opens).1)
two_there d (a ∷ b ∷ text) opens =
    let both = and_parts (a == 47) ((b == d) && true) opens in
    (omega arith, eqb-true a 47 both.0, eqb-true b d (and_parts (b == d) true both.1).0)

behind_slash : (d : ℕ) (Follows : List ℕ → Type 0) (text : List ℕ) → begins (47 ∷ d ∷ []) text ≡ true → Scanned (Opened d Follows) (IsAfter d Follows) text 1 None
behind_slash d Follows text opens =
    let there = two_there d text opens in
    scanned_kept (scanned_none (Opened d Follows) text) 47 (omega (arith, there.0)) there.1 (IsAfter d Follows) (λ s. (λ h. h.1, λ h. (refl, h))) (λ h. h)

goes_behind : (d : ℕ) (Follows : List ℕ → Type 0) (s : List ℕ) → IsAfter d Follows (d ∷ s) ↔ Follows s
goes_behind d Follows s = (λ h. h.1, λ h. (eq-eqb d d refl, h))

-- ---- comments in slashes and stars

none_ends : (star : Bool) → EndsAtClose star [] → ⊥
none_ends true h = h
none_ends false h = h

-- a character that doesn't close it
no_close : (star : Bool) (c : ℕ) → (star && (c == 47)) ≡ false → (s : List ℕ) → EndsAtClose star (c ∷ s) ↔ EndsAtClose (c == 42) s
no_close true c unclosed s = (
  λ h. MatchBool-at_false (s ≡ []) (EndsAtClose (c == 42) s) unclosed h,
  λ h. MatchBool-from_false (c == 47) (s ≡ []) (EndsAtClose (c == 42) s) unclosed h,
)
no_close false c unclosed s = (λ h. h, λ h. h)

-- as far as this character it is not closed
abbrev Open : List ℕ → ℕ → Type 0
Open text at = Scanned IsBlockComment (EndsAtClose (get_or text at 0 == 42)) text (at + 1) None

swapped : (a b : Bool) → (a && b) ≡ false → (b && a) ≡ false
swapped true b h = and_left b true h
swapped false b h = and_right b false refl

-- the character closes it, after the one before it
abbrev closes : List ℕ → ℕ → Bool
closes text at = (get_or text (at + 1) 0 == 47) && (get_or text at 0 == 42)

-- where it doesn't, the comment is open after it
still_open : (text : List ℕ) (at : ℕ) → Open text at → at + 1 < length text → closes text at ≡ false → Open text (at + 1)
still_open text at unclosed inside none =
    scanned_kept unclosed (get_or text (at + 1) 0) inside refl (EndsAtClose (get_or text (at + 1) 0 == 42))
    (no_close (get_or text at 0 == 42) (get_or text (at + 1) 0) (swapped (get_or text (at + 1) 0 == 47) (get_or text at 0 == 42) none)) (none_ends (get_or text (at + 1) 0 == 42))

-- up to this character it is not closed, which may be the first after the text
pub record IsOpenTo (text : List ℕ) (at : ℕ) : Type 0 where
  pub here : at < length text → Open text at
  pub nowhere : length text ≤ at → LongestAt IsBlockComment text None

all_open : (text : List ℕ) (at : ℕ) → Open text at → length text ≤ at + 1 → LongestAt IsBlockComment text None
all_open text at unclosed end = scanned_all IsBlockComment (EndsAtClose (get_or text at 0 == 42)) text (at + 1) None unclosed end

-- one character further
one_further : (text : List ℕ) (at : ℕ) → IsOpenTo text at → at + 1 < length text → closes text at ≡ false → IsOpenTo text (at + 1)
one_further text at unclosed inside none = record {
  here = λ _. still_open text at (unclosed.here (omega arith)) inside none;
  nowhere = λ end. absurd (omega arith);
}

-- two, where the first of them is no star
two_further : (text : List ℕ) (at : ℕ) → IsOpenTo text at → at + 1 < length text → closes text at ≡ false → (get_or text (at + 1) 0 == 42) ≡ false → IsOpenTo text (at + 2)
two_further text at unclosed inside none no_star =
    let next : Open text (at + 1) = still_open text at (unclosed.here (omega arith)) inside none in
    let same : at + 1 + 1 ≡ at + 2 = omega arith in
    record {
      here = λ more. subst (Open text) same (still_open text (at + 1) next (omega (arith, more)) (and_right (get_or text (at + 1 + 1) 0 == 47) (get_or text (at + 1) 0 == 42) no_star));
      nowhere = λ end. all_open text (at + 1) next (omega (arith, end));
    }

-- it is opened
pub opened_block : (text : List ℕ) → begins (47 ∷ 42 ∷ []) text ≡ true → IsOpenTo text 2
opened_block text opens =
    let there = two_there 42 text opens in
    let two : Scanned IsBlockComment (EndsAtClose false) text 2 None =
    scanned_kept (behind_slash 42 (EndsAtClose false) text opens) 42 (omega (arith, there.0)) there.2 (EndsAtClose false) (goes_behind 42 (EndsAtClose false)) (none_ends false) in
    record {
      here = λ inside. scanned_kept two (get_or text 2 0) inside refl (EndsAtClose (get_or text 2 0 == 42)) (no_close false (get_or text 2 0) refl) (none_ends (get_or text 2 0 == 42));
      nowhere = λ end. scanned_all IsBlockComment (EndsAtClose false) text 2 None two end;
    }

pub not_opened_block : (text : List ℕ) → begins (47 ∷ 42 ∷ []) text ≡ false → LongestAt IsBlockComment text None
not_opened_block text none = none_opens 42 (EndsAtClose false) text none

-- a star, and a slash after it
closed : (text : List ℕ) (at : ℕ) → Open text at → at + 1 < length text → closes text at ≡ true → LongestAt IsBlockComment text (Some (at + 2))
closed text at unclosed inside close =
    let both = and_parts (get_or text (at + 1) 0 == 47) (get_or text at 0 == 42) close in
    let starred : Scanned IsBlockComment (EndsAtClose true) text (at + 1) None = subst (λ (b : Bool). Scanned IsBlockComment (EndsAtClose b) text (at + 1) None) both.1 unclosed in
    let slash : get_or text (at + 1) 0 ≡ 47 = eqb-true (get_or text (at + 1) 0) 47 both.0 in
    let won : Scanned IsBlockComment (λ s. s ≡ []) text (at + 1 + 1) (Some (at + 1 + 1)) = scanned_won starred 47 inside slash (λ s. s ≡ []) (λ s. (λ h. h, λ h. h)) refl in
    let same : at + 1 + 1 ≡ at + 2 = omega arith in
    subst (λ n. LongestAt IsBlockComment text (Some n)) same (scanned_ended IsBlockComment (λ s. s ≡ []) text (at + 1 + 1) (Some (at + 1 + 1)) won (λ c s h. absurd (cc)))

-- ---- comments after two slashes

abbrev pub OneLine : LineEnds → List ℕ → ℕ → Type 0
OneLine ends text at = Scanned (IsLineComment ends) (IsOneLine ends) text at (Some at)

pub opened_line : (ends : LineEnds) (text : List ℕ) → begins (47 ∷ 47 ∷ []) text ≡ true → OneLine ends text 2
opened_line ends text opens =
    let there = two_there 47 text opens in
    scanned_won (behind_slash 47 (IsOneLine ends) text opens) 47 (omega (arith, there.0)) there.2 (IsOneLine ends) (goes_behind 47 (IsOneLine ends)) tt

pub not_opened_line : (ends : LineEnds) (text : List ℕ) → begins (47 ∷ 47 ∷ []) text ≡ false → LongestAt (IsLineComment ends) text None
not_opened_line ends text none = none_opens 47 (IsOneLine ends) text none

-- ---- the same of units

module _ (units : List Unit) (at : ℕ) (inside : at + 1 < length units) where
  closes_there : closes (characters units) at ≡ (((unit_at units (at + 1)).ch == 47) && ((unit_at units at).ch == 42))
  closes_there = ap₂ (λ a b. (a == 47) && (b == 42)) (ch_at units (at + 1) inside) (ch_at units at (omega (arith, inside)))

  pub one_open : IsOpenTo (characters units) at → false ≡ (((unit_at units (at + 1)).ch == 47) && ((unit_at units at).ch == 42)) → IsOpenTo (characters units) (at + 1)
  one_open unclosed none = one_further (characters units) at unclosed (as_many units (at + 1) inside) (closes_there ∙ sym none)

  pub two_open : IsOpenTo (characters units) at → false ≡ (((unit_at units (at + 1)).ch == 47) && ((unit_at units at).ch == 42)) → ((unit_at units (at + 1)).ch ≡ 42 → ⊥) → IsOpenTo (characters units) (at + 2)
  two_open unclosed none other =
      two_further (characters units) at unclosed (as_many units (at + 1) inside) (closes_there ∙ sym none)
      (ap (λ c. c == 42) (ch_at units (at + 1) inside) ∙ ne_eqb (unit_at units (at + 1)).ch 42 other)

  pub closed_here : IsOpenTo (characters units) at → true ≡ (((unit_at units (at + 1)).ch == 47) && ((unit_at units at).ch == 42)) → LongestAt IsBlockComment (characters units) (Some (at + 2))
  closed_here unclosed close =
      let within = as_many units (at + 1) inside in
      closed (characters units) at (unclosed.here (omega (arith, within))) within (closes_there ∙ sym close)

pub never_closed : (units : List Unit) (at : ℕ) → IsOpenTo (characters units) at → length units ≤ at + 1 → LongestAt IsBlockComment (characters units) None
never_closed units at unclosed end =
    let many = length-map units (λ (u : Unit). u.ch) in
    ⊎_elim
    (λ inside. all_open (characters units) at (unclosed.here inside) (omega (arith, many, end)))
    (λ behind. unclosed.nowhere behind)
    (cases_lt at (length (characters units)))

module _ (ends : LineEnds) (units : List Unit) (at : ℕ) (so_far : OneLine ends (characters units) at) where
  -- a character more of the line
  pub line_goes_on : at < length units → false ≡ ends_line ends (unit_at units at).ch → OneLine ends (characters units) (at + 1)
  line_goes_on inside none =
      let goes : ends_line ends (get_or (characters units) at 0) ≡ false = ap (ends_line ends) (ch_at units at inside) ∙ sym none in
      scanned_won so_far (get_or (characters units) at 0) (as_many units at inside) refl (IsOneLine ends) (λ s. (λ h. h.1, λ h. (goes, h))) tt

  -- the line ends there
  pub line_ends_at : at < length units → true ≡ ends_line ends (unit_at units at).ch → LongestAt (IsLineComment ends) (characters units) (Some at)
  line_ends_at inside end =
      let there : ends_line ends (get_or (characters units) at 0) ≡ true = ap (ends_line ends) (ch_at units at inside) ∙ sym end in
      scanned_stopped so_far (get_or (characters units) at 0) (as_many units at inside) refl (λ s h. absurd (false≢true (sym h.0 ∙ there)))

  -- it goes to the end
  pub line_to_end : length units ≤ at → LongestAt (IsLineComment ends) (characters units) (Some (length units))
  line_to_end end =
      let many = length-map units (λ (u : Unit). u.ch) in
      let best = scanned_all (IsLineComment ends) (IsOneLine ends) (characters units) at (Some at) so_far (omega (arith, many, end)) in
      let same : at ≡ length units = omega (arith, many, end, best.within) in
      subst (λ n. LongestAt (IsLineComment ends) (characters units) (Some n)) same best
