-- The element at the front of a text.
use Rattle.std.proofs.Common.{◌≡◌, ℕ, zero, suc, ◌<◌, ◌≤◌, Some, None, Bool, true, false, cond, List, [], ◌∷◌, length, take, refl, sym, subst, arith}
use Rattle.std.proofs.lemmas.Bool.{both_ways}
use Rattle.std.specs.Char.{is_whitespace, is_ascii_digit}
use Rattle.unicode_ident.specs.Ident.{is_xid_continue}
use Rattle.cq_munch.specs.Longest.{IsLongest, LongestAt}
use Rattle.cq_munch.specs.declared.element.Found.{Found}
use Rattle.cq_munch.specs.declared.element.Spell.{Spell}
use Rattle.cq_munch.specs.declared.element.Spell.TheVariants.{Blank, Comment, Token}
use Rattle.cq_base.specs.declared.token.Class.TheVariants.{Ident, Word, Literal, Punct}
use Rattle.cq_munch.specs.declared.unit.Unit.{Unit}
use Rattle.cq_munch.specs.Characters.{characters}
use Rattle.cq_munch.specs.Lexed.{unit_at}
use Rattle.cq_base.specs.declared.token.Class.{Class}
use Rattle.cq_munch.specs.Language.{Takes}
use Rattle.cq_lex_any.specs.Any.{plain, Rows, IsRun, class_of}
use Rattle.cq_lex_any.specs.Apart.{blank_ends_run}

-- two characters or more are a run
long_row : (spell : Spell) (c d : ℕ) (s : List ℕ) → Rows spell (c ∷ d ∷ s) → IsRun (c ∷ d ∷ s)
long_row Blank c d s h = absurd h
long_row Comment c d s h = absurd h
long_row (Token Ident) c d s h = h.0
long_row (Token Literal) c d s h = h.0
long_row (Token Punct) c d s h = absurd h
long_row (Token Word) c d s h = absurd h

longer_row : (text : List ℕ) (m : ℕ) (spell : Spell) → 1 < m → m ≤ length text → Rows spell (take m text) → IsRun (take m text)
longer_row text zero spell more within h = absurd (omega arith)
longer_row text (suc zero) spell more within h = absurd (omega arith)
longer_row [] (suc (suc m)) spell more within h = absurd (omega arith)
longer_row (c ∷ []) (suc (suc m)) spell more within h = absurd (omega arith)
longer_row (c ∷ d ∷ s) (suc (suc m)) spell more within h = long_row spell c d (take m s) h

run_begins : (c : ℕ) (s : List ℕ) (m : ℕ) → 0 < m → IsRun (take m (c ∷ s)) → is_xid_continue c ≡ true
run_begins c s zero some h = absurd (omega arith)
run_begins c s (suc m) some h = h.0

-- one character, with which no run begins
pub one_taken : (at mode c : ℕ) (s : List ℕ) (spell : Spell) → is_xid_continue c ≡ false → Rows spell (c ∷ []) → Takes plain at mode (c ∷ s) (Some (record { spell = spell; units = 1; mode = mode }))
one_taken at mode c s spell apart row = (
  record {
    some = omega arith;
    within = omega arith;
    spelled = (spell, row);
    longest = λ m more within h. both_ways _ apart (run_begins c s m (omega arith) (longer_row (c ∷ s) m h.0 more within h.1));
  },
  row,
  refl,
)

pub blank_taken : (at mode c : ℕ) (s : List ℕ) → is_whitespace c ≡ true → Takes plain at mode (c ∷ s) (Some (record { spell = Blank; units = 1; mode = mode }))
blank_taken at mode c s blank = one_taken at mode c s Blank (blank_ends_run c blank) blank

no_run : (c : ℕ) (s : List ℕ) → LongestAt IsRun (c ∷ s) None → (b : Bool) → is_xid_continue c ≡ b → b ≡ false
no_run c s none true is = absurd (none 1 (omega arith) (omega arith) (is, tt))
no_run c s none false is = refl

pub punct_taken : (at mode c : ℕ) (s : List ℕ) → is_whitespace c ≡ false → LongestAt IsRun (c ∷ s) None → Takes plain at mode (c ∷ s) (Some (record { spell = Token Punct; units = 1; mode = mode }))
punct_taken at mode c s visible none =
    let apart = no_run c s none (is_xid_continue c) refl in one_taken at mode c s (Token Punct) apart (visible, apart)

class_row : (c : ℕ) (s : List ℕ) (b : Bool) → is_ascii_digit c ≡ b → IsRun (c ∷ s) → Rows (Token (cond b Literal Ident)) (c ∷ s)
class_row c s true is run = (run, is)
class_row c s false is run = (run, is)

run_row : (c : ℕ) (s : List ℕ) (n : ℕ) → 0 < n → IsRun (take n (c ∷ s)) → Rows (Token (class_of c)) (take n (c ∷ s))
run_row c s zero some run = absurd (omega arith)
run_row c s (suc n) some run = class_row c (take n s) (is_ascii_digit c) refl run

pub run_taken : (at mode c : ℕ) (s : List ℕ) (n : ℕ) → IsLongest IsRun (c ∷ s) n → Takes plain at mode (c ∷ s) (Some (record { spell = Token (class_of c); units = n; mode = mode }))
run_taken at mode c s n run =
    let row = run_row c s n run.some run.spelled in (
      record {
        some = run.some;
        within = run.within;
        spelled = (Token (class_of c), row);
        longest = λ m more within h. run.longest m more within (longer_row (c ∷ s) m h.0 (let some = run.some in omega arith) within h.1);
      },
      row,
      refl,
    )

-- the same of units
pub blank_units : (units : List Unit) (at mode : ℕ) (r : Found) → 0 < length units → is_whitespace (unit_at units 0).ch ≡ true → r ≡ record { spell = Blank; units = 1; mode = mode } → Takes plain at mode (characters units) (Some r)
blank_units [] at mode r some blank is = absurd (omega arith)
blank_units (u ∷ us) at mode r some blank is =
    subst (λ v. Takes plain at mode (characters (u ∷ us)) (Some v)) (sym is) (blank_taken at mode u.ch (characters us) blank)

pub punct_units : (units : List Unit) (at mode : ℕ) (r : Found) → 0 < length units → is_whitespace (unit_at units 0).ch ≡ false → LongestAt IsRun (characters units) None → r ≡ record { spell = Token Punct; units = 1; mode = mode } → Takes plain at mode (characters units) (Some r)
punct_units [] at mode r some visible none is = absurd (omega arith)
punct_units (u ∷ us) at mode r some visible none is =
    subst (λ v. Takes plain at mode (characters (u ∷ us)) (Some v)) (sym is) (punct_taken at mode u.ch (characters us) visible none)

pub run_units : (units : List Unit) (at mode n : ℕ) (class : Class) → 0 < length units → IsLongest IsRun (characters units) n → class ≡ class_of (unit_at units 0).ch → Takes plain at mode (characters units) (Some (record { spell = Token class; units = n; mode = mode }))
run_units [] at mode n class some run is = absurd (omega arith)
run_units (u ∷ us) at mode n class some run is =
    subst (λ (v : Class). Takes plain at mode (characters (u ∷ us)) (Some (record { spell = Token v; units = n; mode = mode }))) (sym is) (run_taken at mode u.ch (characters us) n run)
