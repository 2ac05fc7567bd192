-- Scanners as tables, and when a table fits patterns.
use Rattle.std.specs.Prelude.{◌≡◌, ℕ, zero, suc, ◌-◌, ◌<◌, ◌==◌, ◌&&◌, not, nat_lt, nat_le, if◌then◌else◌, Bool, true, false, Option, Some, None, List, [], ◌∷◌, length, map, take, slice_index_or}
use Rattle.std.specs.Bool.{beq}
use Rattle.std.specs.List.{list_all, position_or_len}
use Rattle.cq_munch.specs.Behind.{after, agree, all_below, any_takes_empty, each_below, entry_ok}
use Rattle.cq_munch.specs.Longest.{IsLongest, LongestAt}
use Rattle.cq_munch.specs.Pattern.{Pattern}
use Rattle.cq_munch.specs.declared.automaton.Automaton.{Automaton}

pub record Tables : Type 0 where
  pub classes : List ℕ
  pub steps : List (List ℕ)
  pub ends : List ℕ

abbrev pub tables_of : Automaton → Tables
tables_of by = record { classes = by.classes.now; steps = by.steps.now; ends = by.ends.now }

-- the class of a character, which is 0 past those that the table lists
abbrev pub class_at : List ℕ → ℕ → ℕ
class_at classes c = slice_index_or classes c 0

-- one more than the next state, or 0 if there is none; the table has it as a character from 48, a `0`, on
abbrev pub entry_at : Tables → ℕ → ℕ → ℕ
entry_at t s c = slice_index_or (slice_index_or t.steps s []) (class_at t.classes c) 0 - 48

-- One more than the row that has these characters, read from a state, or 0 if no row has them. The state too is given as
-- one more than its number, or 0 if there is none.
abbrev pub row_from : Tables → ℕ → List ℕ → ℕ
row_from t zero s = 0
row_from t (suc n) [] = slice_index_or t.ends n 0
row_from t (suc n) (c ∷ s) = row_from t (entry_at t n c) s

-- one more than the row that has this spelling, or 0 if no row has it
abbrev pub row_of : Tables → List ℕ → ℕ
row_of t s = row_from t 1 s

abbrev pub HasRow : Tables → List ℕ → Type 0
HasRow t s = 0 < row_of t s

-- the length of the longest spelling at the front, and its row; None exactly if no row has one
abbrev pub RowAt : Tables → List ℕ → Option (ℕ × ℕ) → Type 0
RowAt t text None = LongestAt (HasRow t) text None
RowAt t text (Some found) = IsLongest (HasRow t) text found.0 × (row_of t (take found.0 text) ≡ suc found.1)

-- ---- the test of a table, which computes

-- what a pattern leaves after each of the texts that lead to the states; no characters lead to the first state
abbrev pub lefts : Pattern → List (List ℕ) → List (List Pattern)
lefts p texts = map (λ text. after text (p ∷ [])) ([] ∷ texts)

abbrev pub left_at : List (List Pattern) → ℕ → List Pattern
left_at ls s = slice_index_or ls s []

abbrev pub left_by : List (List Pattern) → ℕ → Option (List Pattern)
left_by ls zero = None
left_by ls (suc s) = Some (left_at ls s)

-- a step leads to the state whose text leaves the same
abbrev pub step_fits : List (List Pattern) → Tables → ℕ → ℕ → Bool
step_fits ls t c s = entry_ok (left_at ls s) c (left_by ls (entry_at t s c))

-- the first character of the same class
abbrev pub stand_in : List ℕ → ℕ → ℕ
stand_in classes c = if class_at classes c == 0 then 130 else position_or_len (λ k. k == class_at classes c) classes

-- another character stands for this one, and the pattern tells neither from the other
abbrev pub is_stood_for : Pattern → List ℕ → ℕ → Bool
is_stood_for p classes c = not (stand_in classes c == c) && (nat_lt (stand_in classes c) 131 && ((class_at classes (stand_in classes c) == class_at classes c) && agree c (stand_in classes c) p))

-- one test passes, or else another, which is computed only then
abbrev pub or_else : Bool → (Unit {0} → Bool) → Bool
or_else true other = true
or_else false other = other tt

-- the steps of each state at a character fit; 130 stands for each character from there on
abbrev pub character_fits : Pattern → List (List Pattern) → Tables → ℕ → Bool
character_fits p ls t c = or_else (is_stood_for p t.classes c) (λ u. each_below (length ls) (step_fits ls t c))

-- the row's spellings may end in just these states
abbrev pub end_fits : ℕ → List (List Pattern) → Tables → ℕ → Bool
end_fits row ls t s = beq (slice_index_or t.ends s 0 == suc row) (any_takes_empty (left_at ls s))

abbrev pub row_fits_by : List (List Pattern) → Pattern → ℕ → Tables → Bool
row_fits_by ls p row t =
    each_below 131 (character_fits p ls t)
    && (each_below (length ls) (end_fits row ls t)
    && (all_below 130 p && (nat_le (length t.classes) 130 && (nat_le (length t.steps) (length ls) && nat_le (length t.ends) (length ls)))))

-- the table finds just the pattern's spellings as those of the row
unfoldable pub row_fits : Pattern → ℕ → List (List ℕ) → Tables → Bool
row_fits p row texts t = row_fits_by (lefts p texts) p row t

unfoldable pub rows_fit : List Pattern → ℕ → List (List ℕ) → Tables → Bool
rows_fit [] row texts t = list_all (λ e. nat_le e row) t.ends
rows_fit (p ∷ ps) row texts t = row_fits p row texts t && rows_fit ps (suc row) texts t

-- each pattern is a row, and there are no other rows
unfoldable pub fits : List Pattern → List (List ℕ) → Tables → Bool
fits ps texts t = rows_fit ps 0 texts t
