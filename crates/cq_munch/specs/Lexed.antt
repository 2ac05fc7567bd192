-- What a text is lexed to.
use Rattle.std.specs.Prelude.{◌≡◌, ℕ, ◌+◌, ◌-◌, ◌<◌, ◌≤◌, Option, Some, None, option_map, Result, Ok, Err, List, [], ◌∷◌, ◌++◌, length, take, drop, slice_index_or, MatchResult, IsOkAnd, IfOk, ⊤, encode_utf8}
use Rattle.std.specs.Char.{len_utf8}
use Rattle.std.specs.List.{AllByRecursion, cons_option}
use Rattle.std.specs.List.Sorted.{IsNonDecreasingBy}
use Rattle.std.specs.Str.{chars}
use Rattle.cq_base.specs.Lines.{line_at}
use Rattle.cq_munch.specs.declared.unit.Unit.{Unit}
use Rattle.cq_base.specs.declared.token.Class.{Class}
use Rattle.cq_base.specs.declared.token.Mark.{Mark}
use Rattle.cq_munch.specs.declared.element.Spell.{Spell}
use Rattle.cq_munch.specs.declared.element.Spell.TheVariants.{Blank, Comment, Token as TokenOf}
use Rattle.cq_munch.specs.declared.element.Found.{Found}
use Rattle.cq_base.specs.declared.token.Spelled.{Spelled}
use Rattle.cq_munch.specs.declared.cutting.Cut.{Cut}
use Rattle.cq_munch.specs.declared.cutting.Cut.TheVariants as cuts
use Rattle.cq_munch.specs.declared.munching.Lexed.{Lexed}
use Rattle.cq_munch.specs.declared.munching.Lexed.TheVariants as lexed
use Rattle.cq_munch.specs.declared.lexis.Translated.{Translated}
use Rattle.cq_munch.specs.declared.lexis.Translated.TheVariants.{Units, Fault}
use Rattle.cq_munch.specs.Characters.{characters, utf8_of}
use Rattle.cq_munch.specs.Language.{Language, Takes}
use Rattle.cq_munch.specs.ListingMarks.{said}

-- the characters with their places, the first at a byte
abbrev pub placed : ℕ → List ℕ → List Unit
placed at [] = []
placed at (c ∷ cs) =
    let size = len_utf8 c in record { ch = c; start = at; len = size } ∷ placed (at + size) cs

-- the units of a text that isn't translated
abbrev pub units_of : List ℕ → List Unit
units_of bytes = placed 0 (chars bytes)

abbrev pub translation : Translated → Result (List Unit) ℕ
translation (Units v) = Ok v.items
translation (Fault at) = Err at

-- the units follow each other, each of at least one byte, from the first byte to the last
abbrev pub InOrder : ℕ → List Unit → ℕ → Type 0
InOrder from [] to = from ≤ to
InOrder from (u ∷ us) to = (from ≤ u.start) × (0 < u.len) × InOrder (u.start + u.len) us to

-- of a translation: its units follow each other so from the first byte to one, and they are at most this many
abbrev pub UnitsInOrder : ℕ → Translated → Type 0
UnitsInOrder to t = IfOk (translation t) (λ units. InOrder 0 units to)

abbrev pub UnitsWithin : ℕ → Translated → Type 0
UnitsWithin most t = IfOk (translation t) (λ units. length units ≤ most)

-- a unit of one byte is spelled by that byte
abbrev pub IsByte : List ℕ → Unit → Type 0
IsByte bytes u = u.len ≡ 1 → encode_utf8 u.ch ≡ slice_index_or bytes u.start 0 ∷ []

abbrev pub AreBytes : List ℕ → List Unit → Type 0
AreBytes bytes units = AllByRecursion (IsByte bytes) units

-- of a translation: each of its units of one byte is
abbrev pub UnitsAreBytes : List ℕ → Translated → Type 0
UnitsAreBytes bytes t = IfOk (translation t) (AreBytes bytes)

abbrev pub unit_at : List Unit → ℕ → Unit
unit_at units i = slice_index_or units i (record { ch = 0; start = 0; len = 0 })

-- the byte after the last unit
abbrev pub end_of : List Unit → ℕ
end_of units = (unit_at units (length units - 1)).start + (unit_at units (length units - 1)).len

-- The token of these units. Its last line is that of its last byte.
abbrev pub spelled_of : List ℕ → Class → List Unit → Spelled
spelled_of bytes class units =
    let start = (unit_at units 0).start in
    let len = end_of units - start in
    record {
      token = record { class = class; start = start; len = len; first_line = line_at bytes start; last_line = line_at bytes (start + len - 1) };
      text = utf8_of units;
    }

-- no token of a blank or a comment
abbrev pub token_of : List ℕ → Spell → List Unit → List Spelled
token_of bytes Blank units = []
token_of bytes Comment units = []
token_of bytes (TokenOf class) units = spelled_of bytes class units ∷ []

-- the tokens of elements that follow each other from a unit on
abbrev pub tokens_of : List ℕ → List Unit → ℕ → List Found → List Spelled
tokens_of bytes units at [] = []
tokens_of bytes units at (f ∷ fs) = token_of bytes f.spell (take f.units (drop at units)) ++ tokens_of bytes units (at + f.units) fs

-- A comment that contains one of the two words is a mark, at its first byte. The last such word decides whether it is on.
abbrev pub mark_of : Spell → List Unit → Option Mark
mark_of Blank units = None
mark_of Comment units = option_map (λ on. record { at = (unit_at units 0).start; on = on }) (said (characters units))
mark_of (TokenOf class) units = None

-- the marks of elements that follow each other from a unit on
abbrev pub marks_of : List Unit → ℕ → List Found → List Mark
marks_of units at [] = []
marks_of units at (f ∷ fs) = cons_option (mark_of f.spell (take f.units (drop at units))) (marks_of units (at + f.units) fs)

-- tokens follow each other, each of at least one byte, from a byte to another
abbrev pub TokensFollow : ℕ → List Spelled → ℕ → Type 0
TokensFollow from [] to = from ≤ to
TokensFollow from (t ∷ ts) to = (from ≤ t.token.start) × (0 < t.token.len) × TokensFollow (t.token.start + t.token.len) ts to

-- what completes the tokens of a text takes none of them away
abbrev pub TakesNoneAway : (List ℕ → List Spelled → List Spelled) → Type 0
TakesNoneAway completed = (text : List ℕ) (tokens : List Spelled) → length tokens ≤ length (completed text tokens)

-- the elements follow each other, from a unit and a mode to a unit and a mode
abbrev pub Follow : Language → List ℕ → ℕ → ℕ → List Found → ℕ → ℕ → Type 0
Follow lang text at mode [] end last = (at ≡ end) × (mode ≡ last)
Follow lang text at mode (f ∷ fs) end last =
    Takes lang at mode (drop at text) (Some f) × Follow lang text (at + f.units) f.mode fs end last

-- the elements are all of the text
abbrev pub IsWhole : Language → List Unit → List Found → Type 0
IsWhole lang units fs = (last : ℕ) × Follow lang (characters units) 0 0 fs (length units) last

-- the elements end where nothing is taken, at the unit of this byte
pub record EndsAt (lang : Language) (units : List Unit) (byte : ℕ) : Type 0 where
  pub elements : List Found
  pub at : ℕ
  pub mode : ℕ
  pub before : Follow lang (characters units) 0 0 elements at mode
  pub inside : at < length units
  pub nothing : Takes lang at mode (drop at (characters units)) None
  pub byte_is : byte ≡ (unit_at units at).start

-- from a unit and a mode on, elements end where nothing is taken, at the unit of this byte
pub record StopsFrom (lang : Language) (units : List Unit) (from mode_there : ℕ) (byte : ℕ) : Type 0 where
  pub elements : List Found
  pub at : ℕ
  pub mode : ℕ
  pub before : Follow lang (characters units) from mode_there elements at mode
  pub inside : at < length units
  pub nothing : Takes lang at mode (drop at (characters units)) None
  pub byte_is : byte ≡ (unit_at units at).start

-- from a unit and a mode on, elements are all of the text
abbrev pub GoesToEnd : Language → List Unit → ℕ → ℕ → Type 0
GoesToEnd lang units from mode_there =
    (fs : List Found) × (last : ℕ) × Follow lang (characters units) from mode_there fs (length units) last

abbrev pub IsCut : Language → List ℕ → List Unit → Cut → Type 0
IsCut lang bytes units (cuts.Tokens v marks) =
    (fs : List Found) × IsWhole lang units fs × (v.items ≡ tokens_of bytes units 0 fs) × (marks.items ≡ marks_of units 0 fs)
IsCut lang bytes units (cuts.Fault byte) = EndsAt lang units byte
IsCut lang bytes units cuts.Large = (fs : List Found) × IsWhole lang units fs × (262144 < length (tokens_of bytes units 0 fs))

-- no mark begins before an earlier one
abbrev pub AreInOrder : List Mark → Type 0
AreInOrder marks = IsNonDecreasingBy (λ (m : Mark). m.at) marks

abbrev pub AreCutInOrder : ℕ → Cut → Type 0
AreCutInOrder to (cuts.Tokens v marks) = TokensFollow 0 v.items to × AreInOrder marks.items
AreCutInOrder to (cuts.Fault byte) = ⊤
AreCutInOrder to cuts.Large = ⊤

-- A fault of the translation is the answer. Otherwise it is the first place where nothing is taken. Otherwise the text is
-- large if it has more than 262,144 tokens, and else these tokens are the answer, with the marks of its comments.
abbrev pub IsLexed : Language → (List Unit → Result (List Unit) ℕ) → (List ℕ → List Spelled → List Spelled) → List ℕ → Lexed → Type 0
IsLexed lang translated completed bytes (lexed.Fault byte) =
    MatchResult (translated (units_of bytes)) (λ units. EndsAt lang units byte) (λ at. byte ≡ at)
IsLexed lang translated completed bytes lexed.Large =
    IsOkAnd (translated (units_of bytes)) (λ units. (fs : List Found) × IsWhole lang units fs × (262144 < length (completed bytes (tokens_of bytes units 0 fs))))
IsLexed lang translated completed bytes (lexed.Tokens v marks) =
    IsOkAnd (translated (units_of bytes)) (λ units. (fs : List Found) × IsWhole lang units fs × (v.items ≡ completed bytes (tokens_of bytes units 0 fs)) × (length v.items ≤ 262144) × (marks.items ≡ marks_of units 0 fs))

-- the marks of an answer are in order
abbrev pub AreMarkedInOrder : Lexed → Type 0
AreMarkedInOrder (lexed.Tokens v marks) = AreInOrder marks.items
AreMarkedInOrder (lexed.Fault byte) = ⊤
AreMarkedInOrder lexed.Large = ⊤

-- the answers are alike: where tokens and marks lie in memory doesn't matter
abbrev pub Alike : Lexed → Lexed → Type 0
Alike (lexed.Tokens v marks) (lexed.Tokens w others) = (v.items ≡ w.items) × (marks.items ≡ others.items)
Alike (lexed.Fault a) (lexed.Fault b) = a ≡ b
Alike lexed.Large lexed.Large = ⊤
Alike _ _ = ⊥

-- no text is lexed to two answers
abbrev pub HasOneAnswer : Language → (List Unit → Result (List Unit) ℕ) → (List ℕ → List Spelled → List Spelled) → Type 0
HasOneAnswer lang translated completed = (bytes : List ℕ) (a b : Lexed) → IsLexed lang translated completed bytes a → IsLexed lang translated completed bytes b → Alike a b
