use Rattle.std.proofs.Common.{◌≡◌, ℕ, ◌+◌, ◌<◌, List, [], ◌∷◌, ◌++◌, length, take, drop, ◌-◌, sym, ap, ◌∙◌}
use Rattle.std.proofs.lemmas.List.{take_more, drop_more, map-append, append-nil, take_rest, drop-map}
use Rattle.std.proofs.lemmas.Str.{encodes-append}
use Rattle.std.specs.Prelude.{encode_utf8}
use Rattle.std.specs.Str.{encode_utf8_all}
use Rattle.cq_munch.specs.declared.unit.Unit.{Unit}
use Rattle.cq_munch.specs.Lexed.{unit_at}
use Rattle.cq_munch.specs.Characters.{characters, utf8_of}
use Rattle.cq_munch.proofs.Front.{ch_at, as_many}

-- one unit more
pub utf8_more : (units : List Unit) (i : ℕ) → i < length units → utf8_of (take (i + 1) units) ≡ utf8_of (take i units) ++ encode_utf8 (unit_at units i).ch
utf8_more units i inside =
    ap utf8_of (take_more units i (record { ch = 0; start = 0; len = 0 }) inside)
    ∙ ap encode_utf8_all (map-append (λ (v : Unit). v.ch) (take i units) (unit_at units i ∷ []))
    ∙ encodes-append (characters (take i units)) ((unit_at units i).ch ∷ [])
    ∙ ap (λ v. utf8_of (take i units) ++ v) (append-nil (encode_utf8 (unit_at units i).ch))

-- the characters of `&units[at..]`
pub characters_from : (units : List Unit) (at : ℕ) → characters (take (length units - at) (drop at units)) ≡ drop at (characters units)
characters_from units at = ap characters (take_rest units at) ∙ sym (drop-map (λ (u : Unit). u.ch) at units)

-- the characters from a unit on
pub from_unit : (units : List Unit) (at : ℕ) → at < length units → drop at (characters units) ≡ (unit_at units at).ch ∷ drop (at + 1) (characters units)
from_unit units at inside = drop_more (characters units) at 0 (as_many units at inside) ∙ ap (λ c. c ∷ drop (at + 1) (characters units)) (ch_at units at inside)
