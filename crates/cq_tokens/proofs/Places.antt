-- Places of a corpus and the tokens at them.
use Rattle.std.proofs.Common.{◌<◌, List, [], length, Option, IsSome, ap, sym, subst, ⊎_elim, arith}
use Rattle.std.proofs.lemmas.Bool.{cases_lt}
use Rattle.std.proofs.lemmas.List.{get_or_past}
use Rattle.cq_base.specs.declared.group.Place.{Place}
use Rattle.cq_clones.specs.Groups.{IsPlace, AreSame}

-- a place is in one of the files
pub file_of_place : {T : Type 0} (corpus : List (List T)) (p : Place) → IsPlace corpus p → p.file < length corpus
file_of_place corpus p here =
    ⊎_elim (λ h. h)
    (λ past. let e = ap length (get_or_past corpus p.file [] past) in absurd (omega (arith, e)))
    (cases_lt p.file (length corpus))

pub AreSame-sym : {T : Type 0} (a b : Option T) → AreSame a b → AreSame b a
AreSame-sym a b same = (subst IsSome same.1 same.0, sym same.1)
