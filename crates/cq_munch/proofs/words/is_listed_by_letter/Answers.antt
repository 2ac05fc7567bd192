use Rattle.std.proofs.Common.{ℕ, ◌≤◌, length, get_or, subst}
use Rattle.std.specs.Prelude.{Some}
use Rattle.std.specs.Slice.{IsItemAt}
use Rattle.cq_munch.specs.ByLetter.{row_of}
use Rattle.cq_munch.specs.Characters.{characters}
use Rattle.cq_munch.proofs.Reserved.{listed-among, listed-nowhere}
use Rattle.cq_munch.proofs.words.is_listed_by_letter.Goals as goal

pub returns-in-Some : goal.returns-in-Some
returns-in-Some c =
    let name = characters c.args.name.now in
    listed-among c.args.by_letter.now (row_of (get_or name 0 0)) name c.in-Some.words c.is_among.result
    (subst (λ (n : ℕ). IsItemAt c.args.by_letter.now n (Some c.in-Some.words)) c.row_beside.ensures c.in-Some.ensures.lookup) c.is_among.ensures

pub returns-in-None : goal.returns-in-None
returns-in-None c =
    let name = characters c.args.name.now in
    listed-nowhere c.args.by_letter.now (row_of (get_or name 0 0)) name (subst (λ (n : ℕ). length c.args.by_letter.now ≤ n) c.row_beside.ensures c.in-None.ensures.lookup.3)
