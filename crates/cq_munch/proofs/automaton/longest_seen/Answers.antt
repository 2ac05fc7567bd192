use Rattle.std.proofs.Common.{subst}
use Rattle.cq_munch.specs.Characters.{characters}
use Rattle.cq_munch.specs.Patterned.{rows_of}
use Rattle.cq_munch.specs.Tabled.{RowsTake}
use Rattle.cq_munch.proofs.Seen.{seen_is, taken_seen}
use Rattle.cq_munch.proofs.automaton.longest_seen.Goals as goal

pub returns : goal.returns
returns g c = λ rows texts right.
    let stood = g.S.StandIn.stood in
    taken_seen stood rows 0 c.args.mode (characters c.args.units.now) c.longest_found.result
    (subst (λ v. RowsTake (rows_of rows) c.args.mode v c.longest_found.result) (seen_is stood c.args.units.now) (c.longest_found.ensures.found rows texts right))
