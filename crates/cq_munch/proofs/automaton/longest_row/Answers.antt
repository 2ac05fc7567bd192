use Rattle.std.proofs.Common.{◌+◌, ◌∙◌, ap, sym, subst}
use Rattle.cq_munch.specs.Automata.{class_at, tables_of}
use Rattle.cq_munch.specs.Characters.{seen_by}
use Rattle.cq_munch.proofs.Front.{seen_at, as_many_seen}
use Rattle.cq_munch.proofs.Rowed.{Rowed, rowed_stopped, rowed_won, rowed_kept, entry_is}
use Rattle.cq_munch.proofs.automaton.longest_row.Goals as goal
use Rattle.cq_munch.proofs.automaton.longest_row.Goals.{in-Some-row_at, in_default-row_at}

pub returns-in_default : goal.returns-in_default
returns-in_default g c =
    let t = tables_of c.args.by in
    rowed_stopped t (seen_by g.S.StandIn.stood c.args.units.now) c.loop-i.i c.loop-i.state c.loop-i.found c.loop-i.invariant _ (as_many_seen g.S.StandIn.stood c.args.units.now c.loop-i.i c.loop-i-test.true) (seen_at g.S.StandIn.stood c.args.units.now c.loop-i.i c.loop-i-test.true)
    (entry_is t c.loop-i.state _ c.class_of.result (c.class_of.ensures ∙ ap (class_at t.classes) c.stand_in.ensures) _ c.in_default.ensures.none)

pub loop-i-preserved : goal.loop-i-preserved
loop-i-preserved g c =
    let t = tables_of c.args.by in
    let inside = as_many_seen g.S.StandIn.stood c.args.units.now c.loop-i.i c.loop-i-test.true in
    let is = seen_at g.S.StandIn.stood c.args.units.now c.loop-i.i c.loop-i-test.true in
    let steps = entry_is t c.loop-i.state _ c.class_of.result (c.class_of.ensures ∙ ap (class_at t.classes) c.stand_in.ensures) _ c.in-Some.ensures.some in
    elim c.match-row_at.branch [
      | in-Some-row_at w ↦ subst (Rowed t (seen_by g.S.StandIn.stood c.args.units.now) (c.loop-i.i + 1) c.in-Some.next) (sym w.found-is) (rowed_won t (seen_by g.S.StandIn.stood c.args.units.now) c.loop-i.i c.loop-i.state c.loop-i.found c.loop-i.invariant _ inside is c.in-Some.next steps w.in-Some-row_at.row w.in-Some-row_at.ensures.some)
      | in_default-row_at w ↦ subst (Rowed t (seen_by g.S.StandIn.stood c.args.units.now) (c.loop-i.i + 1) c.in-Some.next) (sym w.found-is) (rowed_kept t (seen_by g.S.StandIn.stood c.args.units.now) c.loop-i.i c.loop-i.state c.loop-i.found c.loop-i.invariant _ inside is c.in-Some.next steps w.in_default-row_at.ensures.none)
    ]
