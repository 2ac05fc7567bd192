use Rattle.std.proofs.Common.{refl, ◌∙◌}
use Rattle.cq_serve.proofs.Labouring.{no_labour, labour_then}
use Rattle.cq_serve.proofs.working.work.Goals as goal

pub turns-init : goal.turns-init
turns-init g c = record { labours = λ by h stands. no_labour g.H.Hub c.args.server.now.hub.now by h c.args.pass stands; asked = refl }

pub turn-came-requires-clause-stands : goal.turn-came-requires-clause-stands
turn-came-requires-clause-stands g c =
    let r = c.requires.stands in
    let so = c.turns.invariant.labours r.0 r.1 r.2 in
    (r.0, so.after, so.stands)

pub turns-preserved : goal.turns-preserved
turns-preserved g c = record {
  labours = λ by h stands.
      let so = c.turns.invariant.labours by h stands in
      labour_then g.H.Hub c.args.server.now.hub.now by h c.turns.pass c.turn-came.new.pass c.turn-came.result so (c.turn-came.ensures.turned by so.after so.stands);
  asked = c.turn-came.ensures.asked ∙ c.turns.invariant.asked;
}
