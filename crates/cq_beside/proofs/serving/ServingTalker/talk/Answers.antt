use Rattle.std.proofs.Common.{refl}
use Rattle.cq_cells.specs.Passes.{by_of}
use Rattle.cq_shared.specs.SharedPasses.{callers_of}
use Rattle.cq_beside.proofs.Served.{told_as}
use Rattle.cq_beside.proofs.serving.ServingTalker.talk.Goals as goal

pub session-end-requires-clause-closed : goal.session-end-requires-clause-closed
session-end-requires-clause-closed g c κs lives = let p = c.args.pass.now in (by_of p, p.seen, record { is = c.requires.of; caller = refl; seen = refl }, (c.requires.closed, tt))

pub returns-clause-of : goal.returns-clause-of
returns-clause-of g c =
    let p = c.args.pass.now in
    (c.session-end.ensures.served (by_of p) p.seen (record { is = c.requires.of; caller = refl; seen = refl }) c.requires.closed tt).stands.is

pub returns-clause-caller : goal.returns-clause-caller
returns-clause-caller g c =
    let p = c.args.pass.now in
    (c.session-end.ensures.served (by_of p) p.seen (record { is = c.requires.of; caller = refl; seen = refl }) c.requires.closed tt).stands.caller

pub returns-clause-said : goal.returns-clause-said
returns-clause-said g c =
    let p = c.args.pass.now in
    let lead = c.session-end.ensures.served (by_of p) p.seen (record { is = c.requires.of; caller = refl; seen = refl }) c.requires.closed tt in
    (told_as g.S.Source g.K.Sink c.args.self.keyer.now.settings (callers_of c.args.hub.now) (by_of p) p.seen _ _ _ _ _ _ _ _ _ _ _ _ c.requires.unasked lead.stands.seen lead.holds, c.session-end.ensures.cause, refl, refl, refl)
