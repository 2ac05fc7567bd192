use Rattle.std.proofs.Common.{arith}
use Rattle.cq_export.proofs.Holding.{published_then, nothing_published}
use Rattle.cq_export.proofs.publishing.publish_all.Goals as goal

pub publish-requires-clause-above : goal.publish-requires-clause-above
publish-requires-clause-above g c =
    let none = c.requires.holds.unpublished in
    let some = c.if-last-eq0.false in
    omega (arith, none, some)

pub returns-then-last-eq0 : goal.returns-then-last-eq0
returns-then-last-eq0 g c = nothing_published c.args.settings.now c.args.board.now c.ready-last.result c.requires.holds c.requires.all c.ready-last.ensures c.if-last-eq0.true

pub returns-in-Ok : goal.returns-in-Ok
returns-in-Ok g c = published_then c.args.settings.now c.args.board.now c.publish.new.self c.ready-last.result c.requires.holds c.requires.all c.ready-last.ensures c.in-Ok.ensures.adds
