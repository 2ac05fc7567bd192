use Rattle.std.proofs.Common.{arith}
use Rattle.cq_export.proofs.Showing.{shows_all}
use Rattle.cq_export.proofs.publishing.last_view.Goals as goal

pub open-requires-clause-caller : goal.open-requires-clause-caller
open-requires-clause-caller g c = let one = c.in_ok-publish_all.ensures.one_caller in omega (arith, one)

pub open-requires-clause-closed : goal.open-requires-clause-closed
open-requires-clause-closed g c = c.in_ok-publish_all.ensures.closed

pub returns : goal.returns
returns g c = shows_all c.args.settings.now _ c.publish_all.new.board c.in_ok-view.view c.in_ok-publish_all.ensures c.in_ok-view.ensures.version c.in_ok-view.ensures.listing
