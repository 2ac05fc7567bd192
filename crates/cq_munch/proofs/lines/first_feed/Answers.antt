use Rattle.std.proofs.Common.{arith}
use Rattle.cq_munch.proofs.Feeds.{line_up_to}
use Rattle.cq_munch.proofs.lines.first_feed.Goals as goal

pub returns : goal.returns
returns c = (c.feed_from-at.ensures, line_up_to c.args.text.now 0 c.feed_from-at.result c.feed_from-at.ensures 0 (omega arith) (omega arith))
