use Rattle.std.proofs.Common.{refl}
use Rattle.cq_lines.specs.Pieces.{split}
use Rattle.cq_log.proofs.laws.they_end_as_worked_out.Goals as goal

pub returns : goal.returns
unfolding split
returns c = record { nothing = refl; a_line = refl; no_feed = refl; empty_line = refl; two_feeds = refl; one_feed = refl; the_second_feed = refl; no_mending = refl }
