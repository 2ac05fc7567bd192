use Rattle.cq_log.proofs.Saying.{cut_off, other_refused, change_taken, change_refused}
use Rattle.cq_log.proofs.taking.take_whole.Goals as goal

pub take-requires-clause-says : goal.take-requires-clause-says
take-requires-clause-says g c = rw c.in-Change.is at c.in_ok-change.ensures.is

pub returns-in-Ok-true-clause-takes : goal.returns-in-Ok-true-clause-takes
returns-in-Ok-true-clause-takes g c =
    change_taken g.T.Taker.Has c.args.settings.now c.args.line.now c.args.taker.now c.take.new.self c.in-Change.change c.requires.short (rw c.in-Change.is at c.in_ok-change.ensures.is) (rw c.in-Ok-true.field-0-test at c.in-Ok-true.ensures.takes)

pub returns-in-Ok-false-clause-takes : goal.returns-in-Ok-false-clause-takes
returns-in-Ok-false-clause-takes g c =
    change_refused g.T.Taker.Has c.args.settings.now c.args.line.now c.args.taker.now c.take.new.self c.in-Change.change c.requires.short (rw c.in-Change.is at c.in_ok-change.ensures.is) (rw c.in-Ok-false.field-0-test at c.in-Ok-false.ensures.takes)

pub returns-in-Torn-clause-takes : goal.returns-in-Torn-clause-takes
returns-in-Torn-clause-takes g c = cut_off g.T.Taker.Has c.args.settings.now c.args.line.now c.args.taker.now c.requires.short (rw c.in-Torn.is at c.in_ok-change.ensures.is)

pub returns-in-Other-clause-takes : goal.returns-in-Other-clause-takes
returns-in-Other-clause-takes g c = other_refused g.T.Taker.Has c.args.settings.now c.args.line.now c.args.taker.now c.args.taker.now c.requires.short (rw c.in-Other.is at c.in_ok-change.ensures.is)
