use Rattle.std.proofs.Common.{refl}
use Rattle.cq_shorten.proofs.Ending.{broken, finished, refused, spent}
use Rattle.cq_shorten.proofs.shortening.shorten.Goals as goal

pub returns-in-Spent-clause-shortens : goal.returns-in-Spent-clause-shortens
returns-in-Spent-clause-shortens g c = spent g.S.Source g.K.Sink c.args.settings.now c.args.source.now c.take_log.new.source c.take_log.new.taker _ (rw c.in-Spent.is at c.in_ok-take_log.ensures.takes) (rw c.in-Spent.is at c.in_ok-take_log.ensures.cause)

pub returns-in-Failed-clause-shortens : goal.returns-in-Failed-clause-shortens
returns-in-Failed-clause-shortens g c = (rw c.in-Failed.is at c.in_ok-take_log.ensures.cause, refl)

pub returns-in-Refused-clause-shortens : goal.returns-in-Refused-clause-shortens
returns-in-Refused-clause-shortens g c =
    refused g.S.Source g.K.Sink c.args.settings.now c.args.source.now c.take_log.new.source c.take_log.new.taker _ (rw c.in-Refused.is at c.in_ok-take_log.ensures.takes) (rw c.in-Refused.is at c.in_ok-take_log.ensures.cause)

pub returns-in-Ok-clause-shortens : goal.returns-in-Ok-clause-shortens
returns-in-Ok-clause-shortens g c =
    finished g.S.Source g.K.Sink c.args.settings.now c.args.source.now c.take_log.new.source c.take_log.new.taker _ _ _ _ (rw c.in-All.is at c.in_ok-take_log.ensures.takes) (rw c.in-All.is at c.in_ok-take_log.ensures.cause) c.in-Ok.ensures.bytes
    c.in-Ok.ensures.cause.kept

pub returns-clause-shortens : goal.returns-clause-shortens
returns-clause-shortens g c =
    broken g.S.Source g.K.Sink c.args.settings.now c.args.source.now c.take_log.new.source c.take_log.new.taker _ _ _ _ (rw c.in-All.is at c.in_ok-take_log.ensures.takes) (rw c.in-All.is at c.in_ok-take_log.ensures.cause) c.in-Err.ensures.bytes
    c.in-Err.ensures.cause.failed
