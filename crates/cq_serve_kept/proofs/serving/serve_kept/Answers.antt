use Rattle.std.proofs.Common.{refl, subst, ◌∙◌, sym}
use Rattle.std.proofs.lemmas.Result.{IfOk-weaker}
use Rattle.cq_base.specs.Settings.{IsInRange}
use Rattle.cq_log.proofs.Stopped.{reads_most, reads_none}
use Rattle.cq_serve_kept.proofs.FirstPass.{taken_into, taken_none}
use Rattle.cq_serve_kept.proofs.Took.{ends_kept}
use Rattle.cq_serve_kept.proofs.serving.serve_kept.Goals as goal

pub take_log-requires-clause-ready : goal.take_log-requires-clause-ready
take_log-requires-clause-ready g c =
    let made = c.in_ok-made.ensures in
    record { in_range = subst IsInRange (sym c.plain-keyer.ensures) c.requires.in_range; settings = made.settings ∙ sym c.plain-keyer.ensures; of = made.stands.is }

pub take_log-requires-clause-nothing : goal.take_log-requires-clause-nothing
take_log-requires-clause-nothing g c =
    let made = c.in_ok-made.ensures in
    taken_none c.in_ok-made.made.0 c.args.ground.now.settings.now c.in_ok-made.made.1 made.stands.is made.stands.caller made.accepts made.room.0 made.settings made.stands.seen

pub returns-in-Spent : goal.returns-in-Spent
returns-in-Spent g c = record {
  log = (reads_most _ g.S.Source c.args.ground.now.settings.now c.args.source.now c.take_log.new.source c.take_log.new.taker (rw c.in-Spent.is at c.in_ok-taken.ensures.cause) (rw c.in-Spent.is at c.in_ok-taken.ensures.takes), refl);
}

pub returns-in-Refused : goal.returns-in-Refused
returns-in-Refused g c = record {
  log = (reads_none _ g.S.Source c.args.ground.now.settings.now c.args.source.now c.take_log.new.source c.take_log.new.taker (rw c.in-Refused.is at c.in_ok-taken.ensures.cause) (rw c.in-Refused.is at c.in_ok-taken.ensures.takes), refl);
}

pub returns-in-Failed : goal.returns-in-Failed
returns-in-Failed g c = record { log = (refl, rw c.in-Failed.is at c.in_ok-taken.ensures.cause) }

pub serve_taken-requires-clause-taken : goal.serve_taken-requires-clause-taken
serve_taken-requires-clause-taken g c κs lives =
    let all = rw c.in-All.is at c.in_ok-taken.ensures.takes in
    let taker = c.take_log.new.taker in
    (all.has.changes, taken_into taker.hub.now c.in_ok-made.made.0 taker.pass c.args.ground.now.settings.now all.has.changes c.in_ok-taken.ensures.target all.has.has)

pub returns-in-All : goal.returns-in-All
returns-in-All g c =
    let all = rw c.in-All.is at c.in_ok-taken.ensures.takes in
    let taker = c.take_log.new.taker in
    let set = c.args.ground.now.settings.now in
    let has = taken_into taker.hub.now c.in_ok-made.made.0 taker.pass set all.has.changes c.in_ok-taken.ensures.target all.has.has in
    record {
      log = IfOk-weaker c.serve_taken.result _ _
          (λ by ends. ends_kept _ g.S.Source g.K.Sink set c.args.source.now c.take_log.new.source c.args.sink.now c.serve_taken.new.sink taker c.in-All.unclosed c.in-All.torn all by (ends all.has.changes has)) c.serve_taken.ensures.ends;
    }
