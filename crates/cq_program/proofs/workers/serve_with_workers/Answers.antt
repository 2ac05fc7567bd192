use Rattle.std.proofs.Common.{ℕ, ◌∙◌, ap, subst, subst₂, sym, arith}
use Rattle.cq_base.specs.Settings.{IsInRange}
use Rattle.cq_beside.specs.Replies.{AreWithWorkers}
use Rattle.cq_beside.specs.Served.{IsFirst}
use Rattle.cq_lines.specs.Held.{Held}
use Rattle.cq_lines.specs.Serving.{Serves}
use Rattle.cq_reply.specs.Written.{line_of}
use Rattle.cq_program.specs.Statuses.{Ends}
use Rattle.cq_program.specs.declared.status.Status.{Status}
use Rattle.cq_program.proofs.Ended.{ended_by}
use Rattle.cq_program.proofs.workers.serve_with_workers.Goals as goal

pub serve_one-end-requires-clause-in_range : goal.serve_one-end-requires-clause-in_range
serve_one-end-requires-clause-in_range g c κs lives = subst IsInRange (sym c.plain-keyer.ensures) c.requires.in_range

pub serve_one-end-requires-clause-hub_settings : goal.serve_one-end-requires-clause-hub_settings
serve_one-end-requires-clause-hub_settings g c κs lives = c.in-Ok.ensures.settings ∙ sym c.plain-keyer.ensures

pub returns-in-Ok-new-clause-runs : goal.returns-in-Ok-new-clause-runs
returns-in-Ok-new-clause-runs g c = λ other.
    let asked = c.args.asked.now in
    let made = c.in-Ok.ensures in
    let callers = made.callers in
    let room = made.room.1 in
    let first : IsFirst c.in-Ok.hub c.in-Ok.pass = record { none = made.stands.seen; first = made.stands.caller; room = omega (arith, callers, room) } in
    record {
      by = c.serve_one-end.result;
      status_is = c.status_of.ensures.status;
      serves = subst₂ (λ (limit all : ℕ). Serves line_of (AreWithWorkers asked.settings all asked.workers c.args.steps.now c.serve_one-end.new.steps) limit (g.S.Source.rest c.args.source.now) (g.S.Source.rest c.serve_one-end.new.source) (g.K.Sink.written c.args.sink.now) (g.K.Sink.written c.serve_one-end.new.sink) c.serve_one-end.result) (ap (λ (held : Held). held.limit) c.in-Ok-new.ensures) callers
          (rw c.plain-keyer.ensures at c.serve_one-end.ensures.beside first);
      cause = c.serve_one-end.ensures.cause;
    }

pub returns-in-Ok-new-clause-ends : goal.returns-in-Ok-new-clause-ends
returns-in-Ok-new-clause-ends g c =
    subst (λ (s : Status). Ends g.S.Source g.K.Sink s c.args.source.now c.serve_one-end.new.source c.args.sink.now c.serve_one-end.new.sink) (sym c.status_of.ensures.status)
    (ended_by g.S.Source g.K.Sink c.args.source.now c.serve_one-end.new.source c.args.sink.now c.serve_one-end.new.sink c.serve_one-end.result c.serve_one-end.ensures.cause)
