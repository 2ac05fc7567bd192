use Rattle.std.proofs.Common.{ℕ, [], map, ap, refl, ◌∙◌, subst, subst₂, sym}
use Rattle.cq_base.specs.Settings.{IsInRange}
use Rattle.cq_base.specs.declared.settings.Settings.{Settings}
use Rattle.cq_history.specs.Lawful.{Lawful}
use Rattle.cq_hub.specs.Solos.{solo_lawful}
use Rattle.cq_lines.specs.Held.{Held}
use Rattle.cq_lines.specs.Serving.{Serves}
use Rattle.cq_reply.specs.Written.{line_of}
use Rattle.cq_session.specs.Costs.{counted}
use Rattle.cq_session.specs.Turn.{CountedTalk}
use Rattle.cq_talk.specs.Said.{said}
use Rattle.cq_program.specs.Statuses.{Ends}
use Rattle.cq_program.specs.Top.{AreAlone}
use Rattle.cq_program.specs.declared.status.Status.{Status}
use Rattle.cq_lines.proofs.Serving.{serves_as}
use Rattle.cq_program.proofs.Ended.{ended_by}
use Rattle.cq_program.proofs.program.serve.Goals as goal

pub session-end-requires-clause-in_range : goal.session-end-requires-clause-in_range
session-end-requires-clause-in_range g c κs lives = subst IsInRange (sym c.plain-keyer.ensures) c.requires.in_range

pub session-end-requires-clause-hub_settings : goal.session-end-requires-clause-hub_settings
session-end-requires-clause-hub_settings g c κs lives = c.in-Ok.ensures.settings ∙ sym c.plain-keyer.ensures

pub session-end-requires-clause-closed : goal.session-end-requires-clause-closed
session-end-requires-clause-closed g c κs lives = (0, [], c.in-Ok.ensures.stands, (refl, tt))

pub returns-in-Ok-new-clause-runs : goal.returns-in-Ok-new-clause-runs
returns-in-Ok-new-clause-runs g c = λ other.
    let set = c.plain-keyer.result.settings in
    let led = c.session-end.ensures.served 0 [] c.in-Ok.ensures.stands refl tt in
    let law : Lawful set 1 led.after = subst (λ (s : Settings). Lawful s 1 led.after) (c.in-Ok.ensures.settings ∙ sym c.plain-keyer.ensures) (solo_lawful _ _ 0 led.after _ _ led.stands) in
    let serves = serves_as line_of (CountedTalk set 1 (Unit {0}) 0 [] (counted c.args.steps.now c.session-end.new.steps c.in-Ok.pass.asked c.session-end.new.pass.asked) led.after) (AreAlone set c.args.steps.now c.session-end.new.steps)
    (λ lines replies counts. record {
      after = led.after;
      asked = c.session-end.new.pass.asked;
      lawful = law;
      talk = subst (λ (asked : ℕ). CountedTalk set 1 (Unit {0}) 0 [] (counted c.args.steps.now c.session-end.new.steps asked c.session-end.new.pass.asked) led.after lines replies) c.in-Ok.ensures.asked counts;
      alone = c.talks_alone.ensures set 1 0 led.after (map (said set.chunk) lines) replies counts.talk law;
      beside = c.talks_beside.ensures.alone set 1 0 led.after (map (said set.chunk) lines) replies counts.talk law;
    }) _ _ _ _ _ _ led.holds in
    record {
      by = c.session-end.result;
      status_is = c.status_of.ensures.status;
      serves = subst₂ (λ (s : Settings) (limit : ℕ). Serves line_of (AreAlone s c.args.steps.now c.session-end.new.steps) limit (g.S.Source.rest c.args.source.now) (g.S.Source.rest c.session-end.new.source) (g.K.Sink.written c.args.sink.now) (g.K.Sink.written c.session-end.new.sink) c.session-end.result) c.plain-keyer.ensures (ap (λ (held : Held). held.limit) c.in-Ok-new.ensures) serves;
      cause = c.session-end.ensures.cause;
    }

pub returns-in-Ok-new-clause-ends : goal.returns-in-Ok-new-clause-ends
returns-in-Ok-new-clause-ends g c =
    subst (λ (s : Status). Ends g.S.Source g.K.Sink s c.args.source.now c.session-end.new.source c.args.sink.now c.session-end.new.sink) (sym c.status_of.ensures.status)
    (ended_by g.S.Source g.K.Sink c.args.source.now c.session-end.new.source c.args.sink.now c.session-end.new.sink c.session-end.result c.session-end.ensures.cause)
