use Rattle.std.proofs.lemmas.Result.{IfOk-weaker}
use Rattle.std.proofs.Common.{◌≡◌, Result, Err, refl, sym, subst}
use Rattle.cq_drive.specs.declared.outcome.ScriptOutcome.TheVariants as outcome
use Rattle.cq_base.specs.declared.refusal.Refusal.{Refusal}
use Rattle.cq_drive.specs.Reading.{step_read}
use Rattle.cq_drive.specs.declared.step.ScriptStep.{ScriptStep}
use Rattle.cq_drive.specs.Script.{SaidComesTo}
use Rattle.cq_drive.proofs.Taken.{led_same, led_weaker}
use Rattle.cq_reply.specs.declared.reply.Reply.TheVariants as reply
use Rattle.cq_request.specs.Reading.{UnlessMemory}
use Rattle.cq_request.specs.declared.request.ReadError.{ReadError}
use Rattle.cq_drive.proofs.telling.said.Goals as goal

pub returns-in-Ok-clause-led : goal.returns-in-Ok-clause-led
returns-in-Ok-clause-led g c = IfOk-weaker c.outcome_of.result _ _ (λ o led.
    led_weaker g.row.L.Denot c.args.driver.now.keyer.now.settings c.args.core.now c.outcome_of.new.core _ _ led
    (λ k later comes. subst (λ (says : Result ScriptStep Refusal). SaidComesTo c.args.driver.now.keyer.now.settings k says o later) (sym c.in-Ok.ensures.says) comes)) c.outcome_of.ensures.led

pub returns-in-Err-Refused-clause-led : goal.returns-in-Err-Refused-clause-led
returns-in-Err-Refused-clause-led g c =
    let said = step_read c.args.driver.now.keyer.now.settings c.args.line.now in
    let says : said ≡ Err c.in-Err-Refused.refusal = subst (λ (e : ReadError). UnlessMemory (Err e) said) c.in-Err-Refused.field-0-is c.in-Err-Refused.ensures.says in
    led_same g.row.L.Denot c.args.driver.now.keyer.now.settings c.args.core.now _ c.requires.driven
    (λ k stands. subst (λ (says : Result ScriptStep Refusal). SaidComesTo c.args.driver.now.keyer.now.settings k says (outcome.Reply (reply.Refused c.in-Err-Refused.refusal)) k) (sym says) (refl, refl))
