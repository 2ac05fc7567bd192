use Rattle.std.proofs.Common.{sym, subst}
use Rattle.cq_base.specs.declared.settings.Settings.{Settings}
use Rattle.cq_core.specs.Steps.{HasWork}
use Rattle.cq_drive.specs.declared.outcome.ScriptOutcome.{ScriptOutcome}
use Rattle.cq_work.specs.Work.{IsWorkOf}
use Rattle.cq_drive.specs.Cores.{StepLed, script_step}
use Rattle.cq_drive.proofs.Taken.{is_named, is_sound, step_led}
use Rattle.cq_drive.proofs.stepping.stepped.Goals as goal

pub step-requires : goal.step-requires
step-requires g c = record {
  named = is_named g.row.L.Denot c.args.settings.now c.args.core.now c.args.step c.requires.driven c.requires.sound;
  sound = is_sound c.args.settings.now c.args.step c.requires.sound;
  work = subst (λ (set : Settings). HasWork (IsWorkOf set) c.args.core.now c.args.step) (sym c.requires.driven.settings) c.requires.work;
}

pub returns-clause-led : goal.returns-clause-led
returns-clause-led g c =
    subst (λ (o : ScriptOutcome). StepLed g.row.L.Denot c.args.settings.now c.args.core.now c.step.new.self (script_step c.args.step) o) (sym c.told.ensures.told)
    (step_led g.row.L.Denot c.args.settings.now c.args.core.now c.step.new.self c.in_ok-step.field-0 c.requires.driven c.args.step c.in_ok-step.ensures.outcome c.in_ok-step.ensures.steps)
