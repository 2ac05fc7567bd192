use Rattle.std.proofs.Common.{subst}
use Rattle.cq_answer.proofs.Asked.{path_asked, scope_asked}
use Rattle.cq_drive.specs.Sound.{IsSoundStep}
use Rattle.cq_drive.specs.declared.step.ScriptStep.TheVariants as script
use Rattle.cq_drive.proofs.telling.outcome_of.Goals as goal

pub reply-requires-clause-path : goal.reply-requires-clause-path
reply-requires-clause-path g c κs lives =
    let sound : IsSoundStep c.args.driver.now.keyer.now.settings (script.Reply c.in-Reply.by c.in-Reply.query) = subst (IsSoundStep c.args.driver.now.keyer.now.settings) c.in-Reply.is c.requires.sound in
    path_asked c.in-Reply.query.kind c.in-Reply.query.path sound.1.3

pub reply-requires-clause-scope : goal.reply-requires-clause-scope
reply-requires-clause-scope g c κs lives =
    let sound : IsSoundStep c.args.driver.now.keyer.now.settings (script.Reply c.in-Reply.by c.in-Reply.query) = subst (IsSoundStep c.args.driver.now.keyer.now.settings) c.in-Reply.is c.requires.sound in
    scope_asked c.in-Reply.query.path c.in-Reply.query.scope sound.1.4
