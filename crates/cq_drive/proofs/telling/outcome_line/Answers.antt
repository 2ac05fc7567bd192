use Rattle.std.proofs.Common.{refl, sym, subst, inl}
use Rattle.cq_core.specs.Cores.{CoreState}
use Rattle.cq_drive.specs.declared.outcome.ScriptOutcome.TheVariants as outcome
use Rattle.cq_reply.specs.Lines.{bytes_of}
use Rattle.cq_reply.specs.declared.line.Line.TheVariants as line
use Rattle.cq_reply.specs.declared.reply.Reply.TheVariants as reply
use Rattle.cq_drive.specs.Cores.{LineLed}
use Rattle.cq_drive.proofs.GivenUp.{line_told}
use Rattle.cq_drive.proofs.Taken.{led_same, led_weaker}
use Rattle.cq_drive.proofs.telling.outcome_line.Goals as goal

pub returns-in-Ok : goal.returns-in-Ok
returns-in-Ok g c =
    led_weaker g.row.L.Denot c.args.driver.now.keyer.now.settings c.args.core.now c.said.new.core _ _ c.in-Ok.ensures.led
    (λ k later is. line_told c.args.driver.now.keyer.now.settings k later c.args.line.now (bytes_of c.line_or_memory.result) c.in-Ok.outcome c.line_or_memory.ensures is)

pub returns-in-Err : goal.returns-in-Err
returns-in-Err g c =
    subst (λ (new : CoreState). LineLed g.row.L.Denot c.args.driver.now.keyer.now.settings c.args.core.now new c.args.line.now (bytes_of (line.Short c.fixed.result))) (sym c.in-Err.ensures.err)
    (led_same g.row.L.Denot c.args.driver.now.keyer.now.settings c.args.core.now _ c.requires.driven (λ k stands. (outcome.Reply reply.Memory, inl (refl, refl), c.fixed.ensures)))
