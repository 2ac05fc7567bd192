use Rattle.std.proofs.Common.{List, true≢false, refl, sym, subst}
use Rattle.std.specs.Prelude.{IfSome, IsNone}
use Rattle.cq_base.specs.declared.entry.Entry.{Entry}
use Rattle.cq_core.specs.Readings.{AreRead, AreWorked}
use Rattle.cq_history.specs.State.{view_of}
use Rattle.cq_drive.specs.declared.outcome.ScriptOutcome.TheVariants as outcome
use Rattle.cq_drive.specs.declared.step.ScriptStep.TheVariants as script
use Rattle.cq_work.specs.Work.{IsWorkOf}
use Rattle.cq_work.specs.declared.work.Work.{Work}
use Rattle.cq_drive.specs.Cores.{keys_of, StepLed}
use Rattle.cq_drive.proofs.ReadEntries.{is_there, not_there, was_read, not_viewing}
use Rattle.cq_drive.proofs.viewing.read.Goals as goal

pub returns-in-Some-clause-led : goal.returns-in-Some-clause-led
returns-in-Some-clause-led g c =
    let core = c.args.core.now in
    let there = is_there (view_of core.board.state c.args.by) (λ closed. true≢false (subst IsNone c.in-Some.is (c.in_ok-entries.ensures.none.1 closed))) in
    subst (λ (es : List Entry). StepLed g.row.L.Denot c.args.settings.now core core (script.Read c.args.by c.args.shard c.args.key) (outcome.Read es)) (sym c.from_vec.ensures)
    (was_read g.row.L.Denot c.args.settings.now core c.args.by c.args.shard c.args.key c.requires.driven there.0 c.in-Some.entries.items there.1
    (subst (λ o. IfSome o (λ es. AreRead (keys_of {L = g.row.L.Denot}) IsWorkOf core c.args.by c.args.shard c.args.key es.items)) c.in-Some.is c.in_ok-entries.ensures.entries)
    (subst (λ o. IfSome o (λ _. AreWorked {W = Work g.row.L.Denot} (λ lang text work. IsWorkOf {L = g.row.L.Denot} core.board.settings lang text work) core c.args.by)) c.in-Some.is c.in_ok-entries.ensures.worked))

pub returns-in-None-clause-led : goal.returns-in-None-clause-led
returns-in-None-clause-led g c =
    not_viewing g.row.L.Denot c.args.settings.now c.args.core.now c.args.by c.args.shard c.args.key c.requires.driven
    (not_there (view_of c.args.core.now.board.state c.args.by) (c.in_ok-entries.ensures.none.0 (subst IsNone (sym c.in-None.is) refl)))
