use Rattle.std.proofs.Common.{ℕ, ◌≤◌, List, length, refl, sym, subst, subst₂}
use Rattle.std.specs.Arc.{arc_value}
use Rattle.std.specs.Str.{IsUtf8}
use Rattle.cq_base.specs.declared.settings.Settings.{Settings}
use Rattle.cq_export.proofs.Holding.{one_caller_there, made_then, made_before}
use Rattle.cq_export.proofs.working.make_one.Goals as goal
use Rattle.cq_board.proofs.Jobs.{job_work}
use Rattle.cq_work.specs.Work.{IsWorkOf}

pub returns-in-Ok-None : goal.returns-in-Ok-None
returns-in-Ok-None g c = made_before c.args.keyer.now.settings c.args.board.now c.args.board.now c.args.change c.requires.holds refl ((rw c.in-Ok-None.field-0-is at c.in-Ok-None.ensures.none).0 refl)

pub work_for-requires-clause-utf8 : goal.work_for-requires-clause-utf8
work_for-requires-clause-utf8 g c =
    let sound = rw c.in-Ok-Some.field-0-is at c.in-Ok-Some.ensures.text in
    subst IsUtf8 (sym c.deref.ensures) sound.0

pub work_for-requires-clause-short : goal.work_for-requires-clause-short
work_for-requires-clause-short g c =
    let sound = rw c.in-Ok-Some.field-0-is at c.in-Ok-Some.ensures.text in
    subst (λ (text : List ℕ). length text ≤ 1048576) (sym c.deref.ensures) sound.1

pub done-requires-clause-caller : goal.done-requires-clause-caller
done-requires-clause-caller g c = one_caller_there c.args.keyer.now.settings c.args.board.now c.args.board.now c.requires.holds

pub done-requires-clause-work : goal.done-requires-clause-work
done-requires-clause-work g c =
    let job = rw c.in-Ok-Some.field-0-is at c.in-Ok-Some.ensures.job in
    job_work (IsWorkOf c.args.board.now.settings) c.args.board.now.state c.args.change c.in-Ok-Some.job (arc_value c.in-Ok.work) job.0 job.1
    (subst₂ (λ (set : Settings) (text : List ℕ). IsWorkOf set c.in-Ok-Some.job.lang text (arc_value c.in-Ok.work)) (sym c.requires.holds.settings_are) c.deref.ensures c.in-Ok.ensures)

pub returns-in-Done : goal.returns-in-Done
returns-in-Done g c = made_then c.args.keyer.now.settings c.args.board.now c.done.new.self c.requires.holds c.args.change c.requires.there (c.done.ensures.adds c.in-Done.is)

pub returns : goal.returns
returns g c = made_before c.args.keyer.now.settings c.args.board.now c.done.new.self c.args.change c.requires.holds (c.done.ensures.unchanged c.in-Already.is) (c.done.ensures.already.0 c.in-Already.is)
