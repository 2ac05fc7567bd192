use Rattle.std.proofs.Common.{rules, [], sym, ◌∙◌}
use Rattle.std.proofs.lemmas.Bool.{false≢true}
use Rattle.cq_board.specs.Answers.{IsWorkAt}
use Rattle.cq_kept.specs.Slots.{state_from}
use Rattle.cq_board.proofs.Works.{accepted_held, kept_work, worked_at, lent_some, lent_same}
use Rattle.cq_board.proofs.undone.work_at.Goals as goal

pub returns-in-Some-clause-some : goal.returns-in-Some-clause-some
returns-in-Some-clause-some g c =
    let a = c.args.changes.now in
    let k = c.in-Some.kept.now in
    let there = kept_work (g.W.Indexed.IsWorkOf a.settings) a.slots 0 a.floor [] c.args.number k c.in-Some.ensures.slot c.in-Some.ensures.work (c.in-Some.ensures.some.0 (search rules)) in
    let same = lent_some c.as_ref.result k.work c.as_ref.ensures.value in
    (λ some. there.0 (sym same ∙ some), λ is. same ∙ there.1 is)

pub returns-in-Some-clause-work : goal.returns-in-Some-clause-work
returns-in-Some-clause-work g c =
    let a = c.args.changes.now in
    let k = c.in-Some.kept.now in
    let IsWork = g.W.Indexed.IsWorkOf a.settings in
    lent_same (IsWorkAt IsWork (state_from a.slots 0 a.floor []) c.args.number) c.as_ref.result k.work c.as_ref.ensures.value
    (worked_at IsWork a.slots 0 a.floor [] c.args.number k c.in-Some.ensures.slot c.in-Some.ensures.work)

pub returns-in-None-clause-some : goal.returns-in-None-clause-some
returns-in-None-clause-some g c =
    let a = c.args.changes.now in
    (λ no. absurd (false≢true no), λ is. absurd (false≢true (c.in-None.ensures.some.1 (accepted_held a.slots 0 a.floor [] c.args.number is))))
