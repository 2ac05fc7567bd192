use Rattle.std.proofs.Common.{◌≡◌, ◌++◌, take, drop, ap, ◌∙◌, subst, arith}
use Rattle.std.specs.Vec.Iter.{into_iter_items}
use Rattle.cq_projects.proofs.Moving.{left_on, moved_some, moved_none}
use Rattle.cq_projects.proofs.merging.append_moved.Goals as goal
use Rattle.cq_projects.proofs.merging.append_moved.Goals.{in-Some+in_ok-push, in_default}

pub loop-step-preserved : goal.loop-step-preserved
loop-step-preserved g c =
    let n = c.loop-step._step in
    let xs = into_iter_items c.args.rest.now in
    let rest = c.loop-step.rest.rest in
    let now = into_iter_items c.next.new.self in
    elim c.match-next.branch [
      | in-Some+in_ok-push w ↦ (
        ap (λ v. v.items) w.done-is ∙ moved_some n xs rest.items c.loop-step.invariant.1 rest.len c.next.result now rest.ok.0 c.next.ensures.variant c.next.ensures.items c.args.done.now.items c.loop-step.done.items w.push.new.self.items w.in-Some.held w.in-Some.is c.loop-step.invariant.0 w.in_ok-push.ensures.items,
        left_on n xs rest.items c.loop-step.invariant.1 rest.len c.next.result now rest.ok.0 c.next.ensures.variant c.next.ensures.items,
      )
      | in_default w ↦ (
        ap (λ v. v.items) w.done-is ∙ moved_none n xs rest.items c.loop-step.invariant.1 rest.len c.next.result now rest.ok.0 c.next.ensures.variant c.next.ensures.items c.args.done.now.items c.loop-step.done.items w.in_default.is c.loop-step.invariant.0,
        left_on n xs rest.items c.loop-step.invariant.1 rest.len c.next.result now rest.ok.0 c.next.ensures.variant c.next.ensures.items,
      )
    ]

pub returns-clause-moved : goal.returns-clause-moved
returns-clause-moved g c =
    let ended : c.loop-step._step ≡ c.args.count = omega arith in
    subst (λ n. c.loop-step.done.items ≡ c.args.done.now.items ++ take n (into_iter_items c.args.rest.now)) ended c.loop-step.invariant.0

pub returns-clause-left : goal.returns-clause-left
returns-clause-left g c =
    let ended : c.loop-step._step ≡ c.args.count = omega arith in
    subst (λ n. into_iter_items c.loop-step.rest ≡ drop n (into_iter_items c.args.rest.now)) ended c.loop-step.invariant.1
