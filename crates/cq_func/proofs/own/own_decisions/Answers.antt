use Rattle.std.proofs.Common.{◌≡◌, ◌+◌, cond, length, sym, subst, arith, rules}
use Rattle.std.specs.Prelude.{reverse}
use Rattle.cq_func.specs.Walks.{noted, moved, IsStack, AreOwn}
use Rattle.cq_func.proofs.Walked.{stack_places, stack_moved, own_step}
use Rattle.cq_func.proofs.own.own_decisions.Goals as goal

pub note-requires-clause-within : goal.note-requires-clause-within
note-requires-clause-within c =
    let long = c.loop-at.invariant.1.long in
    rw c.deref.ensures.value (stack_places c.args.functions.now c.loop-at.at (length c.loop-at.own.items) c.loop-at.stack.items (omega (arith, long)) c.loop-at.invariant.0)

pub move_on-requires-clause-within : goal.move_on-requires-clause-within
move_on-requires-clause-within c =
    let long = c.in_ok-closes.ensures.long in
    stack_places c.args.functions.now c.loop-at.at _ c.loop-at.stack.items (grind (arith, long)) c.loop-at.invariant.0

pub loop-at-preserved : goal.loop-at-preserved
loop-at-preserved c =
    let fs = c.args.functions.now in
    let ts = c.args.tokens.now in
    let at = c.loop-at.at in
    let s = reverse c.loop-at.stack.items in
    let own = c.loop-at.own.items in
    let closes = c.in_ok-closes.closes.items in
    let is_moved : reverse c.move_on.new.stack.items ≡ moved closes at s = search rules in
    let is_noted : c.note.new.own.items ≡ cond c.decides.result (noted s own) own = search rules in (
      subst (IsStack fs (at + 1)) (sym is_moved) (stack_moved fs (length ts) at closes s (omega arith) c.requires.bodies c.in_ok-closes.ensures c.loop-at.invariant.0),
      subst (AreOwn c.args.lang ts fs (at + 1)) (sym is_noted) (own_step c.args.lang ts fs at s own c.decides.result (omega arith) c.requires.bodies c.decides.ensures c.loop-at.invariant.0 c.loop-at.invariant.1),
    )
