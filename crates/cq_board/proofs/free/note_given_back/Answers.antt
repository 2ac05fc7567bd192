use Rattle.std.proofs.Common.{refl, subst, arith}
use Rattle.std.specs.Prelude.{IsOk}
use Rattle.std.proofs.lemmas.Bool.{false≢true}
use Rattle.cq_board.proofs.Freeing.{pushed_one, room_to_give}
use Rattle.cq_board.proofs.free.note_given_back.Goals as goal

pub returns-clause-given : goal.returns-clause-given
returns-clause-given g c slot let_go =
    let a = c.args.changes.now in
    let few = room_to_give a.slots a.floor c.args.free.now c.requires.free c.args.i c.requires.behind c.requires.within c.requires.held in
    pushed_one a.slots a.floor c.args.free.now c.requires.free c.args.i slot c.requires.within _ _ refl c.requires.behind c.requires.held let_go refl c.push.result (c.push.ensures.succeeds (omega (arith, few, c.requires.room))) c.push.ensures.permutation c.push.ensures.heap_order c.push.ensures.len

-- there is room, so it is not refused
pub unreachable-requires : goal.unreachable-requires
unreachable-requires g c =
    let a = c.args.changes.now in
    let few = room_to_give a.slots a.floor c.args.free.now c.requires.free c.args.i c.requires.behind c.requires.within c.requires.held in
    false≢true (subst IsOk c.in-Err.is (c.push.ensures.succeeds (omega (arith, few, c.requires.room))))
