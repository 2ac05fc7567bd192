use Rattle.std.proofs.Common.{◌++◌, None, refl, ap, ◌∙◌}
use Rattle.std.specs.Prelude.{option_to_list}
use Rattle.cq_cells.specs.declared.item.Item.TheVariants as item
use Rattle.cq_cells.specs.Steps.{noted_of}
use Rattle.cq_cells.proofs.Passing.{same_note, held_seat, ok_idle, keeps_both, may_note, board_fits}
use Rattle.cq_cells.proofs.cells.Cells.leave_board.Goals as goal

pub note-requires-clause-hand : goal.note-requires-clause-hand
note-requires-clause-hand g c = let p = c.pass.inside in let hand = c.requires.1.1.1.1.1.1.1.0 in
    (item.Board hand.0, held_seat p.by p.next p.seat.me.0 p.seat.me.1 0 (item.Board hand.0) None c.pass.invariant (ap (λ z. z.hand) c.pass.view_is ∙ hand.1))

pub note-requires-clause-lawful : goal.note-requires-clause-lawful
note-requires-clause-lawful g c = let p = c.pass.inside in
    may_note g.L.Law.lawful g.L.Law.asks g.L.Law.caller _ _ p.seat.table_id p.asked p.seat.me.0 _ c.self.inside.locked.count 0 g.event
    c.self.view_is c.pass.view_is refl refl c.requires.1.1.1.1.1.1.1.1.0

pub release-requires-clause-hand : goal.release-requires-clause-hand
release-requires-clause-hand g c = let p = c.pass.inside in let hand = c.requires.1.1.1.1.1.1.1.0 in
    (item.Board hand.0, g.event, c.note.ensures.hand (item.Board hand.0) (held_seat p.by p.next p.seat.me.0 p.seat.me.1 0 (item.Board hand.0) None c.pass.invariant (ap (λ z. z.hand) c.pass.view_is ∙ hand.1)))

pub release-requires-clause-fits : goal.release-requires-clause-fits
release-requires-clause-fits g c = λ x event h. let p = c.pass.inside in let hand = c.requires.1.1.1.1.1.1.1.0 in
    let has = c.note.ensures.hand (item.Board hand.0) (held_seat p.by p.next p.seat.me.0 p.seat.me.1 0 (item.Board hand.0) None c.pass.invariant (ap (λ z. z.hand) c.pass.view_is ∙ hand.1)) in
    board_fits g.L.Law.lawful g.L.Law.board g.L.Law.shard _ _ _ _ c.self.view_is c.pass.view_is _ x event g.event c.args.events c.args.board
    c.note.ensures.seen.0 (same_note _ 0 x (item.Board hand.0) event g.event h.0 has.0) c.requires.1.1.1.1.1.1.1.1.1.0 c.requires.1.1.1.1.1.1.1.1.1.1

pub invariant_of-pass : goal.invariant_of-pass
invariant_of-pass g c = let p = c.pass.inside in let q = c.release.new.pass in
    ok_idle p.by p.next p.seat.me.0 p.seat.me.1 q.me.0 q.me.1 c.pass.invariant c.release.ensures.free
    (keeps_both p.seat.me.0 c.note.new.pass.me.0 q.me.0 c.note.ensures.own.1 c.release.ensures.own.1)

pub returns-clause-seen : goal.returns-clause-seen
returns-clause-seen g c = let p = c.pass.inside in let hand = c.requires.1.1.1.1.1.1.1.0 in
    let has = c.note.ensures.hand (item.Board hand.0) (held_seat p.by p.next p.seat.me.0 p.seat.me.1 0 (item.Board hand.0) None c.pass.invariant (ap (λ z. z.hand) c.pass.view_is ∙ hand.1)) in
    let stays = c.note.ensures.seen.0 ∙ ap (λ z. z.seen) c.pass.view_is in
    c.release.ensures.seen ∙ (λ i. stays i ++ option_to_list (noted_of (has.0 i)))
