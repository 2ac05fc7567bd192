use Rattle.std.proofs.Common.{rules}
use Rattle.cq_board.specs.declared.answers.Refused.TheVariants as refused
use Rattle.cq_make.proofs.Puts.{never_refused, one_put}
use Rattle.cq_make.proofs.putting.put_one.Goals as goal

pub unreachable-requires : goal.unreachable-requires
unreachable-requires g c =
    let r = c.requires.put in
    let call = (rw c.in-Err-Absent.field-0-is at c.in-Err-Absent.ensures.refused) r.0 r.1 r.2 in
    never_refused c.args.hub.now.settings c.args.number c.args.file r.0 r.1 call.mid c.in_ok-change.change refused.Absent c.requires.few (search rules) c.requires.room r.3.1 c.in_ok-change.ensures.change call.others tt call.says

pub unreachable-requires-in-Err-FullChanges : goal.unreachable-requires-in-Err-FullChanges
unreachable-requires-in-Err-FullChanges g c =
    let r = c.requires.put in
    let call = (rw c.in-Err-FullChanges.field-0-is at c.in-Err-FullChanges.ensures.refused) r.0 r.1 r.2 in
    never_refused c.args.hub.now.settings c.args.number c.args.file r.0 r.1 call.mid c.in_ok-change.change refused.FullChanges c.requires.few (search rules) c.requires.room r.3.1 c.in_ok-change.ensures.change call.others tt call.says

pub unreachable-requires-in-Err-FullText : goal.unreachable-requires-in-Err-FullText
unreachable-requires-in-Err-FullText g c =
    let r = c.requires.put in
    let call = (rw c.in-Err-FullText.field-0-is at c.in-Err-FullText.ensures.refused) r.0 r.1 r.2 in
    never_refused c.args.hub.now.settings c.args.number c.args.file r.0 r.1 call.mid c.in_ok-change.change refused.FullText c.requires.few (search rules) c.requires.room r.3.1 c.in_ok-change.ensures.change call.others tt call.says

pub returns-in-Ok : goal.returns-in-Ok
returns-in-Ok g c =
    let r = c.requires.put in
    let led = one_put _ c.args.number c.args.file r.0 _ _ r.1 c.in_ok-change.change _ (c.in-Ok.ensures.accepted r.0 r.1 r.2) r.3.0 c.in_ok-change.ensures.change r.3.1 in
    record { put = (r.0, led.after, led.stands, (led.closed, led.holds)) }
