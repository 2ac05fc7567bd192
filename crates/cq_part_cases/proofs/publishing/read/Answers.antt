use Rattle.std.proofs.Common.{[], ◌∷◌, ◌++◌, refl, sym, ◌∙◌, subst, append-nil}
use Rattle.std.specs.Prelude.{IsSome}
use Rattle.cq_history.specs.declared.event.Event.TheVariants as event
use Rattle.cq_hub.specs.Hubs.{IsPublication, Never}
use Rattle.cq_hub.proofs.Following.{view_then, latest_opened, opened_then, shut_then}
use Rattle.cq_hub.proofs.Staying.{closed_stays, viewing_stays}
use Rattle.cq_part_cases.proofs.publishing.read.Goals as goal

pub open_view-requires : goal.open_view-requires
open_view-requires g c =
    let r = c.requires in
    let callers = g.H.Hub.callers c.args.hub.now in
    let asked = c.ask-asked.ensures.asks r.0 r.1 r.2 in
    let h = asked.mid ++ event.Ask r.0 ∷ [] in
    let moved = c.advance.ensures.published r.0 h asked.stands in
    let closed = view_then callers g.H.Hub.alone Never r.0 r.1 asked.mid (event.Ask r.0) asked.others refl tt ∙ r.3 in
    record { closed = (r.0, moved.mid, subst (g.H.Hub.Stands c.args.hub.now c.advance.new.pass r.0) (append-nil moved.mid) moved.stands, closed_stays callers g.H.Hub.alone IsPublication r.0 h moved.mid moved.others closed) }

pub read_bucket-requires : goal.read_bucket-requires
read_bucket-requires g c =
    let r = c.requires in
    let callers = g.H.Hub.callers c.args.hub.now in
    let there = g.met.H.Hub.caller c.args.hub.now c.args.pass.now r.0 r.1 r.2 in
    let asked = c.ask-asked.ensures.asks r.0 r.1 r.2 in
    let moved = c.advance.ensures.published r.0 _ asked.stands in
    let opened = c.in_ok-view.ensures.opened r.0 _ moved.stands in
    record { viewing = (r.0, opened.mid ++ event.Open r.0 c.in_ok-view.view.version ∷ [], opened.stands, latest_opened callers r.0 opened.mid (g.W.Indexed.IsWorkOf (g.H.Hub.settings c.args.hub.now)) c.in_ok-view.view there opened.says) }

pub close_view-requires : goal.close_view-requires
close_view-requires g c =
    let r = c.requires in
    let callers = g.H.Hub.callers c.args.hub.now in
    let there = g.met.H.Hub.caller c.args.hub.now c.args.pass.now r.0 r.1 r.2 in
    let asked = c.ask-asked.ensures.asks r.0 r.1 r.2 in
    let moved = c.advance.ensures.published r.0 _ asked.stands in
    let opened = c.in_ok-view.ensures.opened r.0 _ moved.stands in
    let h = opened.mid ++ event.Open r.0 c.in_ok-view.view.version ∷ [] in
    let reads = c.read_bucket.ensures.reads r.0 h opened.stands in
    record { viewing = (r.0, reads.mid, subst (g.H.Hub.Stands c.args.hub.now c.read_bucket.new.pass r.0) (append-nil reads.mid) reads.stands, viewing_stays callers g.H.Hub.alone Never r.0 h reads.mid reads.others (subst IsSome (sym (opened_then callers r.0 opened.mid c.in_ok-view.view.version there)) refl)) }

pub returns : goal.returns
returns g c =
    let r = c.requires in
    let callers = g.H.Hub.callers c.args.hub.now in
    let asked = c.ask-asked.ensures.asks r.0 r.1 r.2 in
    let moved = c.advance.ensures.published r.0 _ asked.stands in
    let opened = c.in_ok-view.ensures.opened r.0 _ moved.stands in
    let reads = c.read_bucket.ensures.reads r.0 _ opened.stands in
    let shut = c.close_view.ensures.shut r.0 _ reads.stands in
    (r.0, _, shut.stands, shut_then callers r.0 shut.mid)
