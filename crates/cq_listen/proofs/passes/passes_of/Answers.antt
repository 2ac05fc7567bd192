use Rattle.std.proofs.Common.{◌∙◌, All, ap, subst, sym, arith}
use Rattle.std.proofs.lemmas.List.Elements.{All-push}
use Rattle.cq_cells.specs.Passes.{by_of}
use Rattle.cq_chain.specs.Passes.{BoardPass}
use Rattle.cq_listen.specs.Seats.{IsIdle}
use Rattle.cq_listen.proofs.Seating.{idle_after, child_idle, room_after}
use Rattle.cq_listen.proofs.passes.passes_of.Goals as goal

pub passes-preserved : goal.passes-preserved
passes-preserved g c =
    let hub = c.args.hub.now in
    let i = c.passes.invariant in
    let split = c.split_pass-own.ensures in
    let below = c.passes-test.true in
    let room = room_after c.passes.pass c.split_pass-own.new.pass split.same in
    let had = i.room in
    let most = c.requires.room in
    let len = c.in_ok-push.ensures.len in
    let number = i.number in
    let child = child_idle hub c.passes.pass c.split_pass-own.result split.child split.of.1 i.idle (omega (arith, had, most, below)) in
    record {
      idle = idle_after hub c.passes.pass c.split_pass-own.new.pass split.same split.of.0 i.idle;
      caller = ap (λ (p : BoardPass). by_of p) split.same ∙ i.caller;
      seen = ap (λ (p : BoardPass). p.seen) split.same ∙ i.seen;
      room = omega (arith, room, had, most, below);
      number = omega (arith, len, number);
      each = subst (All (IsIdle hub)) (sym c.in_ok-push.ensures.items) (All-push (IsIdle hub) c.passes.passes.items c.split_pass-own.result i.each child);
    }
