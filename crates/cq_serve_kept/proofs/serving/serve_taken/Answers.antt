use Rattle.std.proofs.Common.{◌≡◌, Bool, None, List, [], false, ap, ◌∙◌, rules, subst, sym, arith}
use Rattle.cq_base.specs.declared.change.Change.{Change}
use Rattle.cq_cells.specs.Passes.{by_of}
use Rattle.cq_chain.specs.Passes.{BoardPass}
use Rattle.cq_history.specs.State.{accepted, view_of}
use Rattle.cq_listen.proofs.Seating.{child_idle}
use Rattle.cq_log.specs.Mending.{mending}
use Rattle.cq_shared.specs.SharedPasses.{state_of}
use Rattle.cq_serve_kept.specs.Continued.{ContinuesBroken, ContinuesWhole, EndsLogged}
use Rattle.cq_serve_kept.proofs.Mended.{broken_mended, first_taken, mends_front, whole_mended}
use Rattle.cq_serve_kept.proofs.FirstPass.{room_left}
use Rattle.cq_serve_kept.proofs.serving.serve_taken.Goals as goal

pub passes_of-requires : goal.passes_of-requires
passes_of-requires g c =
    let hub = c.args.hub.now in
    let p = c.args.taken.pass in
    let (changes, has) = c.requires.taken in
    let left = room_left hub c.args.ground.now.settings.now changes p has in
    record {
      idle = record { of = has.of; closed = subst (λ n. view_of (state_of hub p.seen) n ≡ None) (sym has.caller) has.ease.closed };
      room = let room = c.requires.room in omega (arith, left, room);
    }

pub passes_of-requires-2 : goal.passes_of-requires-2
passes_of-requires-2 g c =
    let (changes, has) = c.requires.taken in
    let left = room_left c.args.hub.now c.args.ground.now.settings.now changes c.args.taken.pass has in
    let room = c.requires.room in
    let first = c.in_ok-passes_of.ensures.room in
    record { idle = c.in_ok-passes_of.ensures.idle; room = omega (arith, left, room, first) }

pub split_pass-requires : goal.split_pass-requires
split_pass-requires g c =
    let (changes, has) = c.requires.taken in
    let left = room_left c.args.hub.now c.args.ground.now.settings.now changes c.args.taken.pass has in
    let room = c.requires.room in
    let first = c.in_ok-passes_of.ensures.room in
    let second = c.in_ok-passes_of-2.ensures.room in
    record { of = c.in_ok-passes_of-2.ensures.idle.of; room = omega (arith, left, room, first, second) }

pub returns-in-Err-mend : goal.returns-in-Err-mend
returns-in-Err-mend g c = record {
  ends = λ changes has.
      let (front, more, parts, sent) = c.in-Err-mend.ensures.bytes in
      mends_front c.args.hub.now c.args.ground.now.settings.now changes c.args.taken.pass has g.K.Sink c.args.sink.now c.mend.new.sink (mending c.args.taken.unclosed c.args.taken.torn) front more parts sent c.in-Err-mend.ensures.cause.failed;
}

pub serve_logging-requires-clause-settings : goal.serve_logging-requires-clause-settings
serve_logging-requires-clause-settings g c κs lives = let (changes, has) = c.requires.taken in has.settings

pub serve_logging-requires-clause-first : goal.serve_logging-requires-clause-first
serve_logging-requires-clause-first g c κs lives =
    let q : BoardPass = c.split_pass.new.pass in
    let split = c.split_pass.ensures in
    let (changes, has) = c.requires.taken in
    first_taken c.args.hub.now c.args.ground.now.settings.now changes c.args.taken.pass has q split.of.0 (ap (λ (x : BoardPass). by_of x) split.same ∙ (c.in_ok-passes_of-2.ensures.caller ∙ c.in_ok-passes_of.ensures.caller))

pub serve_logging-requires-clause-workers : goal.serve_logging-requires-clause-workers
serve_logging-requires-clause-workers g c κs lives = c.in_ok-passes_of.ensures.each

pub serve_logging-requires-clause-sessions : goal.serve_logging-requires-clause-sessions
serve_logging-requires-clause-sessions g c κs lives = c.in_ok-passes_of-2.ensures.each

pub serve_logging-requires-clause-own : goal.serve_logging-requires-clause-own
serve_logging-requires-clause-own g c κs lives =
    let hub = c.args.hub.now in
    let split = c.split_pass.ensures in
    let (changes, has) = c.requires.taken in
    let left = room_left hub c.args.ground.now.settings.now changes c.args.taken.pass has in
    let room = c.requires.room in
    let room_one = c.in_ok-passes_of.ensures.room in
    let room_two = c.in_ok-passes_of-2.ensures.room in
    child_idle hub c.passes_of-2.new.pass c.split_pass.result split.child split.of.1 c.in_ok-passes_of-2.ensures.idle (omega (arith, left, room, room_one, room_two))

pub serve_logging-requires-clause-few : goal.serve_logging-requires-clause-few
serve_logging-requires-clause-few g c κs lives = let number = c.in_ok-passes_of-2.ensures.number in let sessions = c.requires.sessions in omega (arith, number, sessions)

pub returns-then-whole : goal.returns-then-whole
returns-then-whole g c = record {
  ends = λ changes has.
      let set = c.args.ground.now.settings.now in
      let log = c.in_ok-over.over.1 in
      let mid = c.mend.new.sink in
      let same : accepted c.split_pass.new.pass.seen ≡ accepted c.args.taken.pass.seen = ap (λ (x : BoardPass). accepted x.seen) c.split_pass.ensures.same ∙ ap accepted (c.in_ok-passes_of-2.ensures.seen ∙ c.in_ok-passes_of.ensures.seen) in
      let logged = subst (λ (whole : Bool). EndsLogged g.K.Sink set [] (accepted c.split_pass.new.pass.seen) mid log.sink.now whole) c.if-whole.true c.in_ok-over.ensures.ends in
      let whole = whole_mended g.K.Sink set changes c.args.sink.now mid log.sink.now (mending c.args.taken.unclosed c.args.taken.torn) c.in-Ok-mend.ensures.bytes
      (subst (λ (cs : List Change). ContinuesWhole g.K.Sink set [] cs mid log.sink.now) (same ∙ has.accepts) logged) in
      subst (λ (k : g.row.K.Denot). ContinuesWhole g.K.Sink set (mending c.args.taken.unclosed c.args.taken.torn) changes c.args.sink.now k) (search rules) whole;
}

pub returns : goal.returns
returns g c = record {
  ends = λ changes has.
      let set = c.args.ground.now.settings.now in
      let log = c.in_ok-over.over.1 in
      let mid = c.mend.new.sink in
      let broken : log.whole ≡ false = search rules in
      let same : accepted c.split_pass.new.pass.seen ≡ accepted c.args.taken.pass.seen = ap (λ (x : BoardPass). accepted x.seen) c.split_pass.ensures.same ∙ ap accepted (c.in_ok-passes_of-2.ensures.seen ∙ c.in_ok-passes_of.ensures.seen) in
      let logged = subst (λ (whole : Bool). EndsLogged g.K.Sink set [] (accepted c.split_pass.new.pass.seen) mid log.sink.now whole) broken c.in_ok-over.ensures.ends in
      let cut = broken_mended g.K.Sink set changes c.args.sink.now mid log.sink.now (mending c.args.taken.unclosed c.args.taken.torn) c.in-Ok-mend.ensures.bytes c.in-Ok-mend.ensures.cause.kept
      (subst (λ (cs : List Change). ContinuesBroken g.K.Sink set [] cs mid log.sink.now) (same ∙ has.accepts) logged) in
      subst (λ (k : g.row.K.Denot). ContinuesBroken g.K.Sink set (mending c.args.taken.unclosed c.args.taken.torn) changes c.args.sink.now k) (search rules) cut;
}
