use Rattle.std.proofs.Common.{refl, ◌∙◌, arith}
use Rattle.cq_hub.proofs.Growing.{grows_none}
use Rattle.cq_session.proofs.ManyWorks.{none_helped, each_accepted, all_done, help_more, helps_less, helps_then}
use Rattle.cq_session.proofs.helping.help_down.Goals as goal

pub changes-init : goal.changes-init
changes-init g c = record {
  low = omega arith;
  led = λ by h stands closed le. record {
    after = h;
    stands = stands;
    closed = closed;
    holds = none_helped _ by _ h _ (grows_none _ by _ h) (record { front = le; back = λ r behind low. absurd (omega (arith, behind, low)) });
  };
  asked = refl;
}

pub help_one-requires-clause-accepted : goal.help_one-requires-clause-accepted
help_one-requires-clause-accepted g c =
    let r = c.requires.accepted in
    let led = c.changes.invariant.led r.0 r.1 r.2 r.3.0 r.3.1.0 in
    let past = c.changes-test.true in
    (r.0, led.after, led.stands, (led.closed, each_accepted _ r.0 c.args.to r.1 (g.H.Hub.callers c.args.server.now.hub.now) c.changes.left _ led.after r.3.1.1 (omega (arith, past)) c.changes.invariant.low led.holds))

pub returns-in-Err-clause-refused : goal.returns-in-Err-clause-refused
returns-in-Err-clause-refused g c = λ by h stands closed le.
    let led = c.changes.invariant.led by h stands closed le in
    let two = c.in-Err.ensures.refused by led.after led.stands led.closed tt in
    record {
      after = two.after;
      stands = two.stands;
      closed = two.closed;
      holds = helps_then _ by c.args.to h c.changes.left _ _ _ led.after two.after led.holds two.holds c.changes.invariant.low tt;
    }

pub changes-preserved : goal.changes-preserved
changes-preserved g c = record {
  low = (let low = c.changes.invariant.low in omega (arith, low));
  led = λ by h stands closed le.
      let led = c.changes.invariant.led by h stands closed le in
      let two = c.in-Ok.ensures.done by led.after led.stands led.closed tt in
      record {
        after = two.after;
        stands = two.stands;
        closed = two.closed;
        holds = help_more _ by c.args.to h (g.H.Hub.settings c.args.server.now.hub.now) (g.H.Hub.callers c.args.server.now.hub.now) c.args.done c.changes.left led.after two.after (g.met.H.Hub.lawful _ _ by two.after two.stands) led.holds two.holds c.changes.invariant.low;
      };
  asked = c.in-Ok.ensures.asked ∙ c.changes.invariant.asked;
}

pub returns-clause-done : goal.returns-clause-done
returns-clause-done g c = λ by h stands closed le.
    let led = c.changes.invariant.led by h stands closed le in
    let past = c.changes-test.false in
    record {
      after = led.after;
      stands = led.stands;
      closed = led.closed;
      holds = helps_less _ by c.args.to h _ _ led.after led.holds (λ some. all_done _ c.args.done c.changes.left c.args.to led.after (omega (arith, past)) led.holds.so);
    }
