use Rattle.std.proofs.Common.{refl, ◌∙◌, arith}
use Rattle.cq_hub.proofs.Growing.{grows_none, no_fewer}
use Rattle.cq_session.proofs.ManyWorks.{none_helped, helps_then}
use Rattle.cq_session.proofs.helping.help.Goals as goal

pub rounds-init : goal.rounds-init
rounds-init g c = record {
  led = λ by h stands closed le. record { after = h; stands = stands; closed = closed; holds = none_helped _ by _ h _ (grows_none _ by _ h) le };
  asked = refl;
}

pub help_down-requires-clause-accepted : goal.help_down-requires-clause-accepted
help_down-requires-clause-accepted g c =
    let r = c.requires.accepted in
    let led = c.rounds.invariant.led r.0 r.1 r.2 r.3.0 r.3.1.0 in
    let more = no_fewer (g.H.Hub.callers c.args.server.now.hub.now) _ _ r.0 r.1 led.after _ led.holds.grows in
    let few = r.3.1.1 in
    let low = c.min-until.ensures in
    (r.0, led.after, led.stands, (led.closed, (led.holds.so, omega (arith, more, few, low))))

pub returns-in-Err-clause-refused : goal.returns-in-Err-clause-refused
returns-in-Err-clause-refused g c = λ by h stands closed le.
    let led = c.rounds.invariant.led by h stands closed le in
    let two = c.in-Err.ensures.refused by led.after led.stands led.closed led.holds.so in
    record {
      after = two.after;
      stands = two.stands;
      closed = two.closed;
      holds = helps_then _ by c.args.to h c.min-until.result _ _ _ led.after two.after led.holds two.holds (let low = c.min-until.ensures in omega (arith, low)) tt;
    }

pub rounds-preserved : goal.rounds-preserved
rounds-preserved g c = record {
  led = λ by h stands closed le.
      let led = c.rounds.invariant.led by h stands closed le in
      let two = c.in-Ok.ensures.done by led.after led.stands led.closed led.holds.so in
      record {
        after = two.after;
        stands = two.stands;
        closed = two.closed;
        holds = helps_then _ by c.args.to h c.min-until.result _ _ _ led.after two.after led.holds two.holds (let low = c.min-until.ensures in omega (arith, low)) (two.holds.so (let low = c.min-until.ensures in let far = c.saturating_add.ensures in let past = c.rounds-test.true in let most = c.ranges.to.fits in omega (arith, low, far, past, most)));
      };
  asked = c.in-Ok.ensures.asked ∙ c.rounds.invariant.asked;
}
