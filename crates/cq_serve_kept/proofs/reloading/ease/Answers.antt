use Rattle.std.proofs.Common.{[]}
use Rattle.cq_serve_kept.proofs.Lowering.{done_asked, low_then}
use Rattle.cq_serve_kept.proofs.reloading.ease.Goals as goal

pub advance-requires : goal.advance-requires
advance-requires g c =
    let hub = c.args.hub.now in
    record {
      of = c.ask-asked.ensures.asks.of;
      done = done_asked hub c.args.keyer.now.settings [] c.make_works.new.pass c.ask-asked.new.pass c.ask-asked.result c.ask-asked.ensures.asks;
    }

pub returns-clause-low : goal.returns-clause-low
returns-clause-low g c = λ set changes is.
    let hub = c.args.hub.now in
    let (still, done) = c.in_ok-make_works.ensures.done set changes is in
    low_then hub set changes c.make_works.new.pass c.ask-asked.new.pass c.advance.new.pass c.sweep.new.pass still done c.ask-asked.result c.ask-asked.ensures.asks _ c.in_ok-_version.ensures.published
    c.sweep.result c.sweep.ensures.swept

pub returns-clause-ready : goal.returns-clause-ready
returns-clause-ready g c = record { in_range = c.requires.ready.in_range; settings = c.requires.ready.settings; of = c.sweep.ensures.swept.of }
