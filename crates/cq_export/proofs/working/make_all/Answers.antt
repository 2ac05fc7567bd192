use Rattle.std.proofs.Common.{ap, arith}
use Rattle.cq_board.specs.declared.answers.Asked.{Asked}
use Rattle.cq_export.proofs.Holding.{one_caller_there, asked_on, goes_on_none, goes_on_then, ready_then, accepted_there, all_made}
use Rattle.cq_export.proofs.working.make_all.Goals as goal

pub ask-asked-requires : goal.ask-asked-requires
ask-asked-requires g c = one_caller_there c.args.keyer.now.settings c.args.board.now c.args.board.now c.requires.holds

pub changes-init : goal.changes-init
changes-init g c =
    let asked = asked_on c.args.keyer.now.settings c.args.board.now c.ask-asked.new.self c.requires.holds c.ask-asked.ensures.adds in
    let done = ap (λ (a : Asked). a.done) c.ask-asked.ensures.answer in
    let more = asked.more in
    record { goes = goes_on_none c.args.keyer.now.settings c.ask-asked.new.self asked.holds; made = omega (arith, done, more) }

pub make_one-requires-clause-holds : goal.make_one-requires-clause-holds
make_one-requires-clause-holds g c = c.changes.invariant.goes.holds

pub make_one-requires-clause-there : goal.make_one-requires-clause-there
make_one-requires-clause-there g c =
    let asked = asked_on c.args.keyer.now.settings c.args.board.now c.ask-asked.new.self c.requires.holds c.ask-asked.ensures.adds in
    accepted_there c.args.keyer.now.settings c.args.board.now c.ask-asked.new.self c.changes.board c.ask-asked.result.accepted c.changes.i asked c.changes.invariant.goes (ap (λ (a : Asked). a.accepted) c.ask-asked.ensures.answer) c.changes-test.true

pub changes-preserved : goal.changes-preserved
changes-preserved g c = record {
  goes = goes_on_then c.args.keyer.now.settings _ _ _ c.changes.invariant.goes c.in-Ok.ensures.on;
  made = ready_then c.args.keyer.now.settings _ _ c.changes.i c.changes.invariant.made c.in-Ok.ensures;
}

pub returns : goal.returns
returns g c =
    let asked = asked_on c.args.keyer.now.settings c.args.board.now c.ask-asked.new.self c.requires.holds c.ask-asked.ensures.adds in
    all_made c.args.keyer.now.settings c.args.board.now c.ask-asked.new.self c.changes.board c.ask-asked.result.accepted c.changes.i asked c.changes.invariant.goes (ap (λ (a : Asked). a.accepted) c.ask-asked.ensures.answer) c.changes-test.false c.changes.invariant.made
