use Rattle.std.proofs.Common.{refl}
use Rattle.std.proofs.lemmas.Result.{IfOk-weaker}
use Rattle.cq_export.proofs.Accepting.{begun}
use Rattle.cq_export.proofs.Ended.{written_of}
use Rattle.cq_export.proofs.Holding.{accepted_holds, accepted_named, of_accepted}
use Rattle.cq_export.proofs.exporting.export.Goals as goal

pub take_changes-requires-clause-nothing : goal.take_changes-requires-clause-nothing
take_changes-requires-clause-nothing g c = begun c.args.keyer.now.settings c.in_ok-board.board c.in_ok-board.ensures.stands c.in_ok-board.ensures.settings c.in_ok-board.ensures.callers

pub made-requires-clause-holds : goal.made-requires-clause-holds
made-requires-clause-holds g c =
    let (changes, taken, has) = rw c.in-All.is at c.in_ok-take_changes.ensures.takes in
    (accepted_holds c.args.keyer.now.settings changes c.take_changes.new.board has).0

pub made-requires-clause-named : goal.made-requires-clause-named
made-requires-clause-named g c =
    let (changes, taken, has) = rw c.in-All.is at c.in_ok-take_changes.ensures.takes in
    accepted_named c.args.keyer.now.settings changes c.take_changes.new.board has

pub returns-in-Spent-clause-exports : goal.returns-in-Spent-clause-exports
returns-in-Spent-clause-exports g c = (rw c.in-Spent.is at c.in_ok-take_changes.ensures.takes, rw c.in-Spent.is at c.in_ok-take_changes.ensures.cause, refl)

pub returns-in-Failed-clause-exports : goal.returns-in-Failed-clause-exports
returns-in-Failed-clause-exports g c = (rw c.in-Failed.is at c.in_ok-take_changes.ensures.takes, rw c.in-Failed.is at c.in_ok-take_changes.ensures.cause, refl)

pub returns-in-Refused-clause-exports : goal.returns-in-Refused-clause-exports
returns-in-Refused-clause-exports g c = (rw c.in-Refused.is at c.in_ok-take_changes.ensures.takes, rw c.in-Refused.is at c.in_ok-take_changes.ensures.cause, refl)

pub returns-clause-exports : goal.returns-clause-exports
returns-clause-exports g c =
    let (changes, taken, has) = rw c.in-All.is at c.in_ok-take_changes.ensures.takes in
    let of = of_accepted c.args.keyer.now.settings changes c.take_changes.new.board c.args.project.now c.in_ok-snapshot.snapshot has c.in_ok-snapshot.ensures.of_changes in
    IfOk-weaker c.write.result _ _
    (λ by writes. written_of g.row.L.Denot g.S.Source g.K.Sink c.args.keyer.now.settings c.args.project.now c.args.source.now c.take_changes.new.source c.args.sink.now c.write.new.sink changes c.in_ok-snapshot.snapshot taken (rw c.in-All.is at c.in_ok-take_changes.ensures.cause) of by writes)
    c.write.ensures.writes
