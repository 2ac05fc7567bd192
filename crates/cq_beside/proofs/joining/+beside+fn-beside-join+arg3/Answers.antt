use Rattle.std.proofs.Common.{◌-◌, arith}
use Rattle.cq_shared.specs.SharedPasses.{callers_of}
use Rattle.cq_beside.proofs.Gathering.{besides_one}
use Rattle.cq_beside.proofs.joining.+beside+fn-beside-join+arg3.Goals as goal

pub returns : goal.returns
returns g t c =
    let hub = c.args.floor.now.hub.now in
    let p = c.args.pass in
    let split = c.split_pass-mine.ensures in
    let mine = c.split_pass-mine.result in
    let back = c.join-mine.result.0 in
    let told = c.join-mine.result.1.0 in
    let q = c.join-mine.result.1.1 in
    let joined = c.join_pass.ensures in
    let some = c.if-workers-eq0.false in
    record {
      besides = besides_one hub (g.T.Talker.Said c.args.talker told (callers_of hub)) p c.split_pass-mine.new.pass mine q back c.join_pass.new.pass (c.args.workers - 1) c.args.workers (omega (arith, some))
          split.same split.child c.join-mine.ensures.second c.join-mine.ensures.first joined.of joined.seen joined.one_history joined.callers joined.room.0 joined.own.0 joined.own.1 joined.unmade;
    }
