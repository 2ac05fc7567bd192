use Rattle.std.proofs.Common.{rules}
use Rattle.cq_shared.specs.SharedPasses.{callers_of}
use Rattle.cq_beside.proofs.Gathering.{besides_none, child_closed, child_unasked}
use Rattle.cq_beside.proofs.joining.apart.Goals as goal

pub talk-told-requires : goal.talk-told-requires
talk-told-requires g c =
    let split = c.split_pass-own.ensures in
    record {
      crosses = search rules;
      may = c.requires.may;
      settings = c.requires.talks;
      of = split.of.1;
      closed = child_closed c.args.floor.now.hub.now c.args.pass c.split_pass-own.result split.child c.requires.of c.requires.room;
      unasked = child_unasked c.args.pass c.split_pass-own.result split.child;
    }

pub returns : goal.returns
returns g c =
    let hub = c.args.floor.now.hub.now in
    let split = c.split_pass-own.ensures in
    let joined = c.join_pass.ensures in
    let Said = g.T.Talker.Said c.args.talker c.talk-told.result (callers_of hub) in
    record {
      besides = besides_none hub Said c.args.pass c.split_pass-own.new.pass c.split_pass-own.result c.talk-told.new.pass c.join_pass.new.pass split.same split.child c.requires.of
          c.talk-told.ensures.said joined.of joined.seen joined.one_history joined.callers joined.room.0 joined.own.0 joined.unmade;
    }
