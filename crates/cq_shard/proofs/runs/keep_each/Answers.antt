use Rattle.std.proofs.Common.{◌<◌, length, ap, ◌∙◌, arith}
use Rattle.std.proofs.lemmas.List.{length-set}
use Rattle.cq_order.proofs.InPlace.{in_place_read, in_place_set, in_place_all}
use Rattle.cq_shard.specs.Stores.{those_of}
use Rattle.cq_shard.proofs.runs.keep_each.Goals as goal

pub loop-i-preserved : goal.loop-i-preserved
loop-i-preserved c =
    let kept = those_of c.args.changes.now in
    let old = c.args.runs.now.items in
    let i = c.loop-i.i in
    let within : i < length old = (let number = c.loop-i.invariant.number in let lt = c.loop-i-test.true in omega (arith, lt, number)) in
    let read = c.index_mut.ensures.value ∙ in_place_read kept old c.loop-i.runs.items i c.index_mut.result.now within c.loop-i.invariant.kept in
    record {
      number = length-set c.loop-i.runs.items i c.keep.new.self ∙ c.loop-i.invariant.number;
      kept = in_place_set kept old c.loop-i.runs.items i c.index_mut.result.now c.keep.new.self within c.loop-i.invariant.kept (c.keep.ensures ∙ ap kept read);
    }

pub returns : goal.returns
returns c = in_place_all (those_of c.args.changes.now) c.args.runs.now.items c.loop-i.runs.items c.loop-i.i (let past = c.loop-i-test.false in let most = c.loop-i.auto.i-end in let all = c.len-i-end.ensures in omega (arith, past, most, all)) c.loop-i.invariant.kept
