use Rattle.std.proofs.Common.{◌<◌, length, ap, ◌∙◌, arith}
use Rattle.std.proofs.lemmas.List.{length-set}
use Rattle.cq_order.proofs.InPlace.{in_place_read, in_place_set, in_place_all}
use Rattle.cq_shard.specs.Blocks.{with_puts}
use Rattle.cq_shard.specs.Tables.{no_later}
use Rattle.cq_shard.proofs.table.cut_each.Goals as goal

pub loop-i-preserved : goal.loop-i-preserved
loop-i-preserved c =
    let cut = with_puts (no_later c.args.last) in
    let old = c.args.blocks.now.items in
    let i = c.loop-i.i in
    let within : i < length old = (let number = c.loop-i.invariant.number in let lt = c.loop-i-test.true in omega (arith, lt, number)) in
    let read = c.index_mut.ensures.value ∙ in_place_read cut old c.loop-i.blocks.items i c.index_mut.result.now within c.loop-i.invariant.cut in
    record {
      number = length-set c.loop-i.blocks.items i c.cut_block.new.block ∙ c.loop-i.invariant.number;
      cut = in_place_set cut old c.loop-i.blocks.items i c.index_mut.result.now c.cut_block.new.block within c.loop-i.invariant.cut (c.cut_block.ensures ∙ ap cut read);
    }

pub returns : goal.returns
returns c = in_place_all (with_puts (no_later c.args.last)) c.args.blocks.now.items c.loop-i.blocks.items c.loop-i.i (let past = c.loop-i-test.false in let most = c.loop-i.auto.i-end in let all = c.len-i-end.ensures in omega (arith, past, most, all)) c.loop-i.invariant.cut
