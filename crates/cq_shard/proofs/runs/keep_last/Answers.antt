use Rattle.std.proofs.Common.{[], ◌∙◌, ◌-◌, ◌<◌, length, arith}
use Rattle.std.proofs.lemmas.List.{length-set, get_or_default}
use Rattle.cq_shard.proofs.Lasting.{left_next}
use Rattle.cq_shard.proofs.runs.keep_last.Goals as goal

pub runs-preserved : goal.runs-preserved
runs-preserved c =
    let i = c.runs.kept - 1 in
    let runs = c.runs.runs.items in
    let run = c.index_mut.result.now in
    let some = c.runs-test.true in
    let most = c.runs.invariant.within in
    let within : i < length runs = omega (arith, some, most) in
    let long = length-set runs i c.keep.new.self in
    record {
      within = omega (arith, long, most);
      left = left_next c.args.changes.now c.args.runs.now.items runs i run c.keep.new.self c.runs.invariant.left within (c.index_mut.ensures.value ∙ get_or_default runs i run [] within) c.keep.ensures;
    }
