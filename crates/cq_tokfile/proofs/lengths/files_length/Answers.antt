use Rattle.std.proofs.Common.{◌<◌, length, ap, arith}
use Rattle.std.proofs.lemmas.List.{take_all}
use Rattle.std.proofs.lemmas.List.Sums.{sum_by_more}
use Rattle.std.proofs.lemmas.Option.{get_or_from_slice_get}
use Rattle.cq_tokfile.specs.Snapshot.{file_length, files_length}
use Rattle.cq_tokfile.proofs.lengths.files_length.Goals as goal

pub loop-i-preserved : goal.loop-i-preserved
loop-i-preserved g c =
    let files = c.args.files.now in
    let i = c.loop-i.i in
    let item = c.at.result.now in
    let test = c.loop-i-test.true in
    let len = c.len-i-end.ensures in
    let within : i < length files = omega (arith, test, len) in
    let more = sum_by_more file_length files i item within in
    let here = ap file_length (get_or_from_slice_get files i item item c.at.ensures) in
    let one = c.file_length.ensures in
    let added = c.saturating_add-count.ensures in
    let so_far = c.loop-i.invariant in
    omega (arith, one, added, so_far, more, here)

pub returns : goal.returns
returns g c =
    let test = c.loop-i-test.false in
    let len = c.len-i-end.ensures in
    let all = ap files_length (take_all c.loop-i.i c.args.files.now (omega (arith, test, len))) in
    let so_far = c.loop-i.invariant in
    omega (arith, so_far, all)
