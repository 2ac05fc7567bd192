use Rattle.std.proofs.Common.{◌+◌, ◌<◌, length, ap, arith}
use Rattle.std.proofs.lemmas.List.{take_all}
use Rattle.std.proofs.lemmas.List.Sums.{sum_by_more}
use Rattle.cq_base.specs.declared.norm.Norm.{Norm}
use Rattle.cq_tokfile.specs.Snapshot.{tokens_length}
use Rattle.cq_tokfile.proofs.Written.{no_norm}
use Rattle.cq_tokfile.proofs.lengths.tokens_length.Goals as goal

pub loop-i-preserved : goal.loop-i-preserved
loop-i-preserved g c =
    let tokens = c.args.tokens.now in
    let i = c.loop-i.i in
    let test = c.loop-i-test.true in
    let len = c.len-i-end.ensures in
    let within : i < length tokens = omega (arith, test, len) in
    let more = sum_by_more (λ (n : Norm). 21 + length n.text) tokens i no_norm within in
    let text = ap (λ (n : Norm). length n.text) (c.seen_at-seen.ensures.token no_norm) in
    let inner = c.more.ensures in
    let outer = c.more-count.ensures in
    let so_far = c.loop-i.invariant.0 in
    let steps = c.loop-i.invariant.1 in
    let step = c.seen_at-seen.ensures.step in
    (omega (arith, inner, outer, so_far, more, text), omega (arith, steps, step))

pub returns-clause-length : goal.returns-clause-length
returns-clause-length g c =
    let test = c.loop-i-test.false in
    let len = c.len-i-end.ensures in
    let all = ap tokens_length (take_all c.loop-i.i c.args.tokens.now (omega (arith, test, len))) in
    let so_far = c.loop-i.invariant.0 in
    omega (arith, so_far, all)
