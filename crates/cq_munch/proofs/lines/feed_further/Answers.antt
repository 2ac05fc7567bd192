use Rattle.std.proofs.Common.{◌+◌, ◌<◌, length, sym, ap, ◌∙◌, arith}
use Rattle.cq_munch.proofs.Feeds.{few_lines, feed_later, line_up_to, next_line}
use Rattle.cq_munch.proofs.lines.feed_further.Goals as goal

pub overflow_add-line : goal.overflow_add-line
overflow_add-line c =
    let few = few_lines c.args.text.now c.loop-at.at in
    let is = c.loop-at.invariant.counted.1 in
    omega (arith, few, is, c.requires.short)

pub loop-at-preserved : goal.loop-at-preserved
loop-at-preserved c =
    let text = c.args.text.now in
    let at = c.loop-at.at in
    let less = c.loop-at-test.true in
    let within = c.requires.within in
    let inside : at < length text = omega (arith, less, within) in
    record {
      counted = (c.feed_from-next.ensures, ap (λ n. n + 1) c.loop-at.invariant.counted.1 ∙ sym (next_line text c.loop-at.from at c.feed_from-next.result c.loop-at.invariant.counted.0 inside c.feed_from-next.ensures));
      ordered = omega (arith, less);
    }

pub loop-at-smaller : goal.loop-at-smaller
loop-at-smaller c =
    let less = c.loop-at-test.true in
    let within = c.requires.within in
    let ahead = c.feed_from-next.ensures.ahead in
    omega (arith, less, within, ahead)

pub returns-clause-counted : goal.returns-clause-counted
returns-clause-counted c = (feed_later c.args.text.now c.loop-at.from c.loop-at.at c.loop-at.invariant.counted.0 c.args.to c.loop-at.invariant.ordered c.loop-at-test.false, c.loop-at.invariant.counted.1)

pub returns-clause-line : goal.returns-clause-line
returns-clause-line c =
    c.loop-at.invariant.counted.1 ∙ sym (line_up_to c.args.text.now c.loop-at.from c.loop-at.at c.loop-at.invariant.counted.0 c.args.to c.loop-at.invariant.ordered c.loop-at-test.false)
