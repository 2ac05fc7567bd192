use Rattle.std.proofs.Common.{rules, length, sym, arith}
use Rattle.std.proofs.lemmas.List.Sums.{position_or_len_is}
use Rattle.cq_words.specs.Grammar.{is_equals}
use Rattle.cq_words.proofs.form.equals_at.Goals as goal

pub returns-then-bytes-at-eq61 : goal.returns-then-bytes-at-eq61
returns-then-bytes-at-eq61 c =
    let here = c.if-bytes-at-eq61.true in
    sym (position_or_len_is is_equals c.args.bytes.now c.loop-at.at 0 (search rules) c.loop-at.invariant (λ inside. search (rules, here)))

pub returns : goal.returns
returns c = sym (position_or_len_is is_equals c.args.bytes.now (length c.args.bytes.now) 0 (omega arith) (λ k less. c.loop-at.invariant k (omega (arith, less, c.loop-at-test.false))) (λ inside. absurd (omega (arith, inside))))
