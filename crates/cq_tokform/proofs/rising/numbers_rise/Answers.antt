use Rattle.std.proofs.Common.{◌+◌, ◌<◌, ◌≤◌, ◌∙◌, ltb, length, sym, ap₂, rules, arith}
use Rattle.std.proofs.lemmas.List.{get_or_default}
use Rattle.cq_tokform.proofs.InOrder.{rise_next, rise_stop, rise_end}
use Rattle.cq_tokform.proofs.rising.numbers_rise.Goals as goal

pub loop-at-preserved : goal.loop-at-preserved
loop-at-preserved c =
    let within : c.loop-at.at + 1 < length c.args.numbers.now = search rules in
    let here : c.loop-at.at < length c.args.numbers.now = omega (arith, within) in
    rise_next ltb c.args.numbers.now c.loop-at.at within
    (λ d.
    ap₂ ltb (get_or_default c.args.numbers.now c.loop-at.at d 0 here) (get_or_default c.args.numbers.now (c.loop-at.at + 1) d 0 within)
    ∙ sym c.is_below.ensures ∙ c.if-not-is_below.false)
    ∙ c.loop-at.invariant

pub returns-then-not-is_below : goal.returns-then-not-is_below
returns-then-not-is_below c =
    let within : c.loop-at.at + 1 < length c.args.numbers.now = search rules in
    let here : c.loop-at.at < length c.args.numbers.now = omega (arith, within) in
    sym (rise_stop ltb c.args.numbers.now c.loop-at.at within
    (λ d.
    ap₂ ltb (get_or_default c.args.numbers.now c.loop-at.at d 0 here) (get_or_default c.args.numbers.now (c.loop-at.at + 1) d 0 within)
    ∙ sym c.is_below.ensures ∙ c.if-not-is_below.true))
    ∙ c.loop-at.invariant

pub returns : goal.returns
returns c =
    let past : length c.args.numbers.now ≤ c.loop-at.at + 1 = search rules in
    sym (rise_end ltb c.args.numbers.now c.loop-at.at past) ∙ c.loop-at.invariant
