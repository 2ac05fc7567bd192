use Rattle.std.proofs.Common.{◌≡◌, ◌+◌, ◌-◌, ℕ, List, take, drop, subst, ap, ◌∙◌}
use Rattle.std.specs.Prelude.{IfOk}
use Rattle.cq_munch.proofs.Bytes.{bytes_spell}
use Rattle.cq_munch.proofs.spelling.of_bytes.Goals as goal

pub returns-then-len-units : goal.returns-then-len-units
returns-then-len-units c =
    let start = c.args.start in
    let len = c.args.len in
    let bytes = ap (λ (bs : List ℕ). take (start + len - start) (drop start bs)) c.as_bytes-bytes.ensures
    ∙ bytes_spell c.args.text.now c.args.units.now start len c.requires.some c.requires.in_order c.requires.bytes c.requires.start_is c.requires.end_is c.if-len-units.true in
    subst (λ (bs : List ℕ). IfOk c.from_bytes.result (λ t. t ≡ bs)) bytes c.from_bytes.ensures
