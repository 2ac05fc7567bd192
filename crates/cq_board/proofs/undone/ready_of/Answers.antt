use Rattle.std.proofs.Common.{◌≡◌, ◌<◌, length, ◌∙◌, arith, ⊎_elim}
use Rattle.std.proofs.lemmas.Bool.{cases_lt, false≢true}
use Rattle.cq_board.proofs.Undoing.{first_is_ready, all_are_ready}
use Rattle.cq_board.proofs.undone.ready_of.Goals as goal

pub returns-in-Some-clause-done : goal.returns-in-Some-clause-done
returns-in-Some-clause-done g c = first_is_ready c.args.changes.now.slots c.args.undone.now c.requires c.in-Some.i.now c.in-Some.ensures.member c.in-Some.ensures.least

pub returns-in-None-clause-done : goal.returns-in-None-clause-done
returns-in-None-clause-done g c =
    let none : length c.args.undone.now.keys ≡ 0 = ⊎_elim (λ (some : 0 < length c.args.undone.now.keys). absurd (false≢true (c.in-None.ensures.variant.1 some))) (λ le. omega (arith, le)) (cases_lt 0 (length c.args.undone.now.keys)) in
    c.len.ensures ∙ all_are_ready c.args.changes.now.slots c.args.undone.now c.requires none
