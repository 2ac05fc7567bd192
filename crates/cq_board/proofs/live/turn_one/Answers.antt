use Rattle.std.proofs.Common.{subst, sym, Option, ℕ, arith}
use Rattle.std.specs.Prelude.{Contains}
use Rattle.cq_board.specs.Turnover.{from_option}
use Rattle.cq_board.proofs.Turning.{single}
use Rattle.cq_board.proofs.live.turn_one.Goals as goal

pub returns-in-Some-clause-each : goal.returns-in-Some-clause-each
returns-in-Some-clause-each c r =
    let others = c.take_out.ensures.others r in
    let P : Option ℕ → Type 0 = λ o. Contains (from_option o) r in (
      λ h. let p = others.0 h in (subst (λ xs. Contains xs r) c.append.ensures p.0, λ g. p.1 (single c.in-Some.number r (subst P c.in-Some.is g))),
      λ p. others.1 (subst (λ xs. Contains xs r) (sym c.append.ensures) p.0, λ same. p.1 (subst P (sym c.in-Some.is) (0, omega arith, same))),
    )
