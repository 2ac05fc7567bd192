use Rattle.std.proofs.Common.{inl, inr, ⊎_elim, ℕ, List, subst, arith}
use Rattle.std.specs.Prelude.{◌↔◌, Contains}
use Rattle.std.proofs.lemmas.List.{take_all}
use Rattle.cq_board.proofs.Turning.{taken_more}
use Rattle.cq_board.proofs.live.take_out_each.Goals as goal

pub loop-number-preserved : goal.loop-number-preserved
loop-number-preserved c = (
  c.take_out.ensures.rising,
  λ r.
      let i = c.loop-number.number-index in
      let others = c.take_out.ensures.others r in
      let before = c.loop-number.invariant.1 r in
      let more = taken_more c.args.gone.now i r c.loop-number-test.true in (
        λ h. let (was, other) = others.0 h in let (here, free) = before.0 was in (here, λ g. ⊎_elim free other (more.0 g)),
        λ (here, free). others.1 (before.1 (here, λ g. free (more.1 (inl g))), λ same. free (more.1 (inr same))),
      ),
)

pub returns-clause-others : goal.returns-clause-others
returns-clause-others c r =
    subst (λ (gone : List ℕ). Contains c.loop-number.live.items r ↔ (Contains c.args.live.now.items r × (Contains gone r → ⊥)))
    (take_all c.loop-number.number-index c.args.gone.now (omega (arith, c.loop-number-test.false))) (c.loop-number.invariant.1 r)
