use Rattle.std.proofs.Common.{◌≡◌, ◌++◌, ◌∙◌, List, ℕ, ap, subst, subst₂}
use Rattle.std.specs.Prelude.{◌↔◌, Contains}
use Rattle.cq_board.proofs.live.turn.Goals as goal

pub returns-then-len-le-FEW-clause-each : goal.returns-then-len-le-FEW-clause-each
returns-then-len-le-FEW-clause-each c r =
    let extended : c.extend_from_slice.new.self.items ≡ c.args.live.now.items ++ c.args.turnover.put.items = c.in_ok-extend_from_slice.ensures.items ∙ ap (λ xs. c.args.live.now.items ++ xs) c.deref.ensures.value in
    subst₂ (λ (xs gone : List ℕ). Contains c.take_out_each.new.live.items r ↔ (Contains xs r × (Contains gone r → ⊥))) extended c.deref-then-len-le-FEW.ensures.value (c.take_out_each.ensures.others r)

pub returns-else-len-le-FEW-clause-each : goal.returns-else-len-le-FEW-clause-each
returns-else-len-le-FEW-clause-each c r =
    let extended : c.extend_from_slice.new.self.items ≡ c.args.live.now.items ++ c.args.turnover.put.items = c.in_ok-extend_from_slice.ensures.items ∙ ap (λ xs. c.args.live.now.items ++ xs) c.deref.ensures.value in
    subst (λ (xs : List ℕ). Contains c.take_out_all.new.live.items r ↔ (Contains xs r × (Contains c.args.turnover.gone.items r → ⊥))) extended (c.take_out_all.ensures.others r)
