use Rattle.std.proofs.Common.{◌<◌, sym, ap, subst, ◌∙◌, arith}
use Rattle.cq_cells.specs.Callers.{Differ}
use Rattle.cq_cells.specs.Passes as passes
use Rattle.cq_chain.specs.Held.{IsLawful}
use Rattle.cq_cells.specs.Passes.{by_of}
use Rattle.cq_chain.specs.Passes.{BoardCells, BoardPass, HasNoneFrom}
use Rattle.cq_chain.proofs.Passing.{is_pass, makes, few_free}
use Rattle.cq_chain.proofs.cells.Cells.split_pass.Goals as goal

pub split_pass-requires-clause-of : goal.split_pass-requires-clause-of
split_pass-requires-clause-of g c = subst (λ (z : BoardCells). passes.IsPassOf z c.args.pass.now) (sym c.self.view_is) c.requires.of.of

pub returns-clause-of : goal.returns-clause-of
returns-clause-of g c =
    let e = c.split_pass.ensures in
    let here = c.self.inside.cells in
    let cells = c.args.self.now in
    let old = c.requires.of in
    let pos : 0 < c.args.pass.now.next = makes c.args.pass.now.next c.args.pass.now.room old.of.later c.requires.room in
    let lawful = λ (z : BoardPass). IsLawful cells.about z.seen in (
      is_pass here cells c.split_pass.new.pass c.self.view_is c.self.invariant.1 e.of.0 (subst lawful (sym e.same) c.requires.of.law) (subst (λ (z : BoardPass). Differ z.callers) (sym e.same) c.requires.of.apart)
          (few_free c.split_pass.new.pass (ap (λ (z : BoardPass). z.hand) e.same ∙ c.requires.free))
          (subst (λ (z : BoardPass). 0 < z.next → by_of z < z.next) (sym e.same) (λ _. let below = old.made pos in omega (arith, below)))
          (subst (λ (z : BoardPass). 0 < z.next → HasNoneFrom z.next z.seen) (sym e.same) (λ _ n from. old.unmade pos n (omega (arith, from)))),
      is_pass here cells c.split_pass.result c.self.view_is c.self.invariant.1 e.of.1 (subst lawful (sym e.child) c.requires.of.law) (subst (λ (z : BoardPass). Differ z.callers) (sym e.child) (tt, tt))
          (few_free c.split_pass.result (ap (λ (z : BoardPass). z.hand) e.child ∙ c.requires.free))
          (subst (λ (z : BoardPass). 0 < z.next → by_of z < z.next) (sym e.child) (λ none. absurd (omega (arith, none))))
          (subst (λ (z : BoardPass). 0 < z.next → HasNoneFrom z.next z.seen) (sym e.child) (λ none. absurd (omega (arith, none)))),
    )
