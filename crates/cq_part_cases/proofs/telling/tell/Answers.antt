use Rattle.std.proofs.Common.{◌≡◌, ◌++◌, ◌∷◌, [], List, ℕ, Bool, Some, cond, eq-eqb, refl, ap, ◌∙◌}
use Rattle.std.specs.Prelude.{slice_index}
use Rattle.cq_cells.specs.Callers.{own}
use Rattle.cq_part_cases.specs.declared.telling.Told.{Told}
use Rattle.cq_cells.proofs.Owns.{own_append}
use Rattle.cq_part_cases.proofs.telling.tell.Goals as goal

pub returns-clause-told : goal.returns-clause-told
returns-clause-told g c =
    let e = c.enter_board-tally.ensures in
    let n : ℕ = slice_index c.args.pass.now.callers 0 in
    let mid : List Told = c.enter_board-tally.new.pass.seen in
    let same : slice_index c.enter_board-tally.new.pass.callers 0 ≡ n = ap (λ (l : List ℕ). slice_index l 0) e.of.1.callers in
    let event : Told = record { by = n; after = 0 } in
    let mine = ap (λ (b : Bool). cond b (event ∷ []) []) (eq-eqb n n refl) in
    ap (own (λ (e : Told). Some e.by) n) (c.add.ensures.seen ∙ ap (λ (k : ℕ). mid ++ record { by = k; after = 0 } ∷ []) same)
    ∙ (own_append (λ (e : Told). Some e.by) n mid (event ∷ []) ∙ (λ i. e.own.by i ++ mine i))
