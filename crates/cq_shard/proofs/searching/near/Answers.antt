use Rattle.std.proofs.Common.{◌≤◌, ◌<◌, sym, subst₂, arith}
use Rattle.cq_shard.specs.Runs.{IsNear}
use Rattle.cq_shard.proofs.Finding.{near_behind, near_before}
use Rattle.cq_shard.proofs.searching.near.Goals.{then-found-key, else-found-key}
use Rattle.cq_shard.proofs.searching.near.Goals as goal

pub steps-preserved : goal.steps-preserved
steps-preserved c =
    let rows = c.args.rows.now in
    let key = c.args.key in
    let at = c.min-at.result in
    let near = c.steps.invariant in
    let before : at < c.steps.to = omega (arith, c.min-at.ensures, c.if-to-from.false) in
    let low : c.steps.from ≤ at = omega (arith, c.min-at.ensures, c.max.ensures, c.if-to-from.false) in
    elim c.if-found-key.branch [
      | then-found-key w ↦ subst₂ (IsNear rows key) (sym w.from-is) (sym w.to-is) (near_behind rows key c.steps.from c.steps.to at _ c.requires near before w.if-found-key.true)
      | else-found-key w ↦ subst₂ (IsNear rows key) (sym w.from-is) (sym w.to-is) (near_before rows key c.steps.from c.steps.to at _ c.requires near low before w.if-found-key.false)
    ]
