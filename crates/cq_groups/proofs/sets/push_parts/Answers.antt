use Rattle.std.proofs.lemmas.Result.{on_ok_weaker}
use Rattle.cq_groups.proofs.Spread.{rows_of_parts}
use Rattle.cq_groups.proofs.sets.push_parts.Goals as goal

pub push_all-requires : goal.push_all-requires
push_all-requires c = rows_of_parts c.args.depth c.args.highest c.args.marked.now c.in_ok-parts.parts.items c.in_ok-parts.ensures c.requires.rows

pub returns : goal.returns
returns c = on_ok_weaker c.push_all.result (λ adds. adds c.args.highest c.args.marked.now c.in_ok-parts.ensures) c.push_all.ensures
