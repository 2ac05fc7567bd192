use Rattle.std.proofs.Common.{ℕ, List, map}
use Rattle.std.specs.Vec.Iter.{into_iter_items}
use Rattle.cq_groups.specs.declared.spots.MarkedRow.{MarkedRow}
use Rattle.cq_groups.specs.Sets.{spread, AreByMark, AddsParts}
use Rattle.cq_groups.specs.Steps.{ArePartRows}
use Rattle.cq_groups.proofs.Parts.{AreLeft}
use Rattle.cq_groups.proofs.sets.push_all.Given as goal

abbrev pub invariant-loop-part : goal.invariant-loop-part
invariant-loop-part l =
    ((highest : ℕ) (marked : List MarkedRow) → AreByMark highest marked (map (λ part. part.items) l.fn.parts.items) → (m : ℕ) × AddsParts l.depth (spread marked) m l.initial.sets.items l.sets.items × AreLeft m highest marked (map (λ part. part.items) (into_iter_items l.part-iterator)))
    × ArePartRows l.depth (into_iter_items l.part-iterator)
