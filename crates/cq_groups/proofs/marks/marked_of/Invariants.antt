use Rattle.std.proofs.Common.{◌+◌, ◌-◌, ◌<◌, ◌≤◌, ◌^◌, List, take}
use Rattle.std.specs.Prelude.{Contains, option_map}
use Rattle.cq_base.specs.declared.norm.Norm.{Norm}
use Rattle.cq_clones.specs.Groups.{token_behind}
use Rattle.cq_tokens.specs.Parts.{tokens_in}
use Rattle.cq_groups.specs.declared.spots.MarkedRow.{MarkedRow}
use Rattle.cq_tokens.specs.Packed.{norm_in}
use Rattle.cq_groups.specs.Sets.{AreMarks, IsMark}
use Rattle.cq_groups.proofs.Marking.{Marking}
use Rattle.cq_groups.proofs.marks.marked_of.Given as goal

abbrev pub invariant-loop-i : goal.invariant-loop-i
invariant-loop-i g l =
    ((seen : List Norm) × AreMarks l.marks seen × IsMark seen (option_map norm_in l.difference.first) l.first × Marking (λ x. token_behind (tokens_in l.files) x.row.first.place l.n) (λ x. x.row) (λ x. x.mark) seen (take l.i l.rows) l.marked.items)
    × (l.steps ≤ l.initial.steps + (l.i - l.difference.read))
    × ((x : MarkedRow) → Contains l.marked.items x → 0 < x.mark → l.n + 1 < 2 ^ 32)
