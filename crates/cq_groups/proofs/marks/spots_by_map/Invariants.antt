use Rattle.std.proofs.Common.{◌+◌, ◌-◌, ◌≤◌, List, take}
use Rattle.std.specs.Prelude.{option_map}
use Rattle.cq_base.specs.declared.norm.Norm.{Norm}
use Rattle.cq_clones.specs.Groups.{token_before}
use Rattle.cq_tokens.specs.Parts.{tokens_in}
use Rattle.cq_tokens.specs.Packed.{norm_in}
use Rattle.cq_groups.specs.Sets.{AreMarks, IsMark}
use Rattle.cq_groups.proofs.Marking.{Marking}
use Rattle.cq_groups.proofs.marks.spots_by_map.Given as goal

abbrev pub invariant-loop-i : goal.invariant-loop-i
invariant-loop-i g l =
    ((seen : List Norm) × AreMarks l.marks seen × IsMark seen (option_map norm_in l.difference.first) l.first × Marking (λ s. token_before (tokens_in l.files) s.place) (λ s. s.place) (λ s. s.left) seen (take l.i l.places) l.spots.items)
    × (l.steps ≤ l.initial.steps + (l.i - l.difference.read))
