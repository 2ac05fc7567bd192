use Rattle.std.proofs.Common.{◌≡◌, ℕ, ◌+◌, ◌<◌, ◌≤◌, get_or, IsSome}
use Rattle.std.specs.Prelude.{option_map}
use Rattle.cq_base.specs.declared.group.Place.{Place}
use Rattle.cq_clones.specs.Groups.{token_before}
use Rattle.cq_tokens.specs.Packed.{norm_in}
use Rattle.cq_tokens.specs.Parts.{tokens_in}
use Rattle.cq_groups.proofs.differing.difference_before.Given as goal

-- each place that was read has the first token
abbrev pub invariant-loop-i : goal.invariant-loop-i
invariant-loop-i g l =
    ((k : ℕ) (d : Place) → k < l.i → token_before (tokens_in l.files) (get_or l.places k d) ≡ option_map norm_in l.first)
    × (1 < l.i → IsSome (option_map norm_in l.first))
    × (l.steps ≤ l.fn.steps + l.i)
