use Rattle.std.proofs.Common.{◌≡◌, length, eqb}
use Rattle.std.specs.List.{slice_split, list_all}
use Rattle.cq_names.specs.Names.{is_part}
use Rattle.cq_names.proofs.paths.are_parts.Given as goal

abbrev pub invariant-parts : goal.invariant-parts
invariant-parts l = list_all is_part (slice_split (λ b. eqb b 47) l.rest) ≡ list_all is_part (slice_split (λ b. eqb b 47) l.bytes)

abbrev pub decreases-parts : goal.decreases-parts
decreases-parts l = length l.rest
