use Rattle.std.proofs.Common.{◌+◌, ◌-◌, ◌≤◌, length}
use Rattle.cq_munch.specs.Characters.{characters}
use Rattle.cq_munch.proofs.CommentScans.{IsOpenTo}
use Rattle.cq_munch.proofs.comment.longest_block_comment.Given as goal

abbrev pub invariant-loop-before : goal.invariant-loop-before
invariant-loop-before l = record { near : l.before ≤ length l.units + 2; scan : IsOpenTo (characters l.units) l.before }

abbrev pub decreases-loop-before : goal.decreases-loop-before
decreases-loop-before l = length l.units - l.before
