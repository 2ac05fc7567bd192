use Rattle.cq_munch.specs.Characters.{characters}
use Rattle.cq_munch.proofs.CommentScans.{OneLine}
use Rattle.cq_munch.proofs.comment.longest_line_comment.Given as goal

abbrev pub invariant-loop-at : goal.invariant-loop-at
invariant-loop-at l = OneLine l.fn.ends (characters l.units) l.at
