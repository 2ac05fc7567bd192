use Rattle.cq_munch.specs.Characters.{characters}
use Rattle.cq_munch.specs.Comments.{IsLineComment}
use Rattle.cq_munch.specs.declared.element.Spell.TheVariants.{Comment}
use Rattle.cq_munch.proofs.Joining.{one_row_taken}
use Rattle.cq_munch.proofs.comment.line_comment.Goals as goal

pub returns : goal.returns
returns c =
    one_row_taken 0 c.args.mode (characters c.args.units.now) (record { spell = Comment; set = IsLineComment c.args.ends }) c.longest_line_comment.result c.found_of.result c.found_of.ensures c.longest_line_comment.ensures
