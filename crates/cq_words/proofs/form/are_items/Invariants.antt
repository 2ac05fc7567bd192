use Rattle.std.proofs.Common.{◌≡◌, None, length}
use Rattle.std.specs.Prelude.{is_some}
use Rattle.cq_words.specs.Front.{read_in}
use Rattle.cq_words.proofs.form.are_items.Given as goal

-- the words that are left are items just where all are
abbrev pub invariant-items : goal.invariant-items
invariant-items l = is_some (read_in l.left None) ≡ is_some (read_in l.all None)

abbrev pub decreases-items : goal.decreases-items
decreases-items l = length l.left.words.now
