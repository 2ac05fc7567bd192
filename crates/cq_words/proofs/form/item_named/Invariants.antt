use Rattle.std.proofs.Common.{◌≡◌, true, None, length}
use Rattle.std.specs.Prelude.{is_some}
use Rattle.cq_words.specs.Grammar.{item_of}
use Rattle.cq_words.specs.Front.{items_in, read_in}
use Rattle.cq_words.proofs.form.item_named.Given as goal

abbrev pub invariant-items : goal.invariant-items
invariant-items l = (is_some (read_in l.left None) ≡ true) × (item_of l.name (items_in l.left) ≡ item_of l.name (items_in l.all))

abbrev pub decreases-items : goal.decreases-items
decreases-items l = length l.left.words.now
