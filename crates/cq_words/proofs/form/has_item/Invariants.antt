use Rattle.std.proofs.Common.{◌≡◌, true, None, length}
use Rattle.std.specs.Prelude.{is_some}
use Rattle.std.specs.List.{list_any}
use Rattle.std.specs.Str.{bytes_eq}
use Rattle.cq_words.specs.Front.{items_in, read_in}
use Rattle.cq_words.proofs.form.has_item.Given as goal

abbrev pub invariant-items : goal.invariant-items
invariant-items l = (is_some (read_in l.left None) ≡ true) × (list_any (λ other. bytes_eq l.name other.0) (items_in l.left) ≡ list_any (λ other. bytes_eq l.name other.0) (items_in l.all))

abbrev pub decreases-items : goal.decreases-items
decreases-items l = length l.left.words.now
