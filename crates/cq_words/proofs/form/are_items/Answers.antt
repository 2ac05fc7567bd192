use Rattle.std.proofs.Common.{rules, ◌∙◌, ap, sym}
use Rattle.std.specs.Prelude.{is_some}
use Rattle.cq_words.specs.Front.{places_in}
use Rattle.cq_words.specs.Table.{row_of}
use Rattle.cq_words.proofs.Fronts.{no_words}
use Rattle.cq_words.proofs.form.are_items.Goals as goal

pub returns : goal.returns
returns c = let left = c.items.left in let none = no_words (row_of left.verb) left.words.now (places_in left) (search rules) in sym (ap is_some none) ∙ c.items.invariant
