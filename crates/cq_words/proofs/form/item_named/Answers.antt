use Rattle.std.proofs.Common.{rules, ◌∙◌, [], ap, sym}
use Rattle.std.specs.Prelude.{unwrap_or}
use Rattle.cq_words.specs.Front.{places_in}
use Rattle.cq_words.specs.Grammar.{item_of}
use Rattle.cq_words.specs.Table.{row_of}
use Rattle.cq_words.proofs.Fronts.{no_words}
use Rattle.cq_words.proofs.form.item_named.Goals as goal

pub returns : goal.returns
returns c =
    let left = c.items.left in
    let none = no_words (row_of left.verb) left.words.now (places_in left) (search rules) in
    sym (ap (λ o. item_of c.args.name.now (unwrap_or o [])) none) ∙ c.items.invariant.1
