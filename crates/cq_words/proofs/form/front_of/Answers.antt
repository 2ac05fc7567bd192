use Rattle.std.proofs.Common.{◌-◌, ◌∙◌, length, take, drop, ap, ap₂, sym, rules}
use Rattle.cq_words.specs.Front.{places_in}
use Rattle.cq_words.specs.Grammar.{look_of, items_from, word_read}
use Rattle.cq_words.specs.Table.{row_of}
use Rattle.cq_words.proofs.Fronts.{word_next, front_is}
use Rattle.cq_words.proofs.form.front_of.Goals as goal

pub returns : goal.returns
returns c =
    let left = c.args.left in
    let row = row_of left.verb in
    let words = left.words.now in
    let rest = take (length words - 1) (drop 1 words) in
    let seen = c.look_of.ensures ∙ ap look_of c.as_bytes.ensures in
    front_is c.front_behind.result left _ _
    (word_next row words (places_in left) c.word-item.result c.in-len1-up.len_at_least c.word-item.is ∙ ap₂ (word_read row (items_from row rest) (places_in left)) (sym c.as_bytes-2.ensures) (sym seen))
    (search rules)
    c.front_behind.ensures
