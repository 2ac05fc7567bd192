use Rattle.std.proofs.Common.{rules, ◌≡◌, ◌∙◌, ◌-◌, true, false, None, Some, length, take, drop, ap, sym}
use Rattle.cq_words.specs.Front.{is_plain, places_in}
use Rattle.cq_words.specs.Grammar.{look_of, with_item, items_from}
use Rattle.cq_words.specs.Table.{row_of}
use Rattle.cq_words.proofs.Fronts.{value_missing, value_next, value_plain, value_other}
use Rattle.cq_words.proofs.form.spaced_front.Goals as goal

pub returns-in_default : goal.returns-in_default
returns-in_default c = value_missing (row_of c.args.left.verb) c.args.left.words.now (places_in c.args.left) c.args.name.now c.in_default.len_below

pub returns-then-not-is_plain : goal.returns-then-not-is_plain
returns-then-not-is_plain c =
    let left = c.args.left in
    let words = left.words.now in
    let other : is_plain (look_of c.value-item.result) ≡ false = search rules in
    value_next (row_of left.verb) words (places_in left) c.args.name.now c.value-item.result c.in-len1-up.len_at_least c.value-item.is
    ∙ value_other (items_from (row_of left.verb) (take (length words - 1) (drop 1 words))) (places_in left) c.args.name.now c.value-item.result (look_of c.value-item.result) other

pub returns : goal.returns
returns c =
    let left = c.args.left in
    let words = left.words.now in
    let plain : is_plain (look_of c.value-item.result) ≡ true = search rules in
    let rest = take (length words - 1) (drop 1 words) in (
      value_next (row_of left.verb) words (places_in left) c.args.name.now c.value-item.result c.in-len1-up.len_at_least c.value-item.is
          ∙ value_plain (items_from (row_of left.verb) rest) (places_in left) c.args.name.now c.value-item.result (look_of c.value-item.result) plain
          ∙ ap (λ word. with_item (c.args.name.now, Some word) (items_from (row_of left.verb) rest (places_in left) None)) (sym c.as_bytes.ensures),
      search rules,
    )
