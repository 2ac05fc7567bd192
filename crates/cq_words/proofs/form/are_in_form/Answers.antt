use Rattle.std.proofs.Common.{rules, ◌≡◌, ◌∙◌, [], true, false, None, inl, inr, ap, sym}
use Rattle.std.specs.Prelude.{is_some, unwrap_or}
use Rattle.std.specs.List.{list_all}
use Rattle.std.specs.Str.{is_utf8}
use Rattle.cq_words.specs.Grammar.{items_from, are_distinct}
use Rattle.cq_words.specs.Table.{row_of}
use Rattle.cq_words.proofs.Fronts.{read_all, read_none}
use Rattle.cq_words.proofs.form.are_in_form.Goals as goal

pub returns-then-not-are_texts : goal.returns-then-not-are_texts
returns-then-not-are_texts c =
    let fails : list_all is_utf8 c.args.words.now ≡ false = search rules in
    sym (ap is_some (read_none c.args.verb c.args.words.now (inl fails)))

pub returns-then-not-are_items : goal.returns-then-not-are_items
returns-then-not-are_items c =
    let row = row_of c.args.verb in
    let fails : is_some (items_from row c.args.words.now row.positionals None) ≡ false = search rules in
    sym (ap is_some (read_none c.args.verb c.args.words.now (inr (inl fails))))

pub returns-then-not-are_distinct : goal.returns-then-not-are_distinct
returns-then-not-are_distinct c =
    let row = row_of c.args.verb in
    let fails : are_distinct (unwrap_or (items_from row c.args.words.now row.positionals None) []) ≡ false = search rules in
    sym (ap is_some (read_none c.args.verb c.args.words.now (inr (inr fails))))

pub returns : goal.returns
returns c =
    let row = row_of c.args.verb in
    let texts : list_all is_utf8 c.args.words.now ≡ true = search rules in
    let items : is_some (items_from row c.args.words.now row.positionals None) ≡ true = search rules in
    let distinct : are_distinct (unwrap_or (items_from row c.args.words.now row.positionals None) []) ≡ true = search rules in
    c.are_values_within.ensures ∙ sym (ap is_some (read_all c.args.verb c.args.words.now texts items distinct))
