use Rattle.std.proofs.Common.{rules, ◌≡◌, ◌∙◌, ap, sym, true, Bool}
use Rattle.std.specs.Prelude.{◌&&◌}
use Rattle.std.specs.List.{list_all}
use Rattle.cq_words.specs.Front.{are_places_given, items_in}
use Rattle.cq_words.specs.Table.{options_of}
use Rattle.cq_words.proofs.Fronts.{all_there, is_there}
use Rattle.cq_words.proofs.form.are_values_within.Goals as goal

pub returns-then-are_given : goal.returns-then-are_given
returns-then-are_given c =
    let v = c.args.all.verb in
    let items = items_in c.args.all in
    let options : list_all (is_there items) (options_of v) ≡ true = search rules in
    let places : c.are_places_given.result ≡ are_places_given v items = search rules in
    places ∙ sym (ap (λ (b : Bool). b && are_places_given v items) options) ∙ all_there v items

pub returns-else-are_given : goal.returns-else-are_given
returns-else-are_given c =
    let v = c.args.all.verb in
    let items = items_in c.args.all in
    let options : c.are_given.result ≡ list_all (is_there items) (options_of v) = search rules in
    c.if-are_given.false ∙ sym (ap (λ (b : Bool). b && are_places_given v items) (sym options ∙ c.if-are_given.false)) ∙ all_there v items
