use Rattle.std.proofs.Common.{◌≡◌, drop}
use Rattle.std.specs.Prelude.{is_some}
use Rattle.std.specs.List.{list_all}
use Rattle.cq_words.specs.Front.{items_in}
use Rattle.cq_words.specs.Table.{number_from}
use Rattle.cq_words.proofs.form.are_given.Given as goal

abbrev pub invariant-loop-param : goal.invariant-loop-param
invariant-loop-param l = list_all (λ p. is_some (number_from p (items_in l.all))) (drop l.param-index l.params) ≡ list_all (λ p. is_some (number_from p (items_in l.all))) l.params
