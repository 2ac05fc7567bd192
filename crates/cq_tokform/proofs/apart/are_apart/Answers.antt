use Rattle.std.proofs.Common.{◌∙◌, ℕ, ltb, ap}
use Rattle.std.proofs.lemmas.List.Sorted.{IsNonDecreasingBy-from_sort}
use Rattle.cq_tokform.specs.Sound.{are_apart, rise}
use Rattle.cq_tokform.proofs.InOrder.{sort_tells}
use Rattle.cq_tokform.proofs.apart.are_apart.Goals as goal

pub returns : goal.returns
returns c =
    let old = c.in_ok-changes.changes.items in
    let new = c.sort_unstable.new.self.items in
    c.numbers_rise.ensures
    ∙ ap (rise ltb) c.deref.ensures.value
    ∙ sort_tells old new c.sort_unstable.ensures.permutation (IsNonDecreasingBy-from_sort (λ (n : ℕ). n) new c.sort_unstable.ensures.sorted)
    ∙ ap are_apart c.in_ok-changes.ensures
