use Rattle.std.proofs.Common.{◌+◌, Some, None, sym, ap, ◌∙◌, subst}
use Rattle.std.specs.Prelude.{Contains}
use Rattle.cq_kept.specs.Accepted.{text_in}
use Rattle.cq_kept.proofs.Letting.{removed_part, removed_numbers, taken_bytes}
use Rattle.cq_kept.proofs.forgetting.take_out.Goals as goal

pub returns-in-Some-clause-numbers : goal.returns-in-Some-clause-numbers
returns-in-Some-clause-numbers g c = removed_numbers c.args.number c.args.kept.now.entries c.remove.new.self.entries c.requires c.remove.ensures.entries

pub returns-in-None-clause-numbers : goal.returns-in-None-clause-numbers
returns-in-None-clause-numbers g c = removed_numbers c.args.number c.args.kept.now.entries c.remove.new.self.entries c.requires c.remove.ensures.entries

pub returns-in-Some-clause-same : goal.returns-in-Some-clause-same
returns-in-Some-clause-same g c e there = removed_part c.args.number c.args.kept.now.entries e (subst (λ es. Contains es e) c.remove.ensures.entries there)

pub returns-in-None-clause-same : goal.returns-in-None-clause-same
returns-in-None-clause-same g c e there = removed_part c.args.number c.args.kept.now.entries e (subst (λ es. Contains es e) c.remove.ensures.entries there)

pub returns-in-Some-clause-bytes : goal.returns-in-Some-clause-bytes
returns-in-Some-clause-bytes g c =
    ap (λ n. n + text_in c.remove.new.self) c.text_len.ensures
    ∙ taken_bytes c.args.number c.args.kept.now c.remove.new.self (Some c.in-Some.gone) (sym c.in-Some.is ∙ c.remove.ensures.value) c.remove.ensures.entries

pub returns-in-None-clause-bytes : goal.returns-in-None-clause-bytes
returns-in-None-clause-bytes g c = taken_bytes c.args.number c.args.kept.now c.remove.new.self None (sym c.in-None.is ∙ c.remove.ensures.value) c.remove.ensures.entries
