use Rattle.std.proofs.Common.{sym, subst, ⊎_elim, arith}
use Rattle.std.specs.Prelude.{Contains}
use Rattle.std.proofs.lemmas.Bool.{iff_false}
use Rattle.std.proofs.lemmas.List.{take_all}
use Rattle.cq_clones.proofs.InOrder.{take_more_cases}
use Rattle.cq_tokens.specs.Parts.{tokens_in}
use Rattle.cq_scan.specs.Found.{IsOfWord}
use Rattle.cq_scan.proofs.known.is_known.Goals as goal

pub loop-group-preserved : goal.loop-group-preserved
loop-group-preserved g c = λ z among of.
    ⊎_elim
    (λ before. c.loop-group.invariant z before of)
    (λ e. iff_false c.is_of_word.ensures c.if-is_of_word.false (subst (IsOfWord (tokens_in c.args.files.now) c.args.p c.args.tokens) (sym e) of))
    (take_more_cases c.args.groups.now c.loop-group.group-index c.group-item.result z c.loop-group-test.true c.group-item.is among)

pub returns : goal.returns
returns g c = (
  λ none. absurd (cc),
  λ (i, z, within, is, of). absurd (c.loop-group.invariant z (subst (λ xs. Contains xs z) (sym (take_all c.loop-group.group-index c.args.groups.now (omega arith))) (i, within, is)) of),
)
