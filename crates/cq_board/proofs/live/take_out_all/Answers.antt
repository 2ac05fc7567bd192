use Rattle.std.proofs.Common.{rules, ◌≡◌, not, nat_eq, sym, subst}
use Rattle.std.specs.Prelude.{Contains}
use Rattle.std.specs.List.{list_any}
use Rattle.std.specs.List.Sorted.{IsStrictlyIncreasing}
use Rattle.std.proofs.lemmas.Fn.{filter_same}
use Rattle.std.proofs.lemmas.List.Sorted.{Contains-permutation, IsPermutation-sym}
use Rattle.cq_board.specs.Turnover.{left}
use Rattle.cq_board.proofs.Turning.{left_has, left_rises}
use Rattle.cq_board.proofs.live.take_out_all.Goals as goal

pub returns-clause-rising : goal.returns-clause-rising
returns-clause-rising c =
    let gone = c.as_slice-gone.result.now in
    let is : c.retain.new.self.items ≡ left c.args.live.now.items gone = filter_same _ (λ r. not (list_any (nat_eq r) gone)) _ (λ r b g t. search rules) _ _ c.retain.ensures.filtered in
    subst IsStrictlyIncreasing (sym is) (left_rises c.args.live.now.items gone c.requires)

pub returns-clause-others : goal.returns-clause-others
returns-clause-others c r =
    let gone = c.as_slice-gone.result.now in
    let is : c.retain.new.self.items ≡ left c.args.live.now.items gone = filter_same _ (λ n. not (list_any (nat_eq n) gone)) _ (λ n b g t. search rules) _ _ c.retain.ensures.filtered in
    let law = left_has c.args.live.now.items gone r in
    let lent : gone ≡ c.sort_unstable.new.self.items = c.as_slice-gone.ensures.value in (
      λ h. let p = law.0 (subst (λ xs. Contains xs r) is h) in
          (p.0, λ g. p.1 (subst (λ xs. Contains xs r) (sym lent) (Contains-permutation c.args.gone.items c.sort_unstable.new.self.items r c.sort_unstable.ensures.permutation g))),
      λ p. subst (λ xs. Contains xs r) (sym is) (law.1 (p.0, λ g. p.1 (Contains-permutation c.sort_unstable.new.self.items c.args.gone.items r (IsPermutation-sym c.args.gone.items c.sort_unstable.new.self.items c.sort_unstable.ensures.permutation) (subst (λ xs. Contains xs r) lent g)))),
    )
