use Rattle.std.proofs.Common.{◌≡◌, ◌+◌, length, nat_cmp, sym, subst, arith}
use Rattle.std.specs.Prelude.{Contains}
use Rattle.std.specs.List.Sorted.{IsBinarySearchResult}
use Rattle.cq_board.proofs.Numbers.{taken_others, not_there, found_at}
use Rattle.cq_board.proofs.live.take_out.Goals as goal

pub returns-in-Ok-clause-others : goal.returns-in-Ok-clause-others
returns-in-Ok-clause-others c r =
    let xs = c.args.live.now.items in
    let ys = c.remove.new.self.items in
    let n = c.args.number in
    let here = found_at xs n c.binary_search.result c.in-Ok.i (subst (λ zs. IsBinarySearchResult (λ y. nat_cmp y n) zs c.binary_search.result) c.deref.ensures.value c.binary_search.ensures.position) c.requires c.in-Ok.is in
    let size : length ys + 1 ≡ length xs = omega (arith, c.remove.ensures.len, c.remove.new.self.ok.0, c.args.live.now.ok.0) in
    taken_others xs ys c.in-Ok.i here.0 size c.remove.ensures.by_index.0 c.remove.ensures.by_index.1 c.requires n here.1 r

pub returns-in_default-clause-others : goal.returns-in_default-clause-others
returns-in_default-clause-others c r =
    let xs = c.args.live.now.items in
    let n = c.args.number in
    let absent = not_there xs n c.binary_search.result (subst (λ zs. IsBinarySearchResult (λ y. nat_cmp y n) zs c.binary_search.result) c.deref.ensures.value c.binary_search.ensures.position) c.requires c.in_default.not-Ok in (
      λ h. (h, λ e. absent (subst (Contains xs) (sym e) h)),
      λ h. h.0,
    )
