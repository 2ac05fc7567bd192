use Rattle.std.proofs.Common.{arith, length, sym, ◌+◌, ◌≤◌, subst}
use Rattle.std.specs.List.Sorted.{IsNonDecreasing}
use Rattle.std.proofs.lemmas.List.Sorted.{IsNonDecreasingBy-from_sort}
use Rattle.std.proofs.lemmas.Result.{IfOk-weaker}
use Rattle.cq_tokens.specs.Parts.{keys_in}
use Rattle.cq_groups.proofs.Parting.{AreCountedUpto, counted_none, counted_more, counted_sorted, repeated_keys, number_of_keys}
use Rattle.cq_groups.proofs.keys.parted_keys.Goals as goal

pub loop-file-init : goal.loop-file-init
loop-file-init g c = counted_none (keys_in c.args.corpus.now) _ c.new-keys.ensures.items

pub loop-file-preserved : goal.loop-file-preserved
loop-file-preserved g c =
    counted_more (keys_in c.args.corpus.now) c.loop-file.file c.loop-file.keys.items c.extend_from_slice.new.self.items c.keys.result.now (omega (arith, c.loop-file-test.true, c.len-file-end.ensures.keys)) (sym c.keys.ensures.keys) c.in_ok-extend_from_slice.ensures.items c.loop-file.invariant

pub parted-requires : goal.parted-requires
parted-requires g c = subst IsNonDecreasing (sym c.deref.ensures.value) (IsNonDecreasingBy-from_sort (λ x. x) c.sort_unstable.new.self.items c.sort_unstable.ensures.sorted)

pub returns-clause-repeated : goal.returns-clause-repeated
returns-clause-repeated g c =
    let keys = keys_in c.args.corpus.now in
    let n = c.loop-file.file in
    let past : length keys ≤ n = omega (arith, c.loop-file-test.false, c.len-file-end.ensures.keys) in
    let counted = subst (AreCountedUpto keys n) (sym c.deref.ensures.value) (counted_sorted keys n c.loop-file.keys.items c.sort_unstable.new.self.items c.sort_unstable.ensures.permutation c.loop-file.invariant) in
    IfOk-weaker c.parted.result _ _ (λ found are. repeated_keys keys n c.deref.result.now past counted found.0.items are) c.parted.ensures.repeated

pub returns-clause-number : goal.returns-clause-number
returns-clause-number g c =
    let keys = keys_in c.args.corpus.now in
    let n = c.loop-file.file in
    let past : length keys ≤ n = omega (arith, c.loop-file-test.false, c.len-file-end.ensures.keys) in
    let counted = subst (AreCountedUpto keys n) (sym c.deref.ensures.value) (counted_sorted keys n c.loop-file.keys.items c.sort_unstable.new.self.items c.sort_unstable.ensures.permutation c.loop-file.invariant) in
    IfOk-weaker c.parted.result _ _ (λ found many. number_of_keys keys n c.deref.result.now past counted (length found.0.items + found.1) many) c.parted.ensures.number
