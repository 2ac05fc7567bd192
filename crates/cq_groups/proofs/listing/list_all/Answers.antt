use Rattle.std.proofs.Common.{ap, length, sym, subst, List, ℕ}
use Rattle.std.proofs.lemmas.Result.{IfOk-weaker}
use Rattle.cq_tokens.specs.Parts.{tokens_in, keys_in}
use Rattle.cq_groups.specs.Listing.{IsRepeatedKey, AreAllRising}
use Rattle.cq_groups.proofs.Counting.{windows_among}
use Rattle.cq_groups.proofs.KeyLists.{reads_within, most_of, on_ok, rises_both, rises_all, rises_none}
use Rattle.cq_groups.proofs.ListedGroups.{all_groups}
use Rattle.cq_groups.proofs.listing.list_all.Goals as goal

pub list_keys-requires-clause-rising : goal.list_keys-requires-clause-rising
list_keys-requires-clause-rising g c = (subst (λ (zs : List ℕ). AreAllRising (IsRepeatedKey (keys_in c.args.index.now.corpus)) zs) (sym c.deref.ensures.value) c.in_ok-repeated.ensures.repeated).ordered

pub returns-in_err-groups-clause-asked_most : goal.returns-in_err-groups-clause-asked_most
returns-in_err-groups-clause-asked_most g c = λ ks is.
    most_of _ _ (length c.deref.result.now) _ c.in_ok-repeated.lone (length ks) (ap length c.deref.ensures.value) (c.in_ok-repeated.ensures.number ks is) c.list_keys.ensures.asked_most

pub returns-in_err-groups-clause-bound : goal.returns-in_err-groups-clause-bound
returns-in_err-groups-clause-bound g c = λ windows are longest is.
    let (some, some_are, fewer) = windows_among (keys_in c.args.index.now.corpus) c.deref.result.now windows are in
    reads_within _ _ (length some) (length windows) longest fewer (c.list_keys.ensures.bound some some_are longest is)

pub returns-clause-groups : goal.returns-clause-groups
returns-clause-groups g c =
    IfOk-weaker c.order.result _ _
    (λ sorted order. all_groups c.args.index.now.corpus.chunk c.args.min (tokens_in c.args.index.now.corpus.files) (keys_in c.args.index.now.corpus) c.deref.result.now c.in_ok-groups.groups.items sorted.items c.args.index.now.corpus.some c.requires.long c.args.index.now.corpus.keyed
    (subst (λ (zs : List ℕ). AreAllRising (IsRepeatedKey (keys_in c.args.index.now.corpus)) zs) (sym c.deref.ensures.value) c.in_ok-repeated.ensures.repeated)
    c.in_ok-groups.ensures.groups order)
    c.order.ensures

pub returns-clause-asked : goal.returns-clause-asked
returns-clause-asked g c =
    on_ok c.order.result
    (λ ks is. rises_both _ _ _ (length c.deref.result.now) _ c.in_ok-repeated.lone (length ks) (ap length c.deref.ensures.value) (c.in_ok-repeated.ensures.number ks is) c.in_ok-groups.ensures.asked c.pass_over.ensures.asked)

pub returns-clause-asked_most : goal.returns-clause-asked_most
returns-clause-asked_most g c = λ ks is.
    rises_all _ _ (length ks) (rises_both _ _ _ (length c.deref.result.now) _ c.in_ok-repeated.lone (length ks) (ap length c.deref.ensures.value) (c.in_ok-repeated.ensures.number ks is) c.in_ok-groups.ensures.asked c.pass_over.ensures.asked)

pub returns-clause-bound : goal.returns-clause-bound
returns-clause-bound g c = λ windows are longest is.
    let (some, some_are, fewer) = windows_among (keys_in c.args.index.now.corpus) c.deref.result.now windows are in
    reads_within _ _ (length some) (length windows) longest fewer (c.list_keys.ensures.bound some some_are longest is)

pub returns-clause-moved : goal.returns-clause-moved
returns-clause-moved g c = g.met.B.Buckets.moved_on _ _ _ c.list_keys.ensures.moved c.pass_over.ensures.moved

pub returns-in_err-repeated-clause-asked_most : goal.returns-in_err-repeated-clause-asked_most
returns-in_err-repeated-clause-asked_most g c = λ ks is. rises_none _ (length ks)
