use Rattle.std.proofs.Common.{◌≡◌, ap, length, sym, ◌∙◌, subst, List, ℕ}
use Rattle.std.proofs.lemmas.Result.{IfOk-weaker}
use Rattle.std.specs.Prelude.{filter, Any, Bool}
use Rattle.cq_base.specs.declared.group.Group.{Group}
use Rattle.cq_groups.specs.Sets.{AreAllOnce}
use Rattle.cq_tokens.specs.Parts.{tokens_in, keys_in}
use Rattle.cq_groups.specs.Listing.{IsKeyIn, IsGroupOfKeys, AreAllRising, Rises, has_file}
use Rattle.cq_groups.proofs.KeyLists.{one_list, most_to, on_ok, rises_none}
use Rattle.cq_groups.proofs.ListedGroups.{file_groups, windows_of_keys, once_filtered, has_file-says}
use Rattle.cq_groups.proofs.listing.list_file.Goals as goal

pub returns-in_err-groups-clause-asked_most : goal.returns-in_err-groups-clause-asked_most
returns-in_err-groups-clause-asked_most g c = λ ks is.
    most_to _ _ (length ks) (length c.deref.result.now) (ap length c.deref.ensures.value ∙ one_list (IsKeyIn (keys_in c.args.index.now.corpus) c.args.file) c.in_ok-keys.keys.items ks c.in_ok-keys.ensures is) c.list_keys.ensures.asked_most

pub returns-in_err-groups-clause-bound : goal.returns-in_err-groups-clause-bound
returns-in_err-groups-clause-bound g c = λ windows are longest is.
    c.list_keys.ensures.bound windows
    (windows_of_keys (keys_in c.args.index.now.corpus) (IsKeyIn (keys_in c.args.index.now.corpus) c.args.file) c.deref.result.now windows (subst (λ (zs : List ℕ). AreAllRising (IsKeyIn (keys_in c.args.index.now.corpus) c.args.file) zs) (sym c.deref.ensures.value) c.in_ok-keys.ensures) are) longest is

pub returns-clause-groups : goal.returns-clause-groups
returns-clause-groups g c =
    let corpus = tokens_in c.args.index.now.corpus.files in
    let keys = keys_in c.args.index.now.corpus in
    let found = c.in_ok-groups.groups.items in
    let kept = c.in_ok-groups-2.groups.items in
    let test : Group → Bool = λ z. has_file c.args.file z.places in
    let filtered : kept ≡ filter test found = c.in_ok-groups-2.ensures in
    let once = once_filtered (IsGroupOfKeys corpus keys c.args.min c.deref.result.now) (λ z. Any (λ p. p.file ≡ c.args.file) z.places) test found (λ z. has_file-says c.args.file z.places) c.in_ok-groups.ensures.groups in
    IfOk-weaker c.order.result _ _
    (λ sorted order. file_groups c.args.index.now.corpus.chunk c.args.min c.args.file corpus keys c.deref.result.now found kept sorted.items c.args.index.now.corpus.some c.requires.long c.args.index.now.corpus.keyed
    (subst (λ (zs : List ℕ). AreAllRising (IsKeyIn keys c.args.file) zs) (sym c.deref.ensures.value) c.in_ok-keys.ensures)
    c.in_ok-groups.ensures.groups
    (subst (λ (gs : List Group). AreAllOnce (λ z. IsGroupOfKeys corpus keys c.args.min c.deref.result.now z × Any (λ p. p.file ≡ c.args.file) z.places) gs) (sym filtered) once) order)
    c.order.ensures

pub returns-clause-asked : goal.returns-clause-asked
returns-clause-asked g c =
    on_ok c.order.result
    (λ ks is. subst (λ n. Rises (g.B.Buckets.asked c.args.buckets.now) (g.B.Buckets.asked c.list_keys.new.buckets) n)
    (ap length c.deref.ensures.value ∙ one_list (IsKeyIn (keys_in c.args.index.now.corpus) c.args.file) c.in_ok-keys.keys.items ks c.in_ok-keys.ensures is) c.in_ok-groups.ensures.asked)

pub returns-clause-asked_most : goal.returns-clause-asked_most
returns-clause-asked_most g c = λ ks is.
    most_to _ _ (length ks) (length c.deref.result.now) (ap length c.deref.ensures.value ∙ one_list (IsKeyIn (keys_in c.args.index.now.corpus) c.args.file) c.in_ok-keys.keys.items ks c.in_ok-keys.ensures is) c.list_keys.ensures.asked_most

pub returns-clause-bound : goal.returns-clause-bound
returns-clause-bound g c = λ windows are longest is.
    c.list_keys.ensures.bound windows
    (windows_of_keys (keys_in c.args.index.now.corpus) (IsKeyIn (keys_in c.args.index.now.corpus) c.args.file) c.deref.result.now windows (subst (λ (zs : List ℕ). AreAllRising (IsKeyIn (keys_in c.args.index.now.corpus) c.args.file) zs) (sym c.deref.ensures.value) c.in_ok-keys.ensures) are) longest is

pub returns-in_err-groups-2-clause-asked_most : goal.returns-in_err-groups-2-clause-asked_most
returns-in_err-groups-2-clause-asked_most g c = λ ks is.
    most_to _ _ (length ks) (length c.deref.result.now) (ap length c.deref.ensures.value ∙ one_list (IsKeyIn (keys_in c.args.index.now.corpus) c.args.file) c.in_ok-keys.keys.items ks c.in_ok-keys.ensures is) c.list_keys.ensures.asked_most

pub returns-in_err-groups-2-clause-bound : goal.returns-in_err-groups-2-clause-bound
returns-in_err-groups-2-clause-bound g c = λ windows are longest is.
    c.list_keys.ensures.bound windows
    (windows_of_keys (keys_in c.args.index.now.corpus) (IsKeyIn (keys_in c.args.index.now.corpus) c.args.file) c.deref.result.now windows (subst (λ (zs : List ℕ). AreAllRising (IsKeyIn (keys_in c.args.index.now.corpus) c.args.file) zs) (sym c.deref.ensures.value) c.in_ok-keys.ensures) are) longest is

pub returns-in_err-keys-clause-asked_most : goal.returns-in_err-keys-clause-asked_most
returns-in_err-keys-clause-asked_most g c = λ ks is. rises_none _ (length ks)
