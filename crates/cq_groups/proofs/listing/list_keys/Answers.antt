use Rattle.std.proofs.Common.{◌+◌, ℕ, arith, length, get_or, take, sym, ◌∙◌, subst, subst₂, refl, List}
use Rattle.std.specs.Prelude.{sum_by}
use Rattle.std.proofs.lemmas.List.{get_or_default, take_all}
use Rattle.std.proofs.lemmas.List.Elements.{Contains-get_or}
use Rattle.cq_base.specs.declared.entry.Entry.{Entry}
use Rattle.cq_tokens.specs.Parts.{tokens_in, changes_in, keys_in}
use Rattle.cq_clones.specs.Windows.{IsBucket}
use Rattle.cq_groups.specs.Sets.{AreAllOnce}
use Rattle.cq_groups.specs.Listing.{IsGroupOfKeys}
use Rattle.cq_groups.proofs.Counting.{count, with_key, with_key-is, count_next, first_counts_within}
use Rattle.cq_groups.proofs.KeyLists.{rises_more, rises_to, rises_most, reads_more, reads_within}
use Rattle.cq_groups.proofs.ListedGroups.{groups_more, groups_none}
use Rattle.cq_groups.proofs.listing.list_keys.Goals as goal

pub loop-key-init : goal.loop-key-init
loop-key-init g c = record {
  groups = groups_none (tokens_in c.args.index.now.corpus.files) (keys_in c.args.index.now.corpus) c.args.min c.args.keys.now _ c.new-groups.ensures.items;
  for_changes = c.requires.for_changes;
  for_keys = c.requires.for_keys;
  ready = c.requires.ready;
  asked = omega arith;
  moved = g.met.B.Buckets.unmoved _;
  bound = λ windows are longest is. omega arith;
}

pub refine-requires-clause-bucket : goal.refine-requires-clause-bucket
refine-requires-clause-bucket g c = (
  get_or c.args.keys.now c.loop-key.key-index 0,
  subst (λ (es : List Entry). IsBucket (changes_in c.args.index.now.corpus) (keys_in c.args.index.now.corpus) (get_or c.args.keys.now c.loop-key.key-index 0) es) (sym c.deref.ensures.value)
      (subst₂ (λ cs ks. IsBucket cs ks (get_or c.args.keys.now c.loop-key.key-index 0) c.in_ok-bucket.bucket.items) c.loop-key.invariant.for_changes c.loop-key.invariant.for_keys c.in_ok-bucket.ensures.bucket),
)

pub loop-key-preserved : goal.loop-key-preserved
loop-key-preserved g c =
    let corpus = tokens_in c.args.index.now.corpus.files in
    let keys = keys_in c.args.index.now.corpus in
    let ks = c.args.keys.now in
    let i = c.loop-key.key-index in
    let k : ℕ = get_or ks i 0 in
    let is_bucket = subst (λ (es : List Entry). IsBucket (changes_in c.args.index.now.corpus) keys k es) (sym c.deref.ensures.value)
    (subst₂ (λ cs zs. IsBucket cs zs k c.in_ok-bucket.bucket.items) c.loop-key.invariant.for_changes c.loop-key.invariant.for_keys c.in_ok-bucket.ensures.bucket) in
    record {
      groups = subst (AreAllOnce (IsGroupOfKeys corpus keys c.args.min (take (i + 1) ks))) (sym c.in_ok-append.ensures.items)
          (groups_more corpus keys c.args.min ks i k c.loop-key.groups.items c.in_ok-found.found.items c.loop-key-test.true (get_or_default ks i 0 k c.loop-key-test.true) c.requires.rising c.loop-key.invariant.groups (c.in_ok-found.ensures.groups k is_bucket));
      for_changes = c.bucket.ensures.same_changes ∙ c.loop-key.invariant.for_changes;
      for_keys = c.bucket.ensures.same_keys ∙ c.loop-key.invariant.for_keys;
      ready = c.bucket.ensures.ready;
      asked = rises_more _ _ _ i c.loop-key.invariant.asked c.bucket.ensures.asked;
      moved = g.met.B.Buckets.moved_on _ _ _ c.loop-key.invariant.moved c.bucket.ensures.moved;
      bound = λ windows are longest is.
          reads_more c.args.steps.now c.loop-key.steps c.refine.new.steps (sum_by (count keys windows) (take i ks)) (sum_by (count keys windows) (take (i + 1) ks)) (count keys windows k) longest
          (count_next (count keys windows) ks i k c.loop-key-test.true refl)
          (c.loop-key.invariant.bound windows are longest is)
          (c.refine.ensures.places_bound k (with_key keys windows k) is_bucket (with_key-is keys ks windows k (Contains-get_or ks i 0 c.loop-key-test.true) are) longest is);
    }

pub returns-in_err-bucket-clause-asked_most : goal.returns-in_err-bucket-clause-asked_most
returns-in_err-bucket-clause-asked_most g c =
    let i = c.loop-key.key-index in
    rises_most _ _ (length c.args.keys.now) (i + 1) (omega (arith, c.loop-key-test.true)) (rises_more _ _ _ i c.loop-key.invariant.asked c.bucket.ensures.asked)

pub returns-in_err-bucket-clause-bound : goal.returns-in_err-bucket-clause-bound
returns-in_err-bucket-clause-bound g c = λ windows are longest is.
    let keys = keys_in c.args.index.now.corpus in
    let ks = c.args.keys.now in
    reads_within c.args.steps.now _ (sum_by (count keys windows) (take c.loop-key.key-index ks)) (length windows) longest (first_counts_within keys ks windows c.loop-key.key-index c.requires.rising) (c.loop-key.invariant.bound windows are longest is)

pub returns-in_err-found-clause-asked_most : goal.returns-in_err-found-clause-asked_most
returns-in_err-found-clause-asked_most g c =
    let i = c.loop-key.key-index in
    rises_most _ _ (length c.args.keys.now) (i + 1) (omega (arith, c.loop-key-test.true)) (rises_more _ _ _ i c.loop-key.invariant.asked c.bucket.ensures.asked)

pub returns-in_err-found-clause-bound : goal.returns-in_err-found-clause-bound
returns-in_err-found-clause-bound g c = λ windows are longest is.
    let keys = keys_in c.args.index.now.corpus in
    let ks = c.args.keys.now in
    let i = c.loop-key.key-index in
    let k : ℕ = get_or ks i 0 in
    let is_bucket = subst (λ (es : List Entry). IsBucket (changes_in c.args.index.now.corpus) keys k es) (sym c.deref.ensures.value)
    (subst₂ (λ cs zs. IsBucket cs zs k c.in_ok-bucket.bucket.items) c.loop-key.invariant.for_changes c.loop-key.invariant.for_keys c.in_ok-bucket.ensures.bucket) in
    reads_within c.args.steps.now _ (sum_by (count keys windows) (take (i + 1) ks)) (length windows) longest (first_counts_within keys ks windows (i + 1) c.requires.rising)
    (reads_more c.args.steps.now c.loop-key.steps c.refine.new.steps (sum_by (count keys windows) (take i ks)) (sum_by (count keys windows) (take (i + 1) ks)) (count keys windows k) longest
    (count_next (count keys windows) ks i k c.loop-key-test.true refl)
    (c.loop-key.invariant.bound windows are longest is)
    (c.refine.ensures.places_bound k (with_key keys windows k) is_bucket (with_key-is keys ks windows k (Contains-get_or ks i 0 c.loop-key-test.true) are) longest is))

pub returns-in_err-append-clause-asked_most : goal.returns-in_err-append-clause-asked_most
returns-in_err-append-clause-asked_most g c =
    let i = c.loop-key.key-index in
    rises_most _ _ (length c.args.keys.now) (i + 1) (omega (arith, c.loop-key-test.true)) (rises_more _ _ _ i c.loop-key.invariant.asked c.bucket.ensures.asked)

pub returns-in_err-append-clause-bound : goal.returns-in_err-append-clause-bound
returns-in_err-append-clause-bound g c = λ windows are longest is.
    let keys = keys_in c.args.index.now.corpus in
    let ks = c.args.keys.now in
    let i = c.loop-key.key-index in
    let k : ℕ = get_or ks i 0 in
    let is_bucket = subst (λ (es : List Entry). IsBucket (changes_in c.args.index.now.corpus) keys k es) (sym c.deref.ensures.value)
    (subst₂ (λ cs zs. IsBucket cs zs k c.in_ok-bucket.bucket.items) c.loop-key.invariant.for_changes c.loop-key.invariant.for_keys c.in_ok-bucket.ensures.bucket) in
    reads_within c.args.steps.now _ (sum_by (count keys windows) (take (i + 1) ks)) (length windows) longest (first_counts_within keys ks windows (i + 1) c.requires.rising)
    (reads_more c.args.steps.now c.loop-key.steps c.refine.new.steps (sum_by (count keys windows) (take i ks)) (sum_by (count keys windows) (take (i + 1) ks)) (count keys windows k) longest
    (count_next (count keys windows) ks i k c.loop-key-test.true refl)
    (c.loop-key.invariant.bound windows are longest is)
    (c.refine.ensures.places_bound k (with_key keys windows k) is_bucket (with_key-is keys ks windows k (Contains-get_or ks i 0 c.loop-key-test.true) are) longest is))

pub returns-in_err-bucket-clause-same_changes : goal.returns-in_err-bucket-clause-same_changes
returns-in_err-bucket-clause-same_changes g c = c.bucket.ensures.same_changes ∙ c.loop-key.invariant.for_changes ∙ sym c.requires.for_changes

pub returns-in_err-bucket-clause-same_keys : goal.returns-in_err-bucket-clause-same_keys
returns-in_err-bucket-clause-same_keys g c = c.bucket.ensures.same_keys ∙ c.loop-key.invariant.for_keys ∙ sym c.requires.for_keys

pub returns-in_err-bucket-clause-ready : goal.returns-in_err-bucket-clause-ready
returns-in_err-bucket-clause-ready g c = c.bucket.ensures.ready

pub returns-in_err-bucket-clause-moved : goal.returns-in_err-bucket-clause-moved
returns-in_err-bucket-clause-moved g c = g.met.B.Buckets.moved_on _ _ _ c.loop-key.invariant.moved c.bucket.ensures.moved

pub returns-in_err-found-clause-same_changes : goal.returns-in_err-found-clause-same_changes
returns-in_err-found-clause-same_changes g c = c.bucket.ensures.same_changes ∙ c.loop-key.invariant.for_changes ∙ sym c.requires.for_changes

pub returns-in_err-found-clause-same_keys : goal.returns-in_err-found-clause-same_keys
returns-in_err-found-clause-same_keys g c = c.bucket.ensures.same_keys ∙ c.loop-key.invariant.for_keys ∙ sym c.requires.for_keys

pub returns-in_err-found-clause-ready : goal.returns-in_err-found-clause-ready
returns-in_err-found-clause-ready g c = c.bucket.ensures.ready

pub returns-in_err-found-clause-moved : goal.returns-in_err-found-clause-moved
returns-in_err-found-clause-moved g c = g.met.B.Buckets.moved_on _ _ _ c.loop-key.invariant.moved c.bucket.ensures.moved

pub returns-in_err-append-clause-same_changes : goal.returns-in_err-append-clause-same_changes
returns-in_err-append-clause-same_changes g c = c.bucket.ensures.same_changes ∙ c.loop-key.invariant.for_changes ∙ sym c.requires.for_changes

pub returns-in_err-append-clause-same_keys : goal.returns-in_err-append-clause-same_keys
returns-in_err-append-clause-same_keys g c = c.bucket.ensures.same_keys ∙ c.loop-key.invariant.for_keys ∙ sym c.requires.for_keys

pub returns-in_err-append-clause-ready : goal.returns-in_err-append-clause-ready
returns-in_err-append-clause-ready g c = c.bucket.ensures.ready

pub returns-in_err-append-clause-moved : goal.returns-in_err-append-clause-moved
returns-in_err-append-clause-moved g c = g.met.B.Buckets.moved_on _ _ _ c.loop-key.invariant.moved c.bucket.ensures.moved

pub returns : goal.returns
returns g c =
    let corpus = tokens_in c.args.index.now.corpus.files in
    let keys = keys_in c.args.index.now.corpus in
    let ks = c.args.keys.now in
    let i = c.loop-key.key-index in
    record {
      groups = subst (λ zs. AreAllOnce (IsGroupOfKeys corpus keys c.args.min zs) c.loop-key.groups.items) (take_all i ks c.loop-key-test.false) c.loop-key.invariant.groups;
      asked = rises_to _ _ (length ks) i c.loop-key.auto.key-index-end c.loop-key-test.false c.loop-key.invariant.asked;
      asked_most = rises_most _ _ (length ks) i c.loop-key.auto.key-index-end c.loop-key.invariant.asked;
      same_changes = c.loop-key.invariant.for_changes ∙ sym c.requires.for_changes;
      same_keys = c.loop-key.invariant.for_keys ∙ sym c.requires.for_keys;
      ready = c.loop-key.invariant.ready;
      moved = c.loop-key.invariant.moved;
      bound = λ windows are longest is.
          reads_within c.args.steps.now _ (sum_by (count keys windows) (take i ks)) (length windows) longest (first_counts_within keys ks windows i c.requires.rising) (c.loop-key.invariant.bound windows are longest is);
    }
