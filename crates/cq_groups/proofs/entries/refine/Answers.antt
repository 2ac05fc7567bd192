use Rattle.std.proofs.Common.{◌≡◌, ◌+◌, ◌*◌, arith, ap, length, sym, ◌∙◌, subst, List}
use Rattle.std.proofs.Math.Nat.{mul-le-mul_right}
use Rattle.std.proofs.lemmas.Result.{IfOk-weaker}
use Rattle.cq_base.specs.declared.group.Place.{Place}
use Rattle.cq_clones.specs.Lists.{AreAllInOrder}
use Rattle.cq_clones.specs.Groups.{IsBefore}
use Rattle.cq_clones.proofs.InOrder.{AreAllInOrder-same}
use Rattle.cq_clones.proofs.Order.{IsBefore-apart}
use Rattle.cq_tokens.specs.Parts.{tokens_in, changes_in, keys_in}
use Rattle.cq_groups.specs.Sets.{AreAllOnce}
use Rattle.cq_groups.specs.Places.{IsGroupOfKey}
use Rattle.cq_clones.specs.Windows.{HasKey}
use Rattle.cq_groups.proofs.KeyPlaces.{key_entries, groups_of_key, none_of_key}
use Rattle.cq_groups.proofs.entries.refine.Goals as goal

pub refine_places-requires-clause-entries : goal.refine_places-requires-clause-entries
refine_places-requires-clause-entries g c =
    let (key, is) = c.requires.bucket in
    let are = subst (λ (ps : List Place). AreAllInOrder IsBefore (HasKey (keys_in c.args.index.now.corpus) key) ps) (sym c.deref.ensures.value) (c.in_ok-places.ensures.places key is) in
    key_entries c.args.index.now.corpus.chunk c.args.min key (tokens_in c.args.index.now.corpus.files) (keys_in c.args.index.now.corpus) c.deref.result.now c.args.index.now.corpus.some c.requires.long c.args.index.now.corpus.keyed are

pub returns : goal.returns
returns g c = record {
  groups = IfOk-weaker c.refine_places.result _ _
      (λ groups once key is. groups_of_key c.args.min key (tokens_in c.args.index.now.corpus.files) (keys_in c.args.index.now.corpus) c.deref.result.now groups.items
      (subst (λ (ps : List Place). AreAllInOrder IsBefore (HasKey (keys_in c.args.index.now.corpus) key) ps) (sym c.deref.ensures.value) (c.in_ok-places.ensures.places key is)) once)
      c.refine_places.ensures.groups;
  bound = λ longest is.
      let h = c.refine_places.ensures.bound longest is in
      let size = ap length c.deref.ensures.value in
      let le = mul-le-mul_right (longest + 2) c.in_ok-places.ensures.size in
      let e = ap (λ n. n * (longest + 2)) size in
      omega (arith, h, le, e);
  places_bound = λ key places is are longest is_longest.
      let h = c.refine_places.ensures.bound longest is_longest in
      let same : c.in_ok-places.places.items ≡ places = AreAllInOrder-same IsBefore IsBefore-apart (HasKey (keys_in c.args.index.now.corpus) key) c.in_ok-places.places.items places (c.in_ok-places.ensures.places key is) are in
      let e = ap (λ n. n * (longest + 2)) (ap length (c.deref.ensures.value ∙ same)) in
      omega (arith, h, e);
}

pub returns-then-bucket-lt2-clause-groups : goal.returns-then-bucket-lt2-clause-groups
returns-then-bucket-lt2-clause-groups g c = λ key is.
    let corpus = c.args.index.now.corpus in
    subst (AreAllOnce (IsGroupOfKey (tokens_in corpus.files) (keys_in corpus) c.args.min key)) (sym c.new.ensures.items)
    (none_of_key (changes_in corpus) (keys_in corpus) key c.args.bucket.now (g.met.F.Files.sizes corpus.files.items.now) c.args.index.now.corpus.apart is c.args.index.now.corpus.chunk c.args.min (tokens_in corpus.files) c.args.index.now.corpus.some c.requires.long c.args.index.now.corpus.keyed c.if-bucket-lt2.true)
