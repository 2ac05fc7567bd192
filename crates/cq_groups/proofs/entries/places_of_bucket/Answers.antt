use Rattle.std.proofs.Common.{refl, arith, ap, length, subst, get_or}
use Rattle.std.proofs.lemmas.List.{get_or_default, take_all, length_push}
use Rattle.std.proofs.lemmas.List.Elements.{Contains-get_or}
use Rattle.std.proofs.lemmas.List.Sorted.{length_permutation}
use Rattle.cq_base.specs.declared.entry.Entry.{Entry}
use Rattle.cq_base.specs.declared.group.Place.{Place}
use Rattle.cq_tokens.specs.Parts.{changes_in, keys_in}
use Rattle.cq_clones.specs.Windows.{HasKey}
use Rattle.cq_groups.proofs.Places.{places_sorted}
use Rattle.cq_groups.proofs.KeyPlaces.{ArePlacesOf, places_more, places_none, places_all}
use Rattle.cq_groups.proofs.entries.places_of_bucket.Goals as goal
use Rattle.cq_groups.proofs.entries.places_of_bucket.Goals.{in-Some+in_ok-push, in_default}

pub loop-entry-init : goal.loop-entry-init
loop-entry-init g c = (places_none (changes_in c.args.index.now.corpus) c.args.bucket.now _ c.in_ok-places.ensures.items, omega (arith, ap length c.in_ok-places.ensures.items))

pub loop-entry-preserved : goal.loop-entry-preserved
loop-entry-preserved g c =
    let origin : Entry = record { key = 0; change = 0; at = 0 } in
    let changes = changes_in c.args.index.now.corpus in
    let bucket = c.args.bucket.now in
    let i = c.loop-entry.entry-index in
    let e : Entry = get_or bucket i origin in
    let (key, is) = c.requires in
    let position = c.spot_of.ensures.position changes c.args.index.now.spots_are in
    elim c.match-spot_of.branch [
      | in-Some+in_ok-push w ↦
          let p : Place = record { file = w.in-Some.file; at = e.at } in
          rw (w.places-is, w.in_ok-push.ensures.items) (
            places_more changes bucket c.loop-entry.places.items i e p c.loop-entry-test.true (get_or_default bucket i origin e c.loop-entry-test.true) is.ordered c.args.index.now.corpus.apart
                (record { file = (position w.in-Some.file).0 w.in-Some.is; at = refl }) c.loop-entry.invariant.0,
            omega (arith, length_push c.loop-entry.places.items p, c.loop-entry.invariant.1),
          )
      | in_default w ↦
          let entry = ((is.each e).0 (Contains-get_or bucket i origin c.loop-entry-test.true)).1 in
          absurd (w.in_default.not-Some entry.file ((position entry.file).1 entry.put))
    ]

pub returns : goal.returns
returns g c =
    let changes = changes_in c.args.index.now.corpus in
    let bucket = c.args.bucket.now in
    let old = c.loop-entry.places.items in
    let all : ArePlacesOf changes bucket old = subst (λ es. ArePlacesOf changes es old) (take_all c.loop-entry.entry-index bucket c.loop-entry-test.false) c.loop-entry.invariant.0 in
    record {
      places = λ key is. places_sorted (HasKey (keys_in c.args.index.now.corpus) key) old c.in_order.result.items
          (places_all changes (keys_in c.args.index.now.corpus) key bucket (g.met.F.Files.sizes c.args.index.now.corpus.files.items.now) c.args.index.now.corpus.apart is old all) c.in_order.ensures;
      size = omega (arith, length_permutation old c.in_order.result.items c.in_order.ensures.permutation, c.loop-entry.invariant.1, c.loop-entry.auto.entry-index-end);
    }
