use Rattle.std.proofs.Common.{arith, get_or, length}
use Rattle.std.proofs.lemmas.List.Elements.{Contains-get_or}
use Rattle.cq_tokens.specs.Parts.{tokens_in}
use Rattle.cq_clones.specs.Groups.{IsPlace}
use Rattle.cq_groups.specs.declared.spots.Spot.{Spot}
use Rattle.cq_groups.specs.Sets.{set_spots}
use Rattle.cq_groups.proofs.Walk.{Given, popped_words, popped_gives, walk_step, walk_begins, walk_ends, none_of_few, none_of_one}
use Rattle.cq_groups.proofs.Weights.{size_of_files, split_weighs, set_weighs, first_weighs, depth_within, files_are_longest, places_size}
use Rattle.cq_groups.proofs.RowLaws.{rows_within, firsts_are}
use Rattle.cq_groups.proofs.Alike.{alike_of_words}
use Rattle.cq_groups.proofs.refining.refine_places.Goals as goal

pub loop-set-init : goal.loop-set-init
loop-set-init g c =
    let corpus = tokens_in c.args.files.now in
    let all = c.in_ok-spots.spots.items in
    let first = c.in_ok-sets.ensures in
    let given : Given corpus c.args.min c.args.places.now all = record { entries = c.requires.entries; are = c.in_ok-spots.ensures.places; spots = c.in_ok-spots.ensures.marks; some = c.requires.some } in (
      (all, given.are, given.spots, walk_begins corpus c.args.min c.args.places.now all c.in_ok-sets.sets.items c.new-groups.result.items given first c.new-groups.ensures.items),
      λ longest is.
          let h = first_weighs longest (length c.args.places.now) all c.in_ok-sets.sets.items (places_size (λ (s : Spot). s.place) all c.args.places.now given.are) first in
          omega (arith, h, c.spots_of.ensures.steps, c.in-Some.ensures.read),
    )

pub split-requires-clause-gives : goal.split-requires-clause-gives
split-requires-clause-gives g c =
    let (all, are, spots, walk) = c.loop-set.invariant.0 in
    popped_gives (tokens_in c.args.files.now) c.args.min c.args.places.now all c.loop-set.sets.items _ c.in-Some-pop.set c.loop-set.groups.items c.in-Some-pop.ensures.items walk

pub split-requires-clause-places : goal.split-requires-clause-places
split-requires-clause-places g c =
    let (all, are, spots, walk) = c.loop-set.invariant.0 in
    let words = popped_words (tokens_in c.args.files.now) c.args.min c.args.places.now all c.loop-set.sets.items _ c.in-Some-pop.set c.loop-set.groups.items c.in-Some-pop.ensures.items walk in
    let all_spots = set_spots c.in-Some-pop.set in
    firsts_are (λ (s : Spot). IsPlace (tokens_in c.args.files.now) s.place) c.in-Some-pop.set.rows.items
    (λ k d lt. spots.places (get_or all_spots k d) ((words.exact.each _).0 (Contains-get_or all_spots k d lt)).0)

pub loop-set-preserved : goal.loop-set-preserved
loop-set-preserved g c =
    let corpus = tokens_in c.args.files.now in
    let (all, are, spots, walk) = c.loop-set.invariant.0 in
    let given : Given corpus c.args.min c.args.places.now all = record { entries = c.requires.entries; are = are; spots = spots; some = c.requires.some } in
    let words = popped_words corpus c.args.min c.args.places.now all c.loop-set.sets.items _ c.in-Some-pop.set c.loop-set.groups.items c.in-Some-pop.ensures.items walk in (
      (all, are, spots, walk_step corpus c.args.min c.args.places.now all c.loop-set.sets.items _ c.split.new.sets.items c.in-Some-pop.set c.loop-set.groups.items c.split.new.groups.items given c.in-Some-pop.ensures.items c.in_ok-split.ensures.split walk),
      λ longest is.
          let low = depth_within corpus all (set_spots c.in-Some-pop.set) c.in-Some-pop.set.depth longest spots words is in
          let h = split_weighs corpus c.args.min longest c.in-Some-pop.set c.loop-set.sets.items _ c.split.new.sets.items c.loop-set.groups.items c.split.new.groups.items low c.in-Some-pop.ensures.items c.in_ok-split.ensures.split in
          omega (arith, h, rows_within c.in-Some-pop.set.rows.items, c.split.ensures.steps, c.loop-set.invariant.1 longest is),
    )

pub loop-set-smaller : goal.loop-set-smaller
loop-set-smaller g c =
    let corpus = tokens_in c.args.files.now in
    let (all, are, spots, walk) = c.loop-set.invariant.0 in
    let longest = size_of_files corpus in
    let words = popped_words corpus c.args.min c.args.places.now all c.loop-set.sets.items _ c.in-Some-pop.set c.loop-set.groups.items c.in-Some-pop.ensures.items walk in
    let low = depth_within corpus all (set_spots c.in-Some-pop.set) c.in-Some-pop.set.depth longest spots words (files_are_longest corpus) in
    let h = split_weighs corpus c.args.min longest c.in-Some-pop.set c.loop-set.sets.items _ c.split.new.sets.items c.loop-set.groups.items c.split.new.groups.items low c.in-Some-pop.ensures.items c.in_ok-split.ensures.split in
    omega (arith, h, words.several)

pub returns : goal.returns
returns g c =
    let corpus = tokens_in c.args.files.now in
    let (all, are, spots, walk) = c.loop-set.invariant.0 in
    record {
      groups = walk_ends corpus c.args.min c.args.places.now all c.loop-set.sets.items c.loop-set.groups.items (omega (arith, c.in_default-pop.ensures.cases, c.loop-set.sets.ok.0)) walk;
      bound = λ longest is. let h = c.loop-set.invariant.1 longest is in omega (arith, h);
    }

pub returns-in_err-split-clause-bound : goal.returns-in_err-split-clause-bound
returns-in_err-split-clause-bound g c = λ longest is.
    let corpus = tokens_in c.args.files.now in
    let (all, are, spots, walk) = c.loop-set.invariant.0 in
    let words = popped_words corpus c.args.min c.args.places.now all c.loop-set.sets.items _ c.in-Some-pop.set c.loop-set.groups.items c.in-Some-pop.ensures.items walk in
    let low = depth_within corpus all (set_spots c.in-Some-pop.set) c.in-Some-pop.set.depth longest spots words is in
    let h = set_weighs longest c.in-Some-pop.set c.loop-set.sets.items _ low c.in-Some-pop.ensures.items in
    omega (arith, h, rows_within c.in-Some-pop.set.rows.items, c.split.ensures.steps, c.loop-set.invariant.1 longest is)

pub returns-then-places-lt2-clause-groups : goal.returns-then-places-lt2-clause-groups
returns-then-places-lt2-clause-groups g c =
    none_of_few (tokens_in c.args.files.now) c.args.min c.args.places.now c.new-groups.result.items c.requires.entries c.requires.some c.if-places-lt2.true c.new-groups.ensures.items

pub returns-in_default-clause-groups : goal.returns-in_default-clause-groups
returns-in_default-clause-groups g c =
    none_of_one (tokens_in c.args.files.now) c.args.min c.args.places.now c.new-groups.result.items c.requires.entries c.requires.some c.in_default.ensures.one c.new-groups.ensures.items

pub split-requires-clause-alike : goal.split-requires-clause-alike
split-requires-clause-alike g c =
    let (all, are, spots, walk) = c.loop-set.invariant.0 in
    let words = popped_words (tokens_in c.args.files.now) c.args.min c.args.places.now all c.loop-set.sets.items _ c.in-Some-pop.set c.loop-set.groups.items c.in-Some-pop.ensures.items walk in
    alike_of_words (tokens_in c.args.files.now) all (set_spots c.in-Some-pop.set) c.in-Some-pop.set.depth words
