use Rattle.std.proofs.Common.{◌≡◌, List, take}
use Rattle.std.specs.Prelude.{sum_by}
use Rattle.cq_base.specs.declared.group.Place.{Place}
use Rattle.cq_clones.specs.Lists.{AreAllInOrder}
use Rattle.cq_clones.specs.Groups.{IsBefore}
use Rattle.cq_tokens.specs.Parts.{tokens_in, changes_in, keys_in}
use Rattle.cq_groups.specs.Sets.{ReadsAtMost, AreAllOnce}
use Rattle.cq_groups.specs.Listing.{HasOneOf, IsGroupOfKeys, Rises}
use Rattle.cq_groups.proofs.Counting.{count}
use Rattle.cq_groups.proofs.listing.list_keys.Given as goal

abbrev pub invariant-loop-key : goal.invariant-loop-key
invariant-loop-key g l = record {
  groups : AreAllOnce (IsGroupOfKeys (tokens_in l.index.corpus.files) (keys_in l.index.corpus) l.min (take l.key-index l.keys)) l.groups.items;
  for_changes : g.B.Buckets.file_changes l.buckets ≡ changes_in l.index.corpus;
  for_keys : g.B.Buckets.file_keys l.buckets ≡ keys_in l.index.corpus;
  ready : g.B.Buckets.ready l.buckets;
  asked : Rises (g.B.Buckets.asked l.initial.buckets) (g.B.Buckets.asked l.buckets) l.key-index;
  moved : g.B.Buckets.moved l.initial.buckets l.buckets;
  bound : (windows : List Place) → AreAllInOrder IsBefore (HasOneOf (keys_in l.index.corpus) l.keys) windows → ReadsAtMost (tokens_in l.index.corpus.files) (sum_by (count (keys_in l.index.corpus) windows) (take l.key-index l.keys)) l.initial.steps l.steps;
}
