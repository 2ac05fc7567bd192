use Rattle.std.proofs.Common.{◌≡◌, sym, subst, subst₂}
use Rattle.std.specs.Prelude.{AllPairs, option_copied}
use Rattle.cq_clones.specs.Windows.{EntryBefore}
use Rattle.cq_shard.specs.Shard.{put_of}
use Rattle.cq_shard.specs.Stores.{AreNext}
use Rattle.cq_shard.proofs.Works.{brought_ordered, put_next}
use Rattle.cq_shard.proofs.applying.add_work.Goals as goal

pub add-requires-clause-ordered : goal.add-requires-clause-ordered
add-requires-clause-ordered g c =
    let part = c.args.part in
    subst (AllPairs EntryBefore) (sym c.in_ok-entries.ensures) (brought_ordered g.W.Indexed.keys_in part.shard part.shards part.change (option_copied c.args.work))

pub add-requires-clause-next : goal.add-requires-clause-next
add-requires-clause-next g c =
    let part = c.args.part in
    let store = c.args.store.now in
    let puts : c.where_some-puts.result.now ≡ put_of part.change (option_copied c.args.work) = c.where_some-puts.ensures in
    subst₂ (λ ns es. AreNext store part.change ns es) (sym puts) (sym c.in_ok-entries.ensures)
    (put_next g.W.Indexed.keys_in store part.shard part.shards c.requires.rising c.requires.known part.change (option_copied c.args.work) c.requires.later)
