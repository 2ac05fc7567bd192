use Rattle.cq_shard.specs.Shard.{HasWindow}
use Rattle.cq_board.proofs.VersionEntries.{have_the_entries}
use Rattle.cq_board.proofs.laws.shards_have_the_entries.Goals as goal

pub returns : goal.returns
returns g c = λ settings. have_the_entries (HasWindow g.W.Indexed.keys_in g.W.Indexed.IsWorkOf settings) (c.it_answers_what_it_holds.ensures settings)
