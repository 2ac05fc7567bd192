use Rattle.std.proofs.Common.{◌≡◌, Contains, subst}
use Rattle.std.proofs.lemmas.Result.{IfOk-weaker}
use Rattle.cq_clones.specs.Lists.{AreAllInOrder}
use Rattle.cq_clones.specs.Windows.{EntryBefore}
use Rattle.cq_shard.specs.Shard.{Contents}
use Rattle.cq_shard.proofs.shard.Shard.bucket.Goals as goal

pub returns : goal.returns
returns c =
    let key = c.args.key in
    let live = c.args.live.now in
    IfOk-weaker c.bucket.result _ _
    (λ bucket is. subst (λ (v : Contents). AreAllInOrder EntryBefore (λ e. (e.key ≡ key) × Contains live e.change × Contains v.entries e) bucket.items) c.self.view_is is)
    c.bucket.ensures
