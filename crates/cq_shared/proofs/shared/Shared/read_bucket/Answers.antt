use Rattle.std.proofs.Common.{◌≡◌, ◌%◌, ◌≤◌, sym, ap, ◌∙◌, subst, take, arith, rules}
use Rattle.std.proofs.lemmas.Result.{IfOk-weaker}
use Rattle.cq_history.specs.State.{changes_in}
use Rattle.cq_shard.specs.Shard.{HasWindow}
use Rattle.cq_board.specs.Listings.{AreLive}
use Rattle.cq_cells.specs.Passes.{by_of, least}
use Rattle.cq_shared.specs.SharedPasses.{cells_of, settings_of, state_of}
use Rattle.cq_shared.proofs.Calling.{stays}
use Rattle.cq_shared.proofs.Reading.{entries_are, applied_open}
use Rattle.cq_shared.proofs.Applying.{same_step}
use Rattle.cq_shared.proofs.shared.Shared.read_bucket.Goals as goal

pub leave_shard-requires : goal.leave_shard-requires
leave_shard-requires g c =
    let e = c.enter_shard-shard.ensures in
    let hub = c.args.self.now in
    record {
      of = e.of;
      shard = search rules;
      step = record { was = c.enter_shard-shard.result; hand = e.hand; step = same_step (HasWindow g.W.Indexed.keys_in g.W.Indexed.IsWorkOf (settings_of hub)) (cells_of hub).about c.enter_shard-shard.new.pass.seen c.enter_shard-shard.result };
    }

pub returns-clause-reads : goal.returns-clause-reads
returns-clause-reads g c =
    let hub = c.args.self.now in
    let p = c.args.pass.now in
    let about = (cells_of hub).about in
    let e = c.enter_shard-shard.ensures in
    let l = c.leave_shard.ensures in
    let q = c.count_reads.new.self in
    let opened = c.requires.viewing in
    let seen : q.seen ≡ p.seen = ap (λ r. r.seen) c.count_reads.ensures ∙ l.seen ∙ e.seen in
    let live = subst (AreLive (take c.args.view.now.version (changes_in (state_of hub p.seen)))) (sym (c.live.ensures ∙ ap (λ x. x.live) c.deref.ensures)) opened.shows.numbers in
    let number : c.args.key % about.settings.shards ≡ c.args.key % c.from.result = ap (λ n. c.args.key % n) (sym (c.from.ensures ∙ c.requires.of.shards)) in
    stays hub p q _ (search rules)
    (ap (λ r. r.callers) c.count_reads.ensures ∙ l.same.callers ∙ e.same.callers) (ap (λ r. r.next) c.count_reads.ensures ∙ l.same.next ∙ e.same.next) (ap (λ r. r.room) c.count_reads.ensures ∙ l.same.room ∙ e.same.room) seen
    (IfOk-weaker c.bucket-bucket.result _ _
    (λ es asked. entries_are about p.seen c.requires.of.of.law (by_of p) c.args.view.now.version opened.version (HasWindow g.W.Indexed.keys_in g.W.Indexed.IsWorkOf about.settings) e.shard.log e.shard.begins c.args.key _ c.enter_shard-shard.result c.live.result.now es.items number e.shard.is e.published e.swept live asked)
    c.bucket-bucket.ensures)

pub returns-clause-reached : goal.returns-clause-reached
returns-clause-reached g c =
    let hub = c.args.self.now in
    let p = c.args.pass.now in
    let e = c.enter_shard-shard.ensures in
    let number : c.args.key % (settings_of hub).shards ≡ c.args.key % c.from.result = ap (λ n. c.args.key % n) (sym (c.from.ensures ∙ c.requires.of.shards)) in
    let open_is = applied_open (cells_of hub).about p.seen c.requires.of.of.law (by_of p) c.args.view.now.version c.requires.viewing.version c.enter_shard-shard.result.applied e.published in
    let here = c.leave_shard.ensures.reached.here in
    let same = ap (λ r. least r (c.args.key % c.from.result)) c.count_reads.ensures in
    subst (λ n. c.args.view.now.version ≤ least c.count_reads.new.self n) (sym number) (omega (arith, open_is, here, same))
