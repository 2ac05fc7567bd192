use Rattle.std.proofs.Common.{◌%◌, ℕ, sym, ap, ◌∙◌, subst, take, get_or}
use Rattle.std.proofs.lemmas.Result.{IfOk-weaker}
use Rattle.cq_base.specs.declared.settings.Settings.{Settings}
use Rattle.cq_history.specs.State.{State, changes_in}
use Rattle.cq_board.specs.Listings.{AreLive}
use Rattle.cq_hub.specs.Views.{IsOpen}
use Rattle.cq_hub.proofs.Growing.{calls_now}
use Rattle.cq_hub.proofs.Soloing.{solo_said, solo_nil, solo_reads}
use Rattle.cq_hub.proofs.solo.SoloHub.read_bucket.Goals as goal

pub returns-clause-reads : goal.returns-clause-reads
returns-clause-reads g c = λ by h is.
    let r = c.requires.viewing in
    let opened = solo_said _ _ r.0 r.1 _ _ r.2 (λ (n : ℕ) (set : Settings) (s : State). IsOpen (g.W.Indexed.IsWorkOf set) s n c.args.view.now) r.3 in
    let live = subst (AreLive (take c.args.view.now.version (changes_in c.args.pass.now.board.state))) (sym (c.live.ensures ∙ ap (λ l. l.live) c.deref.ensures)) opened.shows.numbers in
    calls_now _ _ _ by _ _ h _ _
    (IfOk-weaker c.bucket.result _ _ (λ es are. solo_reads _ _ by h _ _ is c.args.view.now.version c.args.key c.live.result.now c.index.result.now es.items (c.index.ensures ∙ ap (λ n. get_or c.args.pass.now.shards.items (c.args.key % n) c.index.result.now) c.from.ensures) opened.version live are) c.bucket.ensures)
    (solo_nil _ _ by h _ _ is)
