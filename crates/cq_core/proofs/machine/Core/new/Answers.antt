use Rattle.std.proofs.Common.{refl, sym, ap, subst}
use Rattle.cq_base.specs.declared.settings.Settings.{Settings}
use Rattle.cq_history.specs.Core.{first_core}
use Rattle.cq_core.specs.Cores.{StandsFor, AreFresh}
use Rattle.cq_core.proofs.Stepping.{core}
use Rattle.cq_core.proofs.Fresh.{fresh_core, no_views_yet}
use Rattle.cq_shard.specs.Shard.{HasWindow}
use Rattle.cq_core.proofs.machine.Core.new.Goals as goal

pub invariant_of-result : goal.invariant_of-result
invariant_of-result g c = (
  (first_core c.in_ok-board.board.settings.shards, fresh_core c.in_ok-board.board.settings.shards c.in_ok-shards.shards.items (subst (λ n. AreFresh n c.in_ok-shards.shards.items) (ap (λ (s : Settings). s.shards) (sym c.in_ok-board.ensures.settings)) c.in_ok-shards.ensures) (HasWindow g.W.Indexed.keys_in g.W.Indexed.IsWorkOf c.in_ok-board.board.settings) (c.it_stands_at_first.ensures c.in_ok-board.board.settings) c.in_ok-board.board refl c.in_ok-board.ensures.stands),
  no_views_yet (g.W.Indexed.IsWorkOf c.in_ok-board.board.settings) c.in_ok-board.board c.args.callers c.in_ok-views.views.items c.in_ok-board.ensures.stands c.in_ok-board.ensures.callers c.in_ok-views.ensures,
)

pub returns-clause-stands : goal.returns-clause-stands
returns-clause-stands g c =
    subst (λ (s : Settings). StandsFor (HasWindow g.W.Indexed.keys_in g.W.Indexed.IsWorkOf s) (first_core s.shards) (core c.in_ok-board.board c.in_ok-shards.shards.items)) c.in_ok-board.ensures.settings
    (fresh_core c.in_ok-board.board.settings.shards c.in_ok-shards.shards.items (subst (λ n. AreFresh n c.in_ok-shards.shards.items) (ap (λ (s : Settings). s.shards) (sym c.in_ok-board.ensures.settings)) c.in_ok-shards.ensures) (HasWindow g.W.Indexed.keys_in g.W.Indexed.IsWorkOf c.in_ok-board.board.settings) (c.it_stands_at_first.ensures c.in_ok-board.board.settings) c.in_ok-board.board refl c.in_ok-board.ensures.stands)
