use Rattle.std.proofs.Common.{rules}
use Rattle.cq_kept.specs.Accepted.{Holds}
use Rattle.cq_shorten.proofs.Easing.{left_at}
use Rattle.cq_shorten.proofs.held.Shortener.ease.Goals as goal

pub returns-clause-lines : goal.returns-clause-lines
returns-clause-lines c number held = left_at _ (λ k. Holds c.args.self.now.changes k) number held _ (λ k v b w t called. search rules) _ _ c.retain.ensures.filtered
