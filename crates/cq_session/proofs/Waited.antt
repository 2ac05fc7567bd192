-- Where nothing was done since a line could not be kept.
use Rattle.std.proofs.Common.{◌≡◌, sym, subst}
use Rattle.cq_hub.specs.Hubs.{Never}
use Rattle.cq_hub.specs.declared.hub.Hub.{Ghosts}
use Rattle.cq_hub.proofs.Growing.{grows_none}
use Rattle.cq_session.specs.Passes.{HasWaited}

module _ {H W P : Type 0} (of : Ghosts H W P) (hub : H) (old new : P) where
  pub waited_none : new ≡ old → HasWaited of hub old new
  waited_none same = λ by h stands closed always. record {
    after = h;
    stands = subst (λ (p : P). of.Stands hub p by h) (sym same) stands;
    closed = closed;
    holds = grows_none of.alone by Never h;
  }
