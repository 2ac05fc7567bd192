use Rattle.std.proofs.Common.{Option, subst₂}
use Rattle.std.specs.Prelude.{IsTrue, ◌↔◌}
use Rattle.cq_base.specs.declared.norm.Norm.{Norm}
use Rattle.cq_clones.specs.Groups.{AreSame}
use Rattle.cq_scan.proofs.corpus.are_same_before.Goals as goal

pub returns : goal.returns
returns g c =
    subst₂ (λ (x : Option Norm) (y : Option Norm). IsTrue c.are_equal.result ↔ AreSame x y) c.token_before-a.ensures.token c.token_before-b.ensures.token c.are_equal.ensures
