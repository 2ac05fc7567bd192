use Rattle.std.proofs.Common.{◌<◌, ◌^◌, length, sym, subst}
use Rattle.std.specs.Prelude.{All, IfSome}
use Rattle.std.specs.Arc.{arc_value}
use Rattle.cq_hub.proofs.applying.Coming.behind.Goals as goal

pub parted-requires-clause-few : goal.parted-requires-clause-few
parted-requires-clause-few g c = subst (All (λ work. IfSome work (λ w. length (g.W.Indexed.keys_in (arc_value w)) < 2 ^ 32))) (sym c.deref.ensures.value) c.in_ok-works.ensures.few
