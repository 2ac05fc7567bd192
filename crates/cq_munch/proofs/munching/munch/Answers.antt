use Rattle.std.proofs.Common.{sym, subst, length}
use Rattle.cq_munch.specs.Lexed.{AreBytes, InOrder}
use Rattle.cq_munch.proofs.munching.munch.Goals as goal

pub cut_up-requires-clause-in_order : goal.cut_up-requires-clause-in_order
cut_up-requires-clause-in_order g c =
    subst (λ v. InOrder 0 v (length c.args.text.now)) (sym c.deref.ensures.value) (rw c.in-Units.is at c.in_ok-units.ensures.in_order)

pub cut_up-requires-clause-bytes : goal.cut_up-requires-clause-bytes
cut_up-requires-clause-bytes g c = subst (AreBytes c.args.text.now) (sym c.deref.ensures.value) (rw c.in-Units.is at c.in_ok-units.ensures.bytes)
