use Rattle.std.proofs.Common.{length, ap, ap₂, ◌∙◌, arith}
use Rattle.std.specs.Prelude.{remove}
use Rattle.cq_order.specs.Spots.{paired}
use Rattle.cq_order.proofs.Pairing.{length_paired, paired_remove}
use Rattle.cq_order.proofs.spots.Spots.take_out.Goals as goal

pub remove-requires : goal.remove-requires
remove-requires c =
    let size = length_paired c.self.inside.changes.items c.self.inside.files.items c.self.invariant in
    omega (arith, size, ap length c.self.view_is, c.requires, c.self.inside.changes.ok.0)

pub returns : goal.returns
returns c =
    let cs = c.self.inside.changes.items in
    let fs = c.self.inside.files.items in
    ap₂ paired c.remove.ensures.items c.remove-2.ensures.items ∙ paired_remove cs fs c.args.i c.self.invariant ∙ ap (λ ss. remove ss c.args.i) c.self.view_is
