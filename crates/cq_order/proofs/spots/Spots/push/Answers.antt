use Rattle.std.proofs.Common.{◌≡◌, ◌++◌, ◌∷◌, [], ap, ap₂, ◌∙◌, rules}
use Rattle.cq_order.specs.Spots.{paired}
use Rattle.cq_order.proofs.Pairing.{paired_push}
use Rattle.cq_order.proofs.spots.Spots.push.Goals as goal

pub returns-clause-pushed : goal.returns-clause-pushed
returns-clause-pushed c =
    let cs = c.self.inside.changes.items in
    let fs = c.self.inside.files.items in
    let changes : c.push.new.self.items ≡ cs ++ c.args.spot.change ∷ [] = c.in_ok-push.ensures.items in
    let files : c.push-2.new.self.items ≡ fs ++ c.args.spot.file ∷ [] = search rules in
    ap₂ paired changes files ∙ paired_push cs fs c.args.spot c.self.invariant ∙ ap (λ ss. ss ++ c.args.spot ∷ []) c.self.view_is
