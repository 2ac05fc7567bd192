use Rattle.std.proofs.Common.{◌∙◌, ◌++◌, ◌∷◌, [], List, ap, get_or}
use Rattle.cq_base.specs.declared.group.Place.{Place}
use Rattle.cq_tokens.specs.Parts.{tokens_in}
use Rattle.cq_groups.specs.declared.spots.Spot.{Spot}
use Rattle.cq_groups.proofs.OneStep.{pair_spots}
use Rattle.cq_groups.proofs.marks.pair_of.Goals as goal

pub returns-clause-marks : goal.returns-clause-marks
returns-clause-marks g c =
    let origin : Place = record { file = 0; at = 0 } in
    let places = c.args.places.now in
    let x : Spot = record { place = get_or places 0 origin; left = c.two_marks-first.result.0 } in
    let y : Spot = record { place = get_or places 1 origin; left = c.two_marks-first.result.1 } in
    pair_spots (tokens_in c.args.files.now) places origin x.left y.left c.push-2.new.self.items c.args.difference.now
    (c.in_ok-push-2.ensures.items ∙ ap (λ (ss : List Spot). ss ++ y ∷ []) (c.in_ok-push.ensures.items ∙ ap (λ (ss : List Spot). ss ++ x ∷ []) c.in_ok-spots.ensures.items))
    c.requires.two c.requires.places c.requires.differ c.two_marks-first.ensures
