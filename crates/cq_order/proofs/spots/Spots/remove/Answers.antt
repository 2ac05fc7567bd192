use Rattle.std.proofs.Common.{◌∙◌, length, map, ap, arith}
use Rattle.std.proofs.lemmas.List.{length-map}
use Rattle.cq_order.specs.Spots.{paired, closed}
use Rattle.cq_order.proofs.Pairing.{moved_by, paired_map, whole}
use Rattle.cq_order.proofs.SpotEdits.{index_in, removed, removed_none}
use Rattle.cq_order.proofs.spots.Spots.remove.Goals as goal

pub take_out-requires : goal.take_out-requires
take_out-requires c = index_in c.args.self.now c.args.spot.change c.in-Some.i c.in-Some.ensures

pub returns-in-Some : goal.returns-in-Some
returns-in-Some c =
    let cs = c.self.inside.changes.items in
    let fs = c.self.inside.files.items in
    let moved = c.close_at.ensures ∙ ap (map (closed c.args.spot.file)) c.as_mut_slice.ensures.value in
    let left = whole _ c.close_at.new.files fs (omega (arith, c.self.inside.files.ok.0)) (ap length moved ∙ length-map fs (closed c.args.spot.file)) in
    removed c.args.spot c.args.self.now c.take_out.new.self _ c.in-Some.i c.requires.rising c.in-Some.ensures c.take_out.ensures
    (ap (paired cs) (left ∙ moved) ∙ paired_map (closed c.args.spot.file) cs fs ∙ ap (map (moved_by (closed c.args.spot.file))) c.self.view_is)

pub returns-in-None : goal.returns-in-None
returns-in-None c = removed_none c.args.spot c.args.self.now c.args.self.now c.in-None.ensures
