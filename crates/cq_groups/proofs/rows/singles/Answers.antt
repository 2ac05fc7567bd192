use Rattle.std.proofs.Common.{◌≡◌, ◌++◌, ◌∷◌, [], List, refl, ap, sym, ◌∙◌, get_or}
use Rattle.std.proofs.lemmas.List.{take_more, take_all}
use Rattle.std.proofs.lemmas.List.Elements.{All-nil, All-push}
use Rattle.cq_groups.specs.declared.spots.Spot.{Spot}
use Rattle.cq_groups.specs.declared.spots.Row.{Row}
use Rattle.cq_groups.proofs.RowLaws.{all_push}
use Rattle.cq_groups.proofs.rows.singles.Goals as goal

pub loop-i-init : goal.loop-i-init
loop-i-init c = rw c.in_ok-rows.ensures.items (refl, All-nil (λ (r : Row). r.others ≡ 0))

pub loop-i-preserved : goal.loop-i-preserved
loop-i-preserved c =
    let spots = c.args.spots.now in
    let i = c.loop-i.i in
    let origin : Spot = record { place = record { file = 0; at = 0 }; left = 0 } in
    let s : Spot = get_or spots i origin in
    let made : Row = record { first = s; others = 0; gap = 0; left = 0 } in
    rw c.in_ok-push.ensures.items (
      all_push c.loop-i.rows.items made
          ∙ ap (λ (ss : List Spot). ss ++ s ∷ []) c.loop-i.invariant.0
          ∙ sym (take_more spots i origin c.loop-i-test.true),
      All-push (λ (r : Row). r.others ≡ 0) c.loop-i.rows.items made c.loop-i.invariant.1 refl,
    )

pub returns : goal.returns
returns c = record {
  spots = c.loop-i.invariant.0 ∙ take_all c.loop-i.i c.args.spots.now c.loop-i-test.false;
  single = c.loop-i.invariant.1;
}
