use Rattle.std.proofs.Common.{◌≡◌, ◌++◌, ◌∷◌, [], arith, ap, length, map, ◌∙◌, sym, subst, List, inl, inr, refl}
use Rattle.std.specs.Prelude.{All}
use Rattle.cq_base.specs.declared.group.Place.{Place}
use Rattle.cq_base.specs.declared.group.Group.{Group}
use Rattle.cq_clones.specs.Groups.{kept_of}
use Rattle.cq_groups.specs.declared.spots.Spot.{Spot}
use Rattle.cq_groups.specs.declared.spots.Row.{Row}
use Rattle.cq_groups.specs.Rows.{all_of, IsRow}
use Rattle.cq_groups.specs.Sets.{set_spots, group_of}
use Rattle.cq_groups.proofs.RowLaws.{rows_each}
use Rattle.cq_groups.proofs.sets.add_group.Goals as goal

pub kept_places-requires : goal.kept_places-requires
kept_places-requires c =
    let depth = c.args.set.now.depth in
    subst (All (IsRow depth)) (sym c.deref.ensures.value) (rows_each depth c.args.set.now.rows.items c.args.set.now.rows_are)

pub returns-then-len-lt2 : goal.returns-then-len-lt2
returns-then-len-lt2 c =
    let spots = set_spots c.args.set.now in
    let depth = c.args.set.now.depth in
    let kept_are : c.in_ok-places.places.items ≡ kept_of depth (map (λ (s : Spot). s.place) spots) =
    c.in_ok-places.ensures ∙ ap (λ (rs : List Row). kept_of depth (map (λ (s : Spot). s.place) (all_of rs))) c.deref.ensures.value in
    inr (λ long. omega (arith, long.1, ap length kept_are, c.in_ok-places.places.ok.0), refl)

pub returns : goal.returns
returns c =
    let spots = set_spots c.args.set.now in
    let depth = c.args.set.now.depth in
    let kept_are : c.in_ok-places.places.items ≡ kept_of depth (map (λ (s : Spot). s.place) spots) =
    c.in_ok-places.ensures ∙ ap (λ (rs : List Row). kept_of depth (map (λ (s : Spot). s.place) (all_of rs))) c.deref.ensures.value in
    let same : c.from_vec-places.result ≡ kept_of depth (map (λ (s : Spot). s.place) spots) = c.from_vec-places.ensures ∙ kept_are in
    let made : Group = record { tokens = depth; places = c.from_vec-places.result } in
    let e : made ≡ group_of depth spots = ap (λ (ps : List Place). let m : Group = record { tokens = depth; places = ps } in m) same in
    inl ((c.if-set-min.false, omega (arith, ap length kept_are, c.in_ok-places.places.ok.0)), c.in_ok-push.ensures.items ∙ ap (λ (m : Group). c.args.groups.now.items ++ m ∷ []) e)
