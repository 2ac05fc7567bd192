use Rattle.std.proofs.Common.{◌≡◌, ◌<◌, List, [], ◌∷◌, ◌++◌, map, set, take, length, get_or, sym, ap, ◌∙◌, subst, arith}
use Rattle.std.proofs.lemmas.List.{map-set, get_or-map, length-map, take_more}
use Rattle.std.proofs.lemmas.List.Elements.{All-get_or}
use Rattle.cq_base.specs.declared.group.Place.{Place}
use Rattle.cq_measures.specs.declared.parting.Run.{Run}
use Rattle.cq_measures.specs.Parted.{AreLonger, group_runs}
use Rattle.cq_measures.proofs.Runs.{place_longer}
use Rattle.cq_measures.proofs.parting.part.Goals as goal

pub loop-place-preserved : goal.loop-place-preserved
loop-place-preserved c =
    let places = c.args.group.now.places in
    let tokens = c.args.group.now.tokens in
    let i = c.loop-place.place-index in
    let parts = c.loop-place.parts.items in
    let old = c.args.parts.now.items in
    let none : Place = record { file = 0; at = 0 } in
    let p = get_or places i none in
    let inside : i < length places = rw c.as_slice-place-items.ensures at c.loop-place-test.true in
    let many = c.loop-place.invariant.as_many in
    let before = length-map old (λ part. part.items) in
    let now = length-map parts (λ part. part.items) in
    let low = All-get_or (λ p. p.file < length old) places i none inside c.requires in
    let within : p.file < length parts = omega (arith, low, many, before, now) in
    let within_map : p.file < length (map (λ part. part.items) parts) = omega (arith, within, now) in
    let r : Run = record { at = p.at; tokens = tokens } in
    let more : map (λ part. part.items) (set parts p.file c.push.new.self) ≡ set (map (λ part. part.items) parts) p.file (get_or (map (λ part. part.items) parts) p.file [] ++ r ∷ []) =
    map-set (λ part. part.items) parts p.file c.push.new.self
    ∙ ap (set (map (λ part. part.items) parts) p.file) (rw c.as_slice-place-items.ensures at c.in_ok-push.ensures.items ∙ ap (λ (rs : List Run). rs ++ r ∷ []) (ap (λ part. part.items) (rw c.as_slice-place-items.ensures at c.index_mut.ensures.value) ∙ sym (get_or-map (λ part. part.items) parts p.file c.index_mut.result.now [] within))) in
    rw c.as_slice-place-items.ensures (subst (λ (ps : List Place). AreLonger (λ k. group_runs k tokens ps) (map (λ part. part.items) old) (map (λ part. part.items) (set parts p.file c.push.new.self))) (sym (take_more places i none inside))
    (place_longer tokens (take i places) p (map (λ part. part.items) old) (map (λ part. part.items) parts) _ within_map more c.loop-place.invariant))
