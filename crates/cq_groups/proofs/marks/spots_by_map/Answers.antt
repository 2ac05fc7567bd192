use Rattle.std.specs.BTreeMap.{get}
use Rattle.cq_tokens.specs.declared.seen.Seen.{Seen}
use Rattle.cq_tokens.specs.Packed.{norm_in, seen_cmp}
use Rattle.std.proofs.Common.{◌≡◌, [], None, arith, get_or, take, subst, List, ◌∙◌}
use Rattle.std.proofs.lemmas.List.{take_more, take_all}
use Rattle.std.proofs.lemmas.List.Elements.{All-contains, All-take}
use Rattle.std.specs.Prelude.{Contains, option_map}
use Rattle.cq_base.specs.declared.group.Place.{Place}
use Rattle.cq_clones.specs.Groups.{IsPlace, token_before}
use Rattle.cq_tokens.specs.Parts.{tokens_in}
use Rattle.cq_groups.specs.declared.spots.Spot.{Spot}
use Rattle.cq_groups.specs.Sets.{IsMark, IsMarked}
use Rattle.cq_base.proofs.Lists.{Contains-map}
use Rattle.cq_groups.proofs.Marking.{marks_none, marking_none, marking_more, mark_stays}
use Rattle.cq_groups.proofs.marks.spots_by_map.Goals as goal

pub loop-i-preserved : goal.loop-i-preserved
loop-i-preserved g c =
    let corpus = tokens_in c.args.files.now in
    let places = c.args.places.now in
    let i = c.loop-i.i in
    let origin : Place = record { file = 0; at = 0 } in
    let p : Place = get_or places i origin in
    let spot : Spot = record { place = p; left = c.in_ok-left.left } in
    let (seen, are, before, marking) = c.loop-i.invariant.0 in
    let next = c.in_ok-left.ensures seen are before in
    let is : IsMark next.tokens (token_before corpus p) c.in_ok-left.left = subst (λ t. IsMark next.tokens t c.in_ok-left.left) (c.token_before_at-token.ensures.token origin) next.is in (
      (
        next.tokens,
        next.are,
        mark_stays seen next.tokens (option_map norm_in c.args.difference.now.first) c.in_ok-first.first next.grows before,
        rw c.in_ok-push.ensures.items
            (marking_more (λ (s : Spot). token_before corpus s.place) (λ s. s.place) (λ s. s.left) seen next.tokens (take i places) _ c.loop-i.spots.items spot
            next.grows next.are.apart is
            (take_more places i origin c.loop-i-test.true) marking),
      ),
      omega (arith, c.token_before_at-token.ensures.step, c.loop-i.invariant.1),
    )

pub loop-i-init : goal.loop-i-init
loop-i-init g c =
    let first = option_map norm_in c.args.difference.now.first in
    let none : (q : Seen) → get seen_cmp c.new-marks.result q ≡ None = λ q. grind (arith, c.new-marks.ensures.empty) in
    let m : IsMarked [] c.mark_of.new.marks first c.in_ok-first.first = c.in_ok-first.ensures [] (record { size = c.new-marks.ensures.len; apart = λ i j d less within. absurd (omega (arith, within)); each = marks_none norm_in (get seen_cmp c.new-marks.result) none }) in (
      (
        m.tokens,
        m.are,
        m.is,
        rw c.in_ok-spots.ensures.items (marking_none (λ (s : Spot). token_before (tokens_in c.args.files.now) s.place) (λ s. s.place) (λ s. s.left) m.tokens m.are.apart),
      ),
      omega arith,
    )

pub returns-clause-places : goal.returns-clause-places
returns-clause-places g c =
    let (seen, are, before, marking) = c.loop-i.invariant.0 in
    marking.keys ∙ take_all c.loop-i.i c.args.places.now c.loop-i-test.false

pub returns-clause-marks : goal.returns-clause-marks
returns-clause-marks g c =
    let corpus = tokens_in c.args.files.now in
    let (seen, are, before, marking) = c.loop-i.invariant.0 in
    record {
      seen = seen;
      apart = marking.apart;
      marks = marking.marks;
      places = λ s here. All-contains (IsPlace corpus) (take c.loop-i.i c.args.places.now) s.place
          (All-take (IsPlace corpus) c.loop-i.i c.args.places.now c.requires.places)
          (subst (λ (ps : List Place). Contains ps s.place) marking.keys (Contains-map (λ s. s.place) c.loop-i.spots.items s here));
    }
