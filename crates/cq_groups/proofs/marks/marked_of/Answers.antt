use Rattle.std.specs.BTreeMap.{get}
use Rattle.cq_tokens.specs.declared.seen.Seen.{Seen}
use Rattle.cq_tokens.specs.Packed.{norm_in, seen_cmp}
use Rattle.std.specs.Prelude.{option_map}
use Rattle.cq_base.proofs.Lists.{Contains-nil}
use Rattle.std.proofs.Common.{◌≡◌, [], None, arith, get_or, take, subst, sym, ⊎_elim, ◌<◌, ◌∙◌}
use Rattle.std.proofs.lemmas.List.Elements.{Contains-push_cases}
use Rattle.std.proofs.lemmas.List.{take_more, take_all}
use Rattle.cq_clones.specs.Groups.{token_behind}
use Rattle.cq_tokens.specs.Parts.{tokens_in}
use Rattle.cq_groups.specs.declared.spots.Row.{Row}
use Rattle.cq_groups.specs.declared.spots.MarkedRow.{MarkedRow}
use Rattle.cq_groups.specs.Sets.{IsMark, IsMarked}
use Rattle.cq_groups.proofs.Marking.{marks_none, marking_none, marking_more, some_of_mark, mark_stays}
use Rattle.cq_groups.proofs.marks.marked_of.Goals as goal

pub loop-i-preserved : goal.loop-i-preserved
loop-i-preserved g c =
    let corpus = tokens_in c.args.files.now in
    let rows = c.args.rows.now in
    let i = c.loop-i.i in
    let origin : Row = record { first = record { place = record { file = 0; at = 0 }; left = 0 }; others = 0; gap = 0; left = 0 } in
    let r : Row = get_or rows i origin in
    let marked : MarkedRow = record { row = r; mark = c.in_ok-mark.mark } in
    let (seen, are, before, marking) = c.loop-i.invariant.0 in
    let next = c.in_ok-mark.ensures seen are before in
    let is : IsMark next.tokens (token_behind corpus r.first.place c.args.n) c.in_ok-mark.mark = subst (λ t. IsMark next.tokens t c.in_ok-mark.mark) (c.token_behind_at-token.ensures.token origin) next.is in (
      (
        next.tokens,
        next.are,
        mark_stays seen next.tokens (option_map norm_in c.args.difference.now.first) c.in_ok-first.first next.grows before,
        rw c.in_ok-push.ensures.items
            (marking_more (λ (x : MarkedRow). token_behind corpus x.row.first.place c.args.n) (λ x. x.row) (λ x. x.mark) seen next.tokens (take i rows) _ c.loop-i.marked.items marked
            next.grows next.are.apart is
            (take_more rows i origin c.loop-i-test.true) marking),
      ),
      omega (arith, c.token_behind_at-token.ensures.step, c.loop-i.invariant.1),
      rw c.in_ok-push.ensures.items
          (λ x here some. ⊎_elim
          (λ h. c.loop-i.invariant.2 x h some)
          (λ e. c.token_behind_at-token.ensures.fits (some_of_mark next.tokens _ c.in_ok-mark.mark next.is (subst (λ (z : MarkedRow). 0 < z.mark) (sym e) some)))
          (Contains-push_cases c.loop-i.marked.items marked x here)),
    )

pub loop-i-init : goal.loop-i-init
loop-i-init g c =
    let first = option_map norm_in c.args.difference.now.first in
    let none : (q : Seen) → get seen_cmp c.new-marks.result q ≡ None = λ q. grind (arith, c.new-marks.ensures.empty) in
    let m : IsMarked [] c.mark_of.new.marks first c.in_ok-first.first = c.in_ok-first.ensures [] (record { size = c.new-marks.ensures.len; apart = λ i j d less within. absurd (omega (arith, within)); each = marks_none norm_in (get seen_cmp c.new-marks.result) none }) in (
      (
        m.tokens,
        m.are,
        m.is,
        rw c.in_ok-marked.ensures.items (marking_none (λ (x : MarkedRow). token_behind (tokens_in c.args.files.now) x.row.first.place c.args.n) (λ x. x.row) (λ x. x.mark) m.tokens m.are.apart),
      ),
      omega arith,
      rw c.in_ok-marked.ensures.items (λ x here. absurd (Contains-nil x here)),
    )

pub returns-clause-rows : goal.returns-clause-rows
returns-clause-rows g c =
    let (seen, are, before, marking) = c.loop-i.invariant.0 in
    marking.keys ∙ take_all c.loop-i.i c.args.rows.now c.loop-i-test.false

pub returns-clause-marks : goal.returns-clause-marks
returns-clause-marks g c =
    let (seen, are, before, marking) = c.loop-i.invariant.0 in
    record { seen = seen; apart = marking.apart; marks = marking.marks }
