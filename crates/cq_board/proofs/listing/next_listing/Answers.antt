use Rattle.std.specs.Arc.{arc_value}
use Rattle.std.specs.Prelude.{IsNone}
use Rattle.std.proofs.Common.{◌-◌, ◌++◌, ◌∷◌, [], ap, ◌∙◌, map, refl, sym, subst, subst₂, arith}
use Rattle.std.proofs.lemmas.List.Sums.{prefix_len-le-length, prefix_len_passes}
use Rattle.cq_base.specs.declared.change.Change.{Change}
use Rattle.cq_base.specs.declared.settings.Settings.{Settings}
use Rattle.cq_history.specs.State.{Slot, no_slot, is_done}
use Rattle.cq_kept.specs.Slots.{change_of, IsWorked}
use Rattle.cq_board.specs.Listings.{listed}
use Rattle.cq_board.specs.Turnover.{IsBefore, IsNext, AddsKept}
use Rattle.cq_projects.specs.Ordered.{AreRising}
use Rattle.cq_projects.specs.Projects.{name_in}
use Rattle.cq_projects.proofs.OwnerLists.{rising_owners}
use Rattle.cq_board.proofs.Newer.{all_apart}
use Rattle.cq_board.proofs.Turning.{next_first, next_listed}
use Rattle.cq_board.proofs.Skipping.{blanks, blanks_long, blanks_more, done_few, skip, skip_before, to_blanks, from_blanks}
use Rattle.cq_board.proofs.listing.next_listing.Goals as goal

pub loop-number-init : goal.loop-number-init
loop-number-init g c =
    let a = c.args.changes.now in
    let IsWork = g.W.Indexed.IsWorkOf a.settings in
    record {
      order = c.requires.order;
      next = subst₂ (λ put gone. IsNext IsWork (blanks a c.args.before) c.args.live.items c.args.drafts.items put gone) (sym c.new-turnover.ensures.put) (sym c.new-turnover.ensures.gone)
          (next_first IsWork (blanks a c.args.before) (listed c.args.drafts.items c.args.live.items) (to_blanks a IsWork c.args.before (done_few a.slots c.args.before (omega (arith, c.requires.order, c.requires.done))) c.requires.from _ c.requires.listing));
    }

pub next_up_to-requires : goal.next_up_to-requires
next_up_to-requires g c = omega (arith, c.loop-number.invariant.order, c.requires.done, prefix_len-le-length is_done c.args.changes.now.slots)

pub draft_change-requires-clause-done : goal.draft_change-requires-clause-done
draft_change-requires-clause-done g c =
    let next = c.in-Some.ensures.next in
    ap is_done c.in-Some.ensures.slot
    ∙ prefix_len_passes is_done c.args.changes.now.slots (c.in-Some.number - 1) no_slot (omega (arith, next.behind, c.in-Some.ensures.within, c.requires.done))

pub draft_change-requires-clause-work : goal.draft_change-requires-clause-work
draft_change-requires-clause-work g c = subst (λ (s : Settings). IsWorked (g.W.Indexed.IsWorkOf s) c.in-Some.kept.now) (sym c.settings.ensures) c.in-Some.ensures.work

pub draft_change-requires-clause-before : goal.draft_change-requires-clause-before
draft_change-requires-clause-before g c =
    let a = c.args.changes.now in
    let next = c.in-Some.ensures.next in
    subst (λ (s : Settings). IsBefore (g.W.Indexed.IsWorkOf s) c.in-Some.number c.loop-number.drafts.items) (sym c.settings.ensures) (
      blanks a (c.in-Some.number - 1),
      c.args.live.items,
      c.loop-number.turnover.put.items,
      c.loop-number.turnover.gone.items,
      blanks_long a c.in-Some.number next.held,
      skip_before a (g.W.Indexed.IsWorkOf a.settings) c.loop-number.at c.in-Some.number next _ _ _ _ c.loop-number.invariant.next,
    )

pub loop-number-preserved : goal.loop-number-preserved
loop-number-preserved g c =
    let a = c.args.changes.now in
    let IsWork = g.W.Indexed.IsWorkOf a.settings in
    let next = c.in-Some.ensures.next in
    let number = c.in-Some.number in
    let kept = c.in-Some.kept.now in
    let change : Change = change_of kept.change in
    let adds = subst (λ (s : Settings). AddsKept (g.W.Indexed.IsWorkOf s) number kept c.loop-number.drafts.items c.draft_change.new.drafts.items c.in_ok-replaced.replaced) c.settings.ensures c.in_ok-replaced.ensures.next in
    record {
      order = c.in-Some.ensures.within;
      next = subst (λ cs. IsNext IsWork cs c.args.live.items c.draft_change.new.drafts.items c.note.new.gone.items c.note-in-Some.new.gone.items)
          (sym (blanks_more a number change next.held (ap (λ (s : Slot). s.change) c.in-Some.ensures.slot)))
          (subst₂ (λ put gone. IsNext IsWork (blanks a (number - 1) ++ change ∷ []) c.args.live.items c.draft_change.new.drafts.items put gone)
          (sym (c.in_ok-note.ensures ∙ ap (λ xs. c.loop-number.turnover.put.items ++ xs) c.put_number.ensures)) (sym c.in_ok-note-2.ensures)
          (adds (blanks a (number - 1)) c.args.live.items c.loop-number.turnover.put.items c.loop-number.turnover.gone.items (blanks_long a number next.held)
          (skip_before a IsWork c.loop-number.at number next _ _ _ _ c.loop-number.invariant.next)));
    }

pub finished_all-requires : goal.finished_all-requires
finished_all-requires g c = record { apart = all_apart (g.W.Indexed.IsWorkOf c.args.changes.now.settings) (blanks c.args.changes.now c.loop-number.at) _ c.loop-number.invariant.next.listing }

pub turn-requires : goal.turn-requires
turn-requires g c = c.loop-number.invariant.next.rising

pub invariant_of-result : goal.invariant_of-result
invariant_of-result g c =
    (rising_owners c.in_ok-projects.projects.items (subst (AreRising name_in) (sym c.in_ok-projects.ensures) c.loop-number.invariant.next.listing.names), c.new.ensures)

pub returns : goal.returns
returns g c =
    let a = c.args.changes.now in
    let IsWork = g.W.Indexed.IsWorkOf a.settings in
    let within = done_few a.slots c.args.version c.requires.done in
    let none = c.next_up_to.ensures.none (subst IsNone (sym c.in_default.is) refl) in
    let next = skip a IsWork c.loop-number.at c.args.version c.loop-number.invariant.order within none _ _ _ _ c.loop-number.invariant.next in
    from_blanks a IsWork c.args.version within c.requires.floor _
    (next_listed IsWork (blanks a c.args.version) c.args.live.items c.loop-number.drafts.items c.loop-number.turnover.put.items c.loop-number.turnover.gone.items (listed (map arc_value c.in_ok-projects.projects.items) c.turn.new.live.items)
    next c.in_ok-projects.ensures c.in_ok-turn.ensures.rising c.in_ok-turn.ensures.each)
