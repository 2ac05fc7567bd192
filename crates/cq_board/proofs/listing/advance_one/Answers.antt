use Rattle.std.proofs.Common.{◌≡◌, ◌+◌, ◌-◌, List, take, sym, ap, ◌∙◌, subst, arith}
use Rattle.std.specs.Prelude.{OnOk, OnErr}
use Rattle.std.proofs.lemmas.List.Sums.{prefix_len_passes}
use Rattle.std.proofs.lemmas.Result.{on_ok_weaker, on_err_weaker}
use Rattle.cq_base.specs.declared.change.Change.{Change}
use Rattle.cq_base.specs.declared.settings.Settings.{Settings}
use Rattle.cq_history.specs.State.{Slot, no_slot, is_done}
use Rattle.cq_kept.specs.Slots.{slot_at, change_of, changes_of, IsWorked}
use Rattle.cq_board.specs.Listings.{IsListing, ListsTheSame}
use Rattle.cq_board.specs.Turnover.{IsListingBefore, ListsKept}
use Rattle.cq_board.proofs.Advances.{next_changes, done_within, length_before}
use Rattle.cq_board.proofs.Skipping.{held_behind}
use Rattle.cq_board.proofs.listing.advance_one.Goals as goal

pub kept_at-requires : goal.kept_at-requires
kept_at-requires g c = held_behind c.args.changes.now c.args.before c.args.version c.requires.one c.requires.behind c.requires.done

pub advance_own-requires-clause-done : goal.advance_own-requires-clause-done
advance_own-requires-clause-done g c =
    ap is_done c.kept_at.ensures.slot
    ∙ prefix_len_passes is_done c.args.changes.now.slots (c.args.version - 1) no_slot (omega (arith, c.requires.one, c.requires.done))

pub advance_own-requires-clause-work : goal.advance_own-requires-clause-work
advance_own-requires-clause-work g c = subst (λ (s : Settings). IsWorked (g.W.Indexed.IsWorkOf s) c.kept_at.result.now) (sym c.settings.ensures) c.kept_at.ensures.work

pub advance_own-requires-clause-listing : goal.advance_own-requires-clause-listing
advance_own-requires-clause-listing g c =
    let a = c.args.changes.now in
    let lt = done_within a.slots c.args.before c.args.version (omega (arith, c.requires.one)) c.requires.done in
    let changes : List Change = take c.args.before (changes_of a.slots) in
    subst (λ (s : Settings). IsListingBefore (g.W.Indexed.IsWorkOf s) c.args.version c.in-Some.own.now) (sym c.settings.ensures) (
      changes,
      length_before a.slots c.args.before lt ∙ c.requires.one,
      subst (IsListing (g.W.Indexed.IsWorkOf a.settings) changes) (sym c.in-Some.ensures.value) c.requires.listing,
    )

pub returns-in-Some-clause-next : goal.returns-in-Some-clause-next
returns-in-Some-clause-next g c =
    let a = c.args.changes.now in
    let IsWork = g.W.Indexed.IsWorkOf a.settings in
    let lt = done_within a.slots c.args.before c.args.version (omega (arith, c.requires.one)) c.requires.done in
    let changes : List Change = take c.args.before (changes_of a.slots) in
    let change : Change = change_of c.kept_at.result.now.change in
    let is : change ≡ (slot_at a.slots (c.args.before + 1)).change = ap (λ (s : Slot). s.change) c.kept_at.ensures.slot ∙ ap (λ v. (slot_at a.slots v).change) (sym c.requires.one) in
    let adds_one = subst (λ (s : Settings). OnOk c.advance_own.result (ListsKept (g.W.Indexed.IsWorkOf s) c.args.version c.kept_at.result.now c.in-Some.own.now c.advance_own.new.own)) c.settings.ensures c.advance_own.ensures.next in
    on_ok_weaker c.advance_own.result
    (λ adds. subst (λ cs. IsListing IsWork cs c.advance_own.new.own)
    (sym (next_changes a.slots c.args.before change lt is) ∙ ap (λ v. take v (changes_of a.slots)) c.requires.one)
    (adds changes (length_before a.slots c.args.before lt ∙ c.requires.one) (subst (IsListing IsWork changes) (sym c.in-Some.ensures.value) c.requires.listing)))
    adds_one

pub returns-in-Some-clause-unchanged : goal.returns-in-Some-clause-unchanged
returns-in-Some-clause-unchanged g c =
    let a = c.args.changes.now in
    let IsWork = g.W.Indexed.IsWorkOf a.settings in
    let changes : List Change = take c.args.before (changes_of a.slots) in
    let keeps_all = subst (λ (s : Settings). OnErr c.advance_own.result (ListsTheSame (g.W.Indexed.IsWorkOf s) c.in-Some.own.now c.advance_own.new.own)) c.settings.ensures c.advance_own.ensures.unchanged in
    on_err_weaker c.advance_own.result (λ keeps. keeps changes (subst (IsListing IsWork changes) (sym c.in-Some.ensures.value) c.requires.listing)) keeps_all
