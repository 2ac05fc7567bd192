use Rattle.std.proofs.Common.{[], true, false, refl, sym, ◌∙◌}
use Rattle.cq_history.specs.Lawful.{is_full, is_long}
use Rattle.cq_kept.specs.Slots.{change_of, state_from}
use Rattle.cq_board.proofs.Causes.{cause_is}
use Rattle.cq_board.proofs.refusing.refusal.Goals as goal

pub returns-then-is_absent : goal.returns-then-is_absent
returns-then-is_absent g c =
    let a = c.args.changes.now in
    let s = state_from a.slots 0 a.floor [] in
    let change = change_of c.args.change.now in
    sym (cause_is a.settings s change true (is_full a.settings s) (is_long a.settings s change) (sym c.is_absent.ensures ∙ c.if-is_absent.true) refl refl)

pub returns-then-is_full : goal.returns-then-is_full
returns-then-is_full g c =
    let a = c.args.changes.now in
    let s = state_from a.slots 0 a.floor [] in
    let change = change_of c.args.change.now in
    sym (cause_is a.settings s change false true (is_long a.settings s change) (sym c.is_absent.ensures ∙ c.if-is_absent.false) (sym c.is_full.ensures ∙ c.if-is_full.true) refl)

pub returns-then-is_long : goal.returns-then-is_long
returns-then-is_long g c =
    let a = c.args.changes.now in
    let s = state_from a.slots 0 a.floor [] in
    let change = change_of c.args.change.now in
    sym (cause_is a.settings s change false false true (sym c.is_absent.ensures ∙ c.if-is_absent.false) (sym c.is_full.ensures ∙ c.if-is_full.false) (sym c.is_long.ensures ∙ c.if-is_long.true))

pub returns : goal.returns
returns g c =
    let a = c.args.changes.now in
    let s = state_from a.slots 0 a.floor [] in
    let change = change_of c.args.change.now in
    sym (cause_is a.settings s change false false false (sym c.is_absent.ensures ∙ c.if-is_absent.false) (sym c.is_full.ensures ∙ c.if-is_full.false) (sym c.is_long.ensures ∙ c.if-is_long.false))
