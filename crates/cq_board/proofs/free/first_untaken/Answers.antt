use Rattle.std.proofs.Common.{sym, ◌∙◌, subst}
use Rattle.cq_board.proofs.Undoing.{IsLeft, walk_begins, walk_ends, next_is_first_untaken}
use Rattle.cq_board.proofs.free.first_untaken.Goals as goal

pub returns-in-Some-clause-first : goal.returns-in-Some-clause-first
returns-in-Some-clause-first g c =
    next_is_first_untaken c.args.changes.now.slots c.args.undone.now c.args.start c.requires.undone c.range.ensures.ordered c.requires.before c.requires.behind c.in-Some.i.now c.next.new.self
    (sym (c.range.ensures.between tt) ∙ c.in-Some.ensures.steps)

pub returns-in-None-clause-first : goal.returns-in-None-clause-first
returns-in-None-clause-first g c =
    let slots = c.args.changes.now.slots in
    c.len.ensures
    ∙ walk_ends slots (subst (IsLeft slots) (sym (c.range.ensures.between tt) ∙ c.in-None.ensures.steps.0)
    (walk_begins slots c.args.undone.now c.args.start c.requires.undone c.range.ensures.ordered c.requires.before))
