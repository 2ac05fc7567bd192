use Rattle.std.proofs.Common.{sym, ap, ◌∙◌, refl, true≢false}
use Rattle.std.proofs.lemmas.Bool.{false≢true}
use Rattle.cq_history.specs.State.{is_done}
use Rattle.cq_board.proofs.Works.{text_there}
use Rattle.cq_board.proofs.SlotLists.{undone_kept, held_accepted}
use Rattle.cq_board.proofs.undone.undone_at.Goals as goal

pub returns-then-is_done-clause-some : goal.returns-then-is_done-clause-some
returns-then-is_done-clause-some g c = (
  λ none. absurd (false≢true none),
  λ undone. absurd (true≢false (sym c.if-is_done.true ∙ c.is_done.ensures ∙ ap is_done c.in-Some.ensures.slot ∙ undone.1)),
)

pub returns-else-is_done-clause-some : goal.returns-else-is_done-clause-some
returns-else-is_done-clause-some g c = (
  λ _. (held_accepted c.args.changes.now.slots c.args.changes.now.floor c.args.number (c.in-Some.ensures.some.0 refl), ap is_done (sym c.in-Some.ensures.slot) ∙ sym c.is_done.ensures ∙ c.if-is_done.false),
  λ _. refl,
)

pub returns-else-is_done-clause-text : goal.returns-else-is_done-clause-text
returns-else-is_done-clause-text g c =
    text_there (g.W.Indexed.IsWorkOf c.args.changes.now.settings) c.in-Some.kept.now (sym c.is_done.ensures ∙ c.if-is_done.false) c.in-Some.ensures.work

pub returns-in-None-clause-some : goal.returns-in-None-clause-some
returns-in-None-clause-some g c = (
  λ none. absurd (false≢true none),
  λ undone. absurd (false≢true (c.in-None.ensures.some.1 (undone_kept c.args.changes.now.slots c.args.changes.now.floor c.args.number c.requires undone))),
)
