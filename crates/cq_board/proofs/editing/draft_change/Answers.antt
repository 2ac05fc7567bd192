use Rattle.std.specs.Arc.{arc_value}
use Rattle.cq_kept.specs.Slots.{change_of}
use Rattle.cq_board.proofs.Turning.{draft_adds}
use Rattle.cq_board.proofs.editing.draft_change.Goals as goal

pub edit_draft-requires : goal.edit_draft-requires
edit_draft-requires g c = let (changes, base, put, gone, n, is) = c.requires.before in is.listing.names

pub returns : goal.returns
returns g c = record {
  next = draft_adds (g.W.Indexed.IsWorkOf c.args.settings.now) c.args.number (change_of c.args.kept.now.change) c.in_ok-edit.edit c.in_ok-edit.ensures c.args.drafts.now.items c.edit_draft.new.drafts.items
      (arc_value c.project_of.result.now) c.project_of.ensures
      c.edit_draft.result c.edit_draft.ensures.names c.edit_draft.ensures.number c.edit_draft.ensures.files c.edit_draft.ensures.conditions;
}
