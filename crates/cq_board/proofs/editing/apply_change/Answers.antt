use Rattle.std.proofs.Common.{◌++◌}
use Rattle.std.specs.Arc.{arc_value}
use Rattle.cq_kept.specs.Slots.{change_of}
use Rattle.cq_board.specs.Listings.{listed}
use Rattle.cq_projects.specs.Projects.{projects_in}
use Rattle.cq_board.specs.Turnover.{left}
use Rattle.cq_projects.proofs.OwnerLists.{rising_owners, rising_projects}
use Rattle.cq_board.proofs.Newer.{newer_edit}
use Rattle.cq_board.proofs.Turning.{edit_adds}
use Rattle.cq_board.proofs.editing.apply_change.Goals as goal

pub edit_in-requires-clause-names : goal.edit_in-requires-clause-names
edit_in-requires-clause-names g c = let (changes, base, put, gone, n, is) = c.requires.before in rising_owners c.args.owners.now.items is.listing.names

pub edit_in-requires-clause-newer : goal.edit_in-requires-clause-newer
edit_in-requires-clause-newer g c =
    let (changes, base, put, gone, n, is) = c.requires.before in
    newer_edit (g.W.Indexed.IsWorkOf c.args.settings.now) changes (listed (projects_in c.args.owners.now.items) (left (base ++ put) gone)) is.listing c.args.number (change_of c.args.kept.now.change) c.in_ok-edit.edit (arc_value c.project_of.result.now) n c.in_ok-edit.ensures

pub returns-clause-next : goal.returns-clause-next
returns-clause-next g c =
    edit_adds (g.W.Indexed.IsWorkOf c.args.settings.now) c.args.number (change_of c.args.kept.now.change) c.in_ok-edit.edit c.in_ok-edit.ensures (projects_in c.args.owners.now.items) (projects_in c.edit_in.new.projects.items)
    (rising_projects c.edit_in.new.projects.items c.edit_in.ensures.names) (arc_value c.project_of.result.now) c.project_of.ensures
    c.edit_in.result c.edit_in.ensures.number c.edit_in.ensures.files c.edit_in.ensures.conditions

pub returns-in_err-edit-clause-names : goal.returns-in_err-edit-clause-names
returns-in_err-edit-clause-names g c = let (changes, base, put, gone, n, is) = c.requires.before in rising_owners c.args.owners.now.items is.listing.names
