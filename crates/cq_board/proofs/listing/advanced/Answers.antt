use Rattle.std.proofs.Common.{List, take, sym, ap, ◌∙◌, subst}
use Rattle.cq_kept.specs.Slots.{changes_of}
use Rattle.cq_board.specs.Listings.{IsListing, listed}
use Rattle.cq_projects.specs.Projects.{ListedProject}
use Rattle.cq_board.proofs.listing.advanced.Goals as goal

pub next_listing-requires-clause-listing : goal.next_listing-requires-clause-listing
next_listing-requires-clause-listing g c =
    subst (IsListing (g.W.Indexed.IsWorkOf c.args.changes.now.settings) (take c.args.before (changes_of c.args.changes.now.slots)))
    (sym (ap (λ (ps : List (ListedProject g.row.W.Denot)). listed ps c.old.inside.live.items) c.in_ok-drafts.ensures ∙ c.old.view_is)) c.requires.listing
