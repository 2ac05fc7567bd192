use Rattle.std.proofs.Common.{ℕ, List, map, take, sym, ap, ap₂, ◌∙◌, subst}
use Rattle.std.specs.Arc.{arc_value}
use Rattle.cq_kept.specs.Slots.{changes_of}
use Rattle.cq_board.specs.Listings.{IsListing, listed}
use Rattle.cq_projects.specs.Projects.{ListedProject}
use Rattle.cq_board.proofs.listing.advanced_copy.Goals as goal

pub next_listing-requires-clause-listing : goal.next_listing-requires-clause-listing
next_listing-requires-clause-listing g c =
    subst (IsListing (g.W.Indexed.IsWorkOf c.args.changes.now.settings) (take c.args.before (changes_of c.args.changes.now.slots)))
    (sym (ap₂ (λ (ps : List (ListedProject g.row.W.Denot)) (ns : List ℕ). listed ps ns) (c.in_ok-drafts.ensures ∙ ap (map arc_value) c.deref.ensures.value) (c.in_ok-live.ensures.items ∙ c.deref-2.ensures.value) ∙ c.old.view_is)) c.requires.listing
