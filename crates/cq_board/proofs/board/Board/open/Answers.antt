use Rattle.std.proofs.Common.{◌≡◌, ◌∙◌, refl, sym, ap, subst, subst₂, take, Some, length-set, rules}
use Rattle.std.proofs.lemmas.List.Elements.{All-take}
use Rattle.std.specs.Arc.{arc_value}
use Rattle.cq_base.specs.Changes.{IsSoundChange}
use Rattle.cq_history.specs.declared.event.Event.TheVariants as event
use Rattle.cq_history.specs.State.{changes_in, view_of}
use Rattle.cq_board.specs.Listings.{Listed, IsListing}
use Rattle.cq_kept.specs.Slots.{changes_of, state_from}
use Rattle.cq_board.specs.Sound.{HaveFewConditions}
use Rattle.cq_board.specs.Stands.{BoardState}
use Rattle.cq_board.proofs.Adding.{Adds_from}
use Rattle.cq_board.proofs.OneMore.{board_views}
use Rattle.cq_board.proofs.Sounding.{few_conditions}
use Rattle.cq_board.proofs.board.Board.open.Goals as goal

pub returns-clause-adds : goal.returns-clause-adds
returns-clause-adds g c =
    Adds_from c.self.inside.changes.settings (state_from c.self.inside.changes.slots c.self.inside.published c.self.inside.changes.floor c.self.inside.views.items) _ c.self.inside.events _ c.args.self.now _ (event.Open c.args.by c.self.inside.published) c.self.view_is refl refl refl c.requires.caller
    (refl, ap (λ (b : BoardState). view_of b.state c.args.by) c.self.view_is ∙ c.requires.closed) tt

pub invariant_of-self : goal.invariant_of-self
invariant_of-self g c =
    board_views (g.W.Indexed.IsWorkOf c.self.inside.changes.settings) c.self.inside.changes.settings c.self.inside.changes.slots c.self.inside.changes.floor c.self.inside.undone c.self.inside.free c.self.inside.published c.self.inside.listed (arc_value c.self.inside.listing) c.self.inside.views.items c.self.invariant _ (length-set c.self.inside.views.items c.args.by (Some c.self.inside.published))

pub returns-clause-listing : goal.returns-clause-listing
returns-clause-listing g c =
    let IsWork = g.W.Indexed.IsWorkOf in
    let of_published : c.self.inside.listed ≡ c.self.inside.published = search rules in
    subst (λ (b : BoardState). IsListing (IsWork b.settings) (take c.self.inside.published (changes_in b.state)) (arc_value c.in_ok-listing.listing)) c.self.view_is
    (subst₂ (λ n (l : Listed g.row.W.Denot). IsListing (IsWork c.self.inside.changes.settings) (take n (changes_of c.self.inside.changes.slots)) l) of_published (sym c.in_ok-listing.ensures) c.self.invariant.listing)

pub returns-clause-conditions : goal.returns-clause-conditions
returns-clause-conditions g c =
    let changes = changes_of c.self.inside.changes.slots in
    let IsWork = g.W.Indexed.IsWorkOf c.self.inside.changes.settings in
    subst (λ (l : Listed g.row.W.Denot). HaveFewConditions l.projects) (sym c.in_ok-listing.ensures)
    (few_conditions IsWork (take c.self.inside.listed changes) (arc_value c.self.inside.listing) (All-take IsSoundChange c.self.inside.listed changes c.self.invariant.sound) c.self.invariant.listing)
