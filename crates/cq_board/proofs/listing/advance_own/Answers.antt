use Rattle.std.proofs.Common.{◌++◌, ◌∷◌, [], ℕ, List, refl, sym, subst, subst₂}
use Rattle.std.specs.Prelude.{◌↔◌, Contains}
use Rattle.std.specs.List.Sorted.{IsStrictlyIncreasing}
use Rattle.cq_kept.specs.Slots.{change_of}
use Rattle.cq_board.specs.Edits.{put_by}
use Rattle.cq_board.specs.Listings.{IsListing, listed}
use Rattle.cq_projects.specs.Projects.{projects_in}
use Rattle.cq_board.specs.Turnover.{from_option}
use Rattle.cq_projects.proofs.OwnerLists.{rising_projects}
use Rattle.cq_board.proofs.Turning.{always_err, next_first, next_listed, listing_same}
use Rattle.cq_board.proofs.listing.advance_own.Goals as goal

pub apply_change-requires-clause-before : goal.apply_change-requires-clause-before
apply_change-requires-clause-before g c =
    let IsWork = g.W.Indexed.IsWorkOf c.args.settings.now in
    let (changes, n, is) = c.requires.listing in
    (changes, c.own.inside.live.items, [], [], n, next_first IsWork changes (listed (projects_in c.own.inside.projects.items) c.own.inside.live.items) (subst (IsListing IsWork changes) (sym c.own.view_is) is))

pub returns-in_err-replaced-clause-unchanged : goal.returns-in_err-replaced-clause-unchanged
returns-in_err-replaced-clause-unchanged g c =
    let IsWork = g.W.Indexed.IsWorkOf c.args.settings.now in
    always_err c.from_residual-in_err-replaced.result (λ changes is.
    listing_same IsWork changes (listed (projects_in c.own.inside.projects.items) c.own.inside.live.items) (listed (projects_in c.apply_change.new.owners.items) c.reserve.new.self.items)
    (subst (IsListing IsWork changes) (sym c.own.view_is) is) c.in_err-replaced.ensures.unchanged (rising_projects c.apply_change.new.owners.items c.apply_change.ensures.names) c.in_ok-reserve.ensures.items)

pub turn_one-requires-clause-rising : goal.turn_one-requires-clause-rising
turn_one-requires-clause-rising g c =
    let IsWork = g.W.Indexed.IsWorkOf c.args.settings.now in
    let (changes, n, is) = c.requires.listing in
    let first = next_first IsWork changes (listed (projects_in c.own.inside.projects.items) c.own.inside.live.items) (subst (IsListing IsWork changes) (sym c.own.view_is) is) in
    let next = c.in_ok-replaced.ensures.next changes c.own.inside.live.items [] [] n first in
    subst₂ (λ (xs ys : List ℕ). IsStrictlyIncreasing (xs ++ ys)) (sym c.in_ok-reserve.ensures.items) (sym c.put_number.ensures) next.rising

pub returns-clause-next : goal.returns-clause-next
returns-clause-next g c changes n is =
    let IsWork = g.W.Indexed.IsWorkOf c.args.settings.now in
    let first = next_first IsWork changes (listed (projects_in c.own.inside.projects.items) c.own.inside.live.items) (subst (IsListing IsWork changes) (sym c.own.view_is) is) in
    let next = c.in_ok-replaced.ensures.next changes c.own.inside.live.items [] [] n first in
    let gone : List ℕ = from_option c.in_ok-replaced.replaced in
    next_listed IsWork (changes ++ change_of c.args.kept.now.change ∷ []) c.own.inside.live.items (projects_in c.apply_change.new.owners.items) (put_by (change_of c.args.kept.now.change) c.args.number) gone
    (listed (projects_in c.apply_change.new.owners.items) c.turn_one.new.live.items) next refl c.turn_one.ensures.rising
    (λ r. subst₂ (λ (xs ys : List ℕ). Contains c.turn_one.new.live.items r ↔ (Contains (xs ++ ys) r × (Contains gone r → ⊥))) c.in_ok-reserve.ensures.items c.put_number.ensures (c.turn_one.ensures.each r))
