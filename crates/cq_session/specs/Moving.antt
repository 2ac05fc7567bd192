-- The laws of these moves.
use Rattle.std.proofs.Common.{ℕ, ◌≤◌, List, [], length, take, refl, sym, ap, ◌∙◌, subst, arith}
use Rattle.std.specs.Arc.{arc_value}
use Rattle.std.proofs.lemmas.List.{take-append-le}
use Rattle.std.proofs.lemmas.List.Sums.{prefix_len-le-length}
use Rattle.cq_base.specs.declared.lang.Lang.{Lang}
use Rattle.cq_base.specs.declared.settings.Settings.{Settings}
use Rattle.cq_history.specs.declared.event.Event.{Event}
use Rattle.cq_history.specs.State.{state, accepted, is_done}
use Rattle.cq_history.specs.Lawful.{Lawful}
use Rattle.cq_history.proofs.Bounds.{in_order}
use Rattle.cq_history.proofs.Prefixes.{changes_in-state}
use Rattle.cq_board.specs.Listings.{IsListing}
use Rattle.cq_board.specs.declared.listing.View.{View}
use Rattle.cq_hub.specs.Hubs.{Grows, Never}
use Rattle.cq_hub.specs.Views.{IsOpen}
use Rattle.cq_history.proofs.Doing.{slots_number}
use Rattle.cq_hub.proofs.Growing.{grows_none, grows_then, view_grows, more_accepted}
use Rattle.cq_session.specs.Moves.{Carried, Moves, MovesTo}

-- an open version is one of the accepted changes
pub open_within : {W : Type 0} (IsWork : Lang → List ℕ → W → Type 0) (set : Settings) (callers c : ℕ) (v : View W) (h : List Event) → Lawful set callers h → IsOpen IsWork (state callers h) c v → v.version ≤ length (accepted h)
open_within IsWork set callers c v h law opened =
    let order = in_order set callers h law in
    let low = (order.views c v.version opened.version).1 in
    let next = order.published in
    let few = prefix_len-le-length is_done (state callers h).slots in
    let number = slots_number callers h in
    omega (arith, low, next, few, number)

-- a view that is open stays so, and is of the same version of the changes
pub open_stays : {W : Type 0} (IsWork : Lang → List ℕ → W → Type 0) (set : Settings) (callers c : ℕ) (alone : Type 0) (v : View W) (h later : List Event) → Lawful set callers h → IsOpen IsWork (state callers h) c v → Grows alone Never c h later [] → IsOpen IsWork (state callers later) c v
open_stays IsWork set callers c alone v h later law opened grows =
    let order = in_order set callers h law in
    let low = (order.views c v.version opened.version).1 in
    let next = order.published in
    let few = prefix_len-le-length is_done (state callers h).slots in
    let number = slots_number callers h in
    let within : v.version ≤ length (accepted h) = omega (arith, low, next, few, number) in
    record {
      version = view_grows callers alone Never c h later [] grows tt ∙ opened.version;
      shows = subst (λ cs. IsListing IsWork cs (arc_value v.listing)) (ap (take v.version) (changes_in-state callers h) ∙ sym (ap (take v.version) (changes_in-state callers later ∙ more_accepted callers alone Never c h later [] grows) ∙ take-append-le v.version (accepted h) (accepted grows.more) within)) opened.shows;
    }

module _ {S P W : Type 0} (Stands : S → P → ℕ → List Event → Type 0) (callers : S → ℕ) (alone : Type 0) (asked : P → ℕ) (IsWork : S → Lang → List ℕ → W → Type 0) where
  pub moves_none : (b : Carried S (View W) P) → MovesTo Stands callers alone asked IsWork b b
  moves_none b = record { same_hub = refl; same_view = refl; same_pass = refl; moves = λ c h stands opened. record { after = h; grows = grows_none alone c Never h; stands = stands; opened = opened }; no_fewer = omega arith }

  pub moves_then : (b d e : Carried S (View W) P) → MovesTo Stands callers alone asked IsWork b d → MovesTo Stands callers alone asked IsWork d e → MovesTo Stands callers alone asked IsWork b e
  moves_then b d e one two =
      let then : Moves Stands (callers b.hub) alone (IsWork b.hub) b.hub b.shown d.pass e.pass =
      subst (λ (v : View W). Moves Stands (callers b.hub) alone (IsWork b.hub) b.hub v d.pass e.pass) one.same_view
      (subst (λ (x : S). Moves Stands (callers x) alone (IsWork x) x d.shown d.pass e.pass) one.same_hub two.moves) in
      record {
        same_hub = two.same_hub ∙ one.same_hub;
        same_view = two.same_view ∙ one.same_view;
        same_pass = two.same_pass ∙ one.same_pass;
        moves = λ c h stands opened.
            let first = one.moves c h stands opened in
            let second = then c first.after first.stands first.opened in
            record { after = second.after; grows = grows_then alone c Never h first.after second.after [] [] first.grows second.grows; stands = second.stands; opened = second.opened };
        no_fewer = omega (arith, one.no_fewer, two.no_fewer);
      }
