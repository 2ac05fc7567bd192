-- The passes of seats: as they are made, and after a session.
use Rattle.std.proofs.Common.{◌≡◌, ◌-◌, ◌<◌, ℕ, zero, suc, List, [], ◌∷◌, ◌++◌, All, None, refl, sym, ap, subst, subst₂, arith}
use Rattle.std.proofs.lemmas.List.Elements.{All-push, All-tail}
use Rattle.cq_base.specs.declared.settings.Settings.{Settings}
use Rattle.cq_cells.specs.Passes.{by_of, with_child, child_of}
use Rattle.cq_chain.specs.Passes.{BoardPass}
use Rattle.cq_history.specs.declared.event.Event.{Event}
use Rattle.cq_history.specs.State.{state, view_of}
use Rattle.cq_shared.specs.declared.shared.Shared.{Shared}
use Rattle.cq_shared.specs.SharedPasses.{IsPassOf, SharedStands, callers_of, state_of}
use Rattle.cq_lines.specs.Calls.{fresh_held}
use Rattle.cq_lines.specs.Held.{Held}
use Rattle.cq_serve.proofs.Easing.{unmade_closed}
use Rattle.cq_listen.specs.Seats.{IsIdle, IsSeated}

module _ (set : Settings) where
  -- one more that is of these settings
  pub one_more_of : (old new : List Settings) (x : Settings) → new ≡ old ++ x ∷ [] → All (λ (s : Settings). s ≡ set) old → x ≡ set → All (λ (s : Settings). s ≡ set) new
  one_more_of old new x same all is = subst (All (λ (s : Settings). s ≡ set)) (sym same) (All-push (λ (s : Settings). s ≡ set) old x all is)

-- the rest of those that are
pub rest_of : {N : Type 0} (settings : N → Settings) (set : Settings) (old rest : List N) (x : N) → old ≡ x ∷ rest → All (λ n. settings n ≡ set) old → All (λ n. settings n ≡ set) rest
rest_of settings set old rest x same all = All-tail (λ n. settings n ≡ set) x rest (subst (All (λ n. settings n ≡ set)) same all)

-- the room that a split leaves
pub room_after : (p q : BoardPass) → q ≡ with_child p → q.room ≡ p.room - 1
room_after p q same = ap (λ (z : BoardPass). z.room) same

-- there is a next number if there is room
some_next : (next room : ℕ) → (next ≡ 0 → room ≡ 0) → 0 < room → 0 < next
some_next zero room later some = absurd (omega (arith, later refl, some))
some_next (suc n) room later some = omega arith

-- the limit of a cutter that was restarted
pub limit_of : (held : Held) (limit : ℕ) → held ≡ fresh_held limit → held.limit ≡ limit
limit_of held limit is = ap (λ (h : Held). h.limit) is

module _ {W R : Type 0} (hub : Shared W R) where
  -- its caller has no view open
  abbrev IsClosed : BoardPass → Type 0
  IsClosed p = view_of (state_of hub p.seen) (by_of p) ≡ None

  -- it stands for what it has seen
  pub stands : (p : BoardPass) → IsPassOf hub p → SharedStands hub p (by_of p) p.seen
  stands p of = record { is = of; caller = refl; seen = refl }

  -- a session leaves the seat as one
  pub seated_behind : (set : Settings) (p q : BoardPass) (c : ℕ) (h : List Event) → IsSeated set hub p → SharedStands hub q c h → view_of (state (callers_of hub) h) c ≡ None → IsSeated set hub q
  seated_behind set p q c h is new closed = record {
    in_range = is.in_range;
    settings = is.settings;
    idle = record { of = new.is; closed = subst₂ (λ (h : List Event) (n : ℕ). view_of (state (callers_of hub) h) n ≡ None) (sym new.seen) (sym new.caller) closed };
  }

  -- what a split leaves
  pub idle_after : (p q : BoardPass) → q ≡ with_child p → IsPassOf hub q → IsIdle hub p → IsIdle hub q
  idle_after p q same of idle = record { of = of; closed = subst IsClosed (sym same) idle.closed }

  -- and the pass of the caller that is made, of whom there is no event
  pub child_idle : (p child : BoardPass) → child ≡ child_of p → IsPassOf hub child → IsIdle hub p → 0 < p.room → IsIdle hub child
  child_idle p child same of idle room =
      record { of = of; closed = subst IsClosed (sym same) (unmade_closed (callers_of hub) p.next p.seen (idle.of.of.unmade (some_next p.next p.room idle.of.of.of.later room) p.next (omega arith))) }

  -- of passes that have no view open: the first one, and the rest
  pub first_idle : (passes rest : List BoardPass) (p : BoardPass) → passes ≡ p ∷ rest → All (IsIdle hub) passes → IsIdle hub p
  first_idle passes rest p same all = (subst (All (IsIdle hub)) same all) 0 p (omega arith)

  pub rest_idle : (passes rest : List BoardPass) (p : BoardPass) → passes ≡ p ∷ rest → All (IsIdle hub) passes → All (IsIdle hub) rest
  rest_idle passes rest p same all = All-tail (IsIdle hub) p rest (subst (All (IsIdle hub)) same all)
