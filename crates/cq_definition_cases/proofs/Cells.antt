-- What may not become of cells, and of the passes that hold them. A shard is the number of changes that it has applied.
use Rattle.std.specs.Prelude.{◌≡◌, ◌⊎◌, ℕ, ◌+◌, List, [], ◌∷◌, length, Option, None}
use Rattle.std.proofs.Common.{arith, ap, refl, inl, inr}
use Rattle.cq_cells.specs.Callers.{longer}
use Rattle.cq_cells.specs.Passes.{HasReached, HasShard, MayLeave, PassState, least}
use Rattle.cq_cells.specs.Rule.{HandOk}
use Rattle.cq_cells.specs.declared.item.Item.{Item}
use Rattle.cq_cells.specs.declared.view.Hand.TheVariants.{Has}
use Rattle.cq_cells.specs.declared.view.View.{View}
use Rattle.cq_cells.proofs.Fronts.{prefix_self}

-- a shard is right with its own count, whatever came
abbrev is_right : List ℕ → ℕ → ℕ → ℕ → Type 0
is_right log shard applied x = applied ≡ x

abbrev any : List ℕ → Type 0
any log = Unit {0}

module _ (p : PassState (Item ℕ ℕ) ℕ ℕ) (has : HasShard p 0 1) where
  pub a_shard_is_put_back_with_its_own_count : MayLeave any is_right p 0 2 1 → ⊥
  a_shard_is_put_back_with_its_own_count may = let same = (may 1 has p.seen 1 tt (prefix_self p.seen) refl).0 in omega (arith, same)

  pub a_shard_is_put_back_with_one_change_more_at_most : MayLeave any is_right p 0 3 3 → ⊥
  a_shard_is_put_back_with_one_change_more_at_most may = of 3 refl (may 1 has p.seen 1 tt (prefix_self p.seen) refl).1
    where
      of : (n : ℕ) → n ≡ 3 → (n ≡ 1) ⊎ (n ≡ 1 + 1) → ⊥
      of n three (inl same) = omega (arith, three, same)
      of n three (inr next) = omega (arith, three, next)

pub what_is_put_back_is_the_shard_that_was_taken : (p q : PassState (Item ℕ ℕ) ℕ ℕ) → least p 0 ≡ 0 → least q 0 ≡ 1 → HasReached 1 1 p q → ⊥
what_is_put_back_is_the_shard_that_was_taken p q none one reached = let same = reached.elsewhere 0 (λ e. omega (arith, e)) in omega (arith, none, one, same)

pub the_longer_history_is_kept : longer {A = ℕ} (7 ∷ []) (7 ∷ 8 ∷ []) ≡ 7 ∷ [] → ⊥
the_longer_history_is_kept e = omega (arith, ap (λ (log : List ℕ). length log) e)

pub no_cell_is_in_two_hands :
    (lawful : List ℕ → Type 0) (fits : List ℕ → ℕ → ℕ → ℕ → Type 0) (asks : ℕ → ℕ) (caller : ℕ → Option ℕ) (log words : List ℕ) (owner : ℕ → ℕ) (v w : View ℕ ℕ ℕ) (x y : ℕ)
    → HandOk lawful fits asks caller log words owner 0 v (Has 1 x None) → HandOk lawful fits asks caller log words owner 1 w (Has 1 y None) → ⊥
no_cell_is_in_two_hands lawful fits asks caller log words owner v w x y first second =
    let mine : owner 1 ≡ 0 = first.2 in let other : owner 1 ≡ 1 = second.2 in omega (arith, mine, other)
