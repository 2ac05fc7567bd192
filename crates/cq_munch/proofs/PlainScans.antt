-- The scan of a name over characters of ASCII, by the table's states.
use Rattle.std.proofs.Common.{◌≡◌, ℕ, suc, ◌+◌, ◌<◌, ◌≤◌, ◌==◌, not, nat_lt, Some, None, true, List, [], ◌∷◌, length, get_or, if◌then◌else◌, refl, sym, ap, subst, ◌∙◌, ⊎_elim, arith}
use Rattle.std.proofs.lemmas.Bool.{eqb-true, eq-eqb, le-ltb, and_parts, not-true, both_ways, cases_lt}
use Rattle.std.proofs.lemmas.List.{length-map}
use Rattle.cq_munch.specs.Automata.{Tables, entry_at, RowAt}
use Rattle.cq_munch.specs.Behind.{each_below}
use Rattle.cq_munch.specs.Characters.{characters, seen_by}
use Rattle.cq_munch.specs.Lexed.{unit_at}
use Rattle.cq_munch.specs.PlainNames.{kind_at, begins_at, kind_fits, plain_fits, IsItselfBelow}
use Rattle.cq_munch.specs.Table.{starts}
use Rattle.cq_munch.specs.declared.unit.Unit.{Unit}
use Rattle.cq_munch.proofs.Fitting.{or_else-cases}
use Rattle.cq_munch.proofs.Front.{seen_at, as_many_seen}
use Rattle.cq_munch.proofs.Rowed.{Rowed, rowed_none, rowed_won, rowed_stopped, rowed_all}
use Rattle.cq_munch.proofs.Tables.{below_each}

-- what a kind says is told of characters of ASCII
low_kind : (kinds : List ℕ) (c k : ℕ) → kind_at kinds c ≡ k → (k ≡ 49 → ⊥) → c < 128
low_kind kinds c k is told = ⊎_elim (λ low. low) (λ high. absurd (told (sym is ∙ ap (λ b. if b then get_or kinds c 49 else 49) (le-ltb c 128 high)))) (cases_lt c 128)

module _ (kinds : List ℕ) (t : Tables) (state row : ℕ) (stood : ℕ → ℕ) (right : plain_fits kinds t state row ≡ true) (itself : IsItselfBelow 128 stood) where
  parts : (each_below 128 (kind_fits kinds t state) ≡ true) × ((get_or t.ends state 0 == suc row) ≡ true)
  unfolding plain_fits
  parts = and_parts (each_below 128 (kind_fits kinds t state)) _ right

  ends_there : get_or t.ends state 0 ≡ suc row
  ends_there = eqb-true _ _ parts.1

  fits_at : (c : ℕ) → c < 128 → kind_fits kinds t state c ≡ true
  fits_at c low = below_each 128 (kind_fits kinds t state) parts.0 c low

  begun : (c : ℕ) → kind_at kinds c ≡ 51 → entry_at t 0 (stood c) ≡ suc state
  begun c is =
      let low = low_kind kinds c 51 is (λ e. omega (arith, e)) in
      ap (entry_at t 0) (itself c low)
      ∙ ⊎_elim (λ other. absurd (both_ways (kind_at kinds c == 51) (not-true _ other) (eq-eqb _ _ is))) (λ leads. eqb-true _ _ leads)
      (or_else-cases (not (kind_at kinds c == 51)) (λ u. entry_at t 0 c == suc state) (and_parts _ _ (fits_at c low)).0)

  stays : (c : ℕ) → 50 ≤ kind_at kinds c → entry_at t state (stood c) ≡ suc state
  stays c goes =
      let low = low_kind kinds c (kind_at kinds c) refl (λ e. omega (arith, e, goes)) in
      ap (entry_at t state) (itself c low)
      ∙ ⊎_elim (λ other. absurd (both_ways (nat_lt (kind_at kinds c) 50) (le-ltb (kind_at kinds c) 50 goes) other)) (λ leads. eqb-true _ _ leads)
      (or_else-cases (nat_lt (kind_at kinds c) 50) (λ u. entry_at t state c == suc state) (and_parts _ _ (and_parts _ _ (fits_at c low)).1).0)

  ended : (c : ℕ) → kind_at kinds c ≡ 48 → entry_at t state (stood c) ≡ 0
  ended c is =
      let low = low_kind kinds c 48 is (λ e. omega (arith, e)) in
      ap (entry_at t state) (itself c low)
      ∙ ⊎_elim (λ other. absurd (both_ways (kind_at kinds c == 48) (not-true _ other) (eq-eqb _ _ is))) (λ leads. eqb-true _ _ leads)
      (or_else-cases (not (kind_at kinds c == 48)) (λ u. entry_at t state c == 0) (and_parts _ _ (and_parts _ _ (fits_at c low)).1).1)

  -- so many characters are a name, as far as it goes
  abbrev pub Plain : List Unit → ℕ → Type 0
  Plain units at = Rowed t (seen_by stood units) at state (Some (at, row))

  pub plain_one : (units : List Unit) → starts (begins_at kinds) (characters units) ≡ true → Plain units 1
  plain_one [] h = absurd (cc)
  plain_one (u ∷ units) h =
      rowed_won t (seen_by stood (u ∷ units)) 0 0 None (rowed_none t (seen_by stood (u ∷ units))) (stood u.ch) (omega arith) refl state (begun u.ch (eqb-true _ _ h)) row ends_there

  module _ (units : List Unit) (at : ℕ) (inside : at < length units) (so_far : Plain units at) where
    pub plain_more : 50 ≤ kind_at kinds (unit_at units at).ch → Plain units (at + 1)
    plain_more goes =
        rowed_won t (seen_by stood units) at state (Some (at, row)) so_far (stood (unit_at units at).ch) (as_many_seen stood units at inside) (seen_at stood units at inside) state
        (stays (unit_at units at).ch goes) row ends_there

    pub plain_ended : kind_at kinds (unit_at units at).ch ≡ 48 → RowAt t (seen_by stood units) (Some (at, row))
    plain_ended is =
        rowed_stopped t (seen_by stood units) at state (Some (at, row)) so_far (stood (unit_at units at).ch) (as_many_seen stood units at inside) (seen_at stood units at inside)
        (ended (unit_at units at).ch is)

  pub plain_all : (units : List Unit) (at : ℕ) → length units ≤ at → Plain units at → RowAt t (seen_by stood units) (Some (length units, row))
  plain_all units at end so_far =
      let many = length-map units (λ (u : Unit). stood u.ch) in
      let all = rowed_all t (seen_by stood units) at state (Some (at, row)) so_far (omega (arith, many, end)) in
      let within = all.0.within in
      let same : at ≡ length units = omega (arith, many, end, within) in
      subst (λ n. RowAt t (seen_by stood units) (Some (n, row))) same all
