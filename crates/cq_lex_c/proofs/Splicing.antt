-- What the splices leave lies in order, is no longer, and has what each unit has.
use Rattle.std.proofs.Common.{ℕ, zero, suc, ◌+◌, ◌-◌, ◌≤◌, List, [], ◌∷◌, length, arith}
use Rattle.std.specs.List.{AllByRecursion}
use Rattle.cq_munch.specs.declared.unit.Unit.{Unit}
use Rattle.cq_munch.specs.Lexed.{InOrder}
use Rattle.cq_munch.proofs.Orders.{InOrder-from}
use Rattle.cq_lex_c.specs.Splices.{splice_len, kept, spliced}

by_kept : (P : List Unit → Type 0) (n : ℕ) (u : Unit) (whole rest : List Unit) → P (u ∷ whole) → P rest → P (kept n u whole rest)
by_kept P zero u whole rest a b = a
by_kept P (suc n) u whole rest a b = b

pub spliced-InOrder : (n from to : ℕ) (units : List Unit) → InOrder from units to → InOrder from (spliced n units) to
unfolding spliced
spliced-InOrder n from to [] h = h
spliced-InOrder (suc n) from to (u ∷ us) h = InOrder-from from (u.start + u.len) (spliced n us) to (omega (arith, h.0)) (spliced-InOrder n (u.start + u.len) to us h.2)
spliced-InOrder zero from to (u ∷ us) h =
    let len = splice_len (u ∷ us) in
    by_kept (λ v. InOrder from v to) len u (spliced 0 us) (spliced (len - 1) us)
    (h.0, h.1, spliced-InOrder 0 (u.start + u.len) to us h.2)
    (InOrder-from from (u.start + u.len) (spliced (len - 1) us) to (omega (arith, h.0)) (spliced-InOrder (len - 1) (u.start + u.len) to us h.2))

pub length-spliced : (n : ℕ) (units : List Unit) → length (spliced n units) ≤ length units
unfolding spliced
length-spliced n [] = omega arith
length-spliced (suc n) (u ∷ us) = let rest = length-spliced n us in omega (arith, rest)
length-spliced zero (u ∷ us) =
    let len = splice_len (u ∷ us) in
    let whole = length-spliced 0 us in
    let rest = length-spliced (len - 1) us in
    by_kept (λ v. length v ≤ length (u ∷ us)) len u (spliced 0 us) (spliced (len - 1) us) (omega (arith, whole)) (omega (arith, rest))

pub spliced-all : (P : Unit → Type 0) (n : ℕ) (units : List Unit) → AllByRecursion P units → AllByRecursion P (spliced n units)
unfolding spliced
spliced-all P n [] h = h
spliced-all P (suc n) (u ∷ us) h = spliced-all P n us h.1
spliced-all P zero (u ∷ us) h =
    let len = splice_len (u ∷ us) in
    by_kept (AllByRecursion P) len u (spliced 0 us) (spliced (len - 1) us) (h.0, spliced-all P 0 us h.1) (spliced-all P (len - 1) us h.1)
