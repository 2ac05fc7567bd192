use Rattle.std.proofs.Common.{rules, arith, ◌≡◌, ◌<◌, ◌+◌, ◌-◌, ◌^◌, nat_lt, ℕ, List, drop, true, false, slice_index_or, sym, ap, ap₂, ◌∙◌, subst}
use Rattle.std.proofs.lemmas.Bool.{lt-ltb}
use Rattle.std.proofs.lemmas.List.{drop_more, drop_all}
use Rattle.cq_base.specs.declared.token.Class.TheVariants.{Ident}
use Rattle.cq_base.specs.declared.token.Token.{Token}
use Rattle.cq_measures.specs.Extents.{has_bytes}
use Rattle.cq_measures.specs.Sorted.{greater}
use Rattle.cq_measures.proofs.CodeLines.{IsWalked, none_walked, walked_past, walked_more, walked_all}
use Rattle.cq_measures.proofs.counting.lines_in_order.Goals as goal

abbrev nothing : Token
nothing = record { class = Ident; start = 0; len = 0; first_line = 0; last_line = 0 }

pub loop-token-init : goal.loop-token-init
loop-token-init c = none_walked c.args.tokens.now

pub loop-token-preserved-then-token-eq0 : goal.loop-token-preserved-then-token-eq0
loop-token-preserved-then-token-eq0 c =
    let all = c.args.tokens.now in
    let at = c.loop-token.token-index in
    let t : Token = slice_index_or all at nothing in
    let none : has_bytes t ≡ false = ap (λ n. nat_lt 0 n) c.if-token-eq0.true in
    walked_past all (drop (at + 1) all) t c.loop-token.first c.loop-token.free c.loop-token.lines none
    (subst (λ (left : List Token). IsWalked all left c.loop-token.first c.loop-token.free c.loop-token.lines) (drop_more all at nothing c.loop-token-test.true) c.loop-token.invariant)

pub loop-token-preserved : goal.loop-token-preserved
loop-token-preserved c =
    let all = c.args.tokens.now in
    let at = c.loop-token.token-index in
    let free = c.loop-token.free in
    let lines = c.loop-token.lines in
    let left : List Token = drop (at + 1) all in
    let t : Token = slice_index_or all at nothing in
    let fits : t.last_line < 2 ^ 32 = search rules in
    let len = c.if-token-eq0.false in
    let some : has_bytes t ≡ true = bytes_there t len in
    let before = subst (λ (ts : List Token). IsWalked all ts c.loop-token.first free lines) (drop_more all at nothing c.loop-token-test.true) c.loop-token.invariant in
    let more = walked_more all left t c.loop-token.first free lines fits some c.if-token-first.false before in
    let free_is : c.greater-free.result ≡ greater (t.last_line + 1) free = c.greater-free.ensures ∙ ap (λ v. greater (v + 1) free) c.from-behind.ensures in
    let new_is : c.saturating_sub-lines.result ≡ t.last_line + 1 - greater t.first_line free =
    c.saturating_sub-lines.ensures ∙ ap₂ (λ a b. a + 1 - b) c.from-behind.ensures (c.greater.ensures ∙ ap (λ v. greater v free) c.from.ensures) in
    subst (λ (f : ℕ). IsWalked all left t.first_line f (lines + c.saturating_sub-lines.result)) (sym free_is)
    (subst (λ (n : ℕ). IsWalked all left t.first_line (greater (t.last_line + 1) free) (lines + n)) (sym new_is) more)
  where
    bytes_there : (t : Token) → (t.len ≡ 0 → ⊥) → has_bytes t ≡ true
    bytes_there t some = lt-ltb 0 t.len (omega (arith, some))

pub returns-clause-count : goal.returns-clause-count
returns-clause-count c =
    let all = c.args.tokens.now in
    walked_all all c.loop-token.first c.loop-token.free c.loop-token.lines
    (subst (λ (left : List Token). IsWalked all left c.loop-token.first c.loop-token.free c.loop-token.lines) (drop_all c.loop-token.token-index all c.loop-token-test.false) c.loop-token.invariant)

pub returns-clause-within : goal.returns-clause-within
returns-clause-within c = let within = c.loop-token.invariant.within in let small = c.loop-token.invariant.small in omega (arith, within, small)
