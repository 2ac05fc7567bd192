use Rattle.std.proofs.Common.{◌-◌, ◌<◌, ◌≤◌, get_or, subst, arith}
use Rattle.std.proofs.lemmas.Bool.{OnTrue_from, leb-true}
use Rattle.std.proofs.lemmas.List.{get_or_default}
use Rattle.cq_base.specs.declared.entry.Entry.{Entry}
use Rattle.cq_tokfile.proofs.Indexing.{first_seen}
use Rattle.cq_tokfile.proofs.loaded.is_first.Goals.{else-at-gt0-via-then-at-gt0+else-entries-at, else-at-gt0-via-else-at-gt0}
use Rattle.cq_tokfile.proofs.loaded.is_first.Goals as goal

pub returns-then-at-entries-2 : goal.returns-then-at-entries-2
returns-then-at-entries-2 c =
    let entries = c.args.entries.now in
    let at = c.args.at in
    let key = c.args.key in
    let end = c.if-at-entries-2.true in
    let before : (d : Entry) → 0 < at → (get_or entries (at - 1) d).key < key = λ d some.
    elim c.else-at-gt0.branch [
      | else-at-gt0-via-then-at-gt0+else-entries-at w ↦ subst (λ (e : Entry). e.key < key) (get_or_default entries (at - 1) _ d (omega (arith, some, end))) w.if-entries-at.false
      | else-at-gt0-via-else-at-gt0 w ↦ let none = w.if-at-gt0.false in absurd (omega (arith, some, none))
    ] in
    OnTrue_from _ _ (λ is. first_seen key entries c.requires at c.if-at-entries.false before (λ d lt. absurd (omega (arith, end, lt))))

pub returns-else-at-entries-2 : goal.returns-else-at-entries-2
returns-else-at-entries-2 c =
    let entries = c.args.entries.now in
    let at = c.args.at in
    let key = c.args.key in
    let bound = c.if-at-entries.false in
    let before : (d : Entry) → 0 < at → (get_or entries (at - 1) d).key < key = λ d some.
    elim c.else-at-gt0.branch [
      | else-at-gt0-via-then-at-gt0+else-entries-at w ↦ subst (λ (e : Entry). e.key < key) (get_or_default entries (at - 1) _ d (omega (arith, some, bound))) w.if-entries-at.false
      | else-at-gt0-via-else-at-gt0 w ↦ let none = w.if-at-gt0.false in absurd (omega (arith, some, none))
    ] in
    OnTrue_from _ _ (λ is. first_seen key entries c.requires at bound before (λ d lt. subst (λ (e : Entry). key ≤ e.key) (get_or_default entries at _ d lt) (leb-true key _ is)))
