use Rattle.std.proofs.Common.{◌+◌, get_or, ap, ⊎_elim, sym, arith, ◌∙◌}
use Rattle.std.proofs.lemmas.Bool.{cases_eq}
use Rattle.std.proofs.lemmas.List.{get_or_default}
use Rattle.cq_base.specs.declared.entry.Entry.{Entry}
use Rattle.cq_tokfile.proofs.Indexing.{first_seen}
use Rattle.cq_tokfile.proofs.loaded.end_of.Goals as goal

pub returns-else-entries-to-clause-first : goal.returns-else-entries-to-clause-first
returns-else-entries-to-clause-first c =
    let entries = c.args.entries.now in
    let key = c.args.key in
    let to = c.walk.to in
    let was = c.walk.invariant in
    let other = c.if-entries-to.false in
    first_seen (key + 1) entries c.requires.ordered to was.bound (λ d some. was.lesser _ d (omega arith) (omega (arith, some)))
    (λ d lt.
    let least = c.requires.first.others to d was.further lt in
    let same = ap (λ (e : Entry). e.key) (get_or_default entries to d (record { key = 0; change = 0; at = 0 }) lt) in
    ⊎_elim (λ equal. absurd (other (sym same ∙ equal))) (λ apart. omega (arith, least, apart)) (cases_eq (get_or entries to d).key key))
