use Rattle.std.proofs.Common.{rules, ◌≡◌, List, length, get_or, replicate, sym, ◌∙◌, subst, Option, ℕ, ◌<◌}
use Rattle.atomic_table.specs.Table.{opening}
use Rattle.cq_cells.specs.Rule.{Kept}
use Rattle.cq_cells.specs.Steps.{first_view}
use Rattle.cq_cells.proofs.Keeps.{starts, blank_words}
use Rattle.cq_cells.proofs.locked.Locked.new.Goals as goal

pub new-requires : goal.new-requires
new-requires g c =
    let words = c.as_slice.result.now in
    let is = c.as_slice.ensures.value in
    let same = c.in_ok-slots.ensures in
    let n : ℕ = length c.args.values.items in
    let all : c.as_slice.result.now ≡ replicate n 0 = is ∙ search rules in
    let is_words : (length words ≡ n) × ((k : ℕ) → k < length words → get_or words k 0 ≡ 0) = blank_words words n all in
    subst (λ (l : List (Option g.row.I.Denot)). Kept (g.L.CellLaw.lawful c.args.about.now) (g.L.CellLaw.fits c.args.about.now) g.L.CellLaw.asks g.L.CellLaw.caller (g.L.CellLaw.total c.args.about.now) c.args.about.now (opening words l (first_view (g.L.CellLaw.total c.args.about.now) c.args.about.now))) (sym same)
    (starts g.L.CellLaw.lawful g.L.CellLaw.fits g.L.CellLaw.asks g.L.CellLaw.caller g.L.CellLaw.lasts g.L.CellLaw.total c.args.about.now words c.args.values.items c.requires.some.1 is_words.0 is_words.1 c.requires.lawful c.requires.fits)
