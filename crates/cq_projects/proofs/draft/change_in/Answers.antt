use Rattle.std.proofs.Common.{Global, Some, Option, sym, ap, ◌∙◌}
use Rattle.std.specs.Prelude.{option_map}
use Rattle.std.specs.declared.sync.Arc.{Arc}
use Rattle.cq_history.specs.Files.{File}
use Rattle.cq_projects.specs.Drafts.{number_in}
use Rattle.cq_projects.proofs.draft.change_in.Goals as goal

pub returns-in-Some : goal.returns-in-Some
returns-in-Some g c =
    ap (λ (h : File g.row.W.Denot). Some h.number) (c.behind-held.view_is ∙ c.deref.ensures)
    ∙ ap (λ (f : Option (Arc (File g.row.W.Denot) Global)). option_map number_in f) (sym c.in-Some.is)
