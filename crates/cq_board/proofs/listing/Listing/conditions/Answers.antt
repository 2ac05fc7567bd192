use Rattle.std.proofs.Common.{List, [], Global, ap, sym, subst, ◌∙◌}
use Rattle.std.specs.Prelude.{option_map, unwrap_or}
use Rattle.std.specs.Arc.{arc_value}
use Rattle.std.specs.declared.sync.Arc.{Arc}
use Rattle.cq_board.specs.Listings.{Listed}
use Rattle.cq_projects.specs.Projects.{owner_name, conditions_in, ListedProject}
use Rattle.cq_projects.specs.Ordered.{IsAt, IsGap}
use Rattle.cq_board.proofs.Reading.{gate_found, gate_absent}
use Rattle.cq_board.proofs.listing.Listing.conditions.Goals as goal

pub returns-in-Some : goal.returns-in-Some
returns-in-Some g c =
    c.as_slice.ensures ∙ c.deref-in-Some.ensures
    ∙ ap (λ o. unwrap_or (option_map arc_value o) []) (sym c.in-Some.is) ∙ ap (λ (p : ListedProject g.row.W.Denot). p.conditions) (c.behind-index.view_is ∙ c.deref-in-Ok.ensures)
    ∙ gate_found c.args.project.now c.self.inside.projects.items c.in-Ok.i (subst (λ (ps : List (Arc (ListedProject g.row.W.Denot) Global)). IsAt owner_name c.args.project.now ps c.in-Ok.i) c.deref.ensures.value c.in-Ok.ensures.found) c.index.result.now c.index.ensures
    ∙ ap (λ (l : Listed g.row.W.Denot). conditions_in l.projects c.args.project.now) c.self.view_is

pub returns-in-None : goal.returns-in-None
returns-in-None g c =
    ap (λ o. unwrap_or (option_map arc_value o) []) (sym c.in-None.is) ∙ ap (λ (p : ListedProject g.row.W.Denot). p.conditions) (c.behind-index.view_is ∙ c.deref-in-Ok.ensures)
    ∙ gate_found c.args.project.now c.self.inside.projects.items c.in-Ok.i (subst (λ (ps : List (Arc (ListedProject g.row.W.Denot) Global)). IsAt owner_name c.args.project.now ps c.in-Ok.i) c.deref.ensures.value c.in-Ok.ensures.found) c.index.result.now c.index.ensures
    ∙ ap (λ (l : Listed g.row.W.Denot). conditions_in l.projects c.args.project.now) c.self.view_is

pub returns-in-Err : goal.returns-in-Err
returns-in-Err g c =
    gate_absent c.args.project.now c.self.inside.projects.items c.in-Err.field-0 (subst (λ (ps : List (Arc (ListedProject g.row.W.Denot) Global)). IsGap owner_name c.args.project.now ps c.in-Err.field-0) c.deref.ensures.value c.in-Err.ensures.gap)
    ∙ ap (λ (l : Listed g.row.W.Denot). conditions_in l.projects c.args.project.now) c.self.view_is
