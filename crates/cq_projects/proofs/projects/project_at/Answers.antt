use Rattle.std.specs.Arc.{arc_value}
use Rattle.std.specs.declared.sync.Arc.{Arc}
use Rattle.std.proofs.Common.{Global, [], length, ◌<◌, ◌≡◌, List, ℕ, sym, subst, subst₂, ap, ◌∙◌, arith}
use Rattle.cq_projects.specs.Projects.{owner_name, name_in, projects_in, files_in, conditions_in, position_of, ListedProject}
use Rattle.cq_projects.specs.Ordered.{AreRising, IsAt, IsGap}
use Rattle.cq_projects.proofs.OwnerLists.{position_at, found_within, added_rising, added_within, added_position, added_files, added_conditions}
use Rattle.cq_projects.proofs.Indexes.{gap_inside}
use Rattle.cq_projects.proofs.projects.project_at.Goals as goal

pub returns-in-Ok-clause-first : goal.returns-in-Ok-clause-first
returns-in-Ok-clause-first g c =
    position_at (arc_value c.args.name.now) c.args.projects.now.items c.in-Ok.i (subst₂ (λ n (ps : List (Arc (ListedProject g.row.W.Denot) Global)). IsAt owner_name n ps c.in-Ok.i) c.deref-2.ensures c.deref.ensures.value c.in-Ok.ensures.found)

pub returns-in-Ok-clause-within : goal.returns-in-Ok-clause-within
returns-in-Ok-clause-within g c =
    found_within (arc_value c.args.name.now) c.args.projects.now.items c.in-Ok.i (subst₂ (λ n (ps : List (Arc (ListedProject g.row.W.Denot) Global)). IsAt owner_name n ps c.in-Ok.i) c.deref-2.ensures c.deref.ensures.value c.in-Ok.ensures.found)

pub returns-in_ok-insert-in-Err-clause-names : goal.returns-in_ok-insert-in-Err-clause-names
returns-in_ok-insert-in-Err-clause-names g c =
    let gap = subst₂ (λ n (ps : List (Arc (ListedProject g.row.W.Denot) Global)). IsGap owner_name n ps c.in-Err.i) c.deref-2.ensures c.deref.ensures.value c.in-Err.ensures.gap in
    let held : arc_value c.in_ok-project-in-Err.project ≡ record { name = arc_value c.in_ok-name-in-Err.name; files = c.new.result; conditions = [] } = c.in_ok-project-in-Err.ensures.ok in
    let named : owner_name c.in_ok-project-in-Err.project ≡ arc_value c.args.name.now = ap name_in held ∙ c.in_ok-name-in-Err.ensures in
    subst (λ (ps : List (Arc (ListedProject g.row.W.Denot) Global)). AreRising owner_name ps) (sym c.in_ok-insert-in-Err.ensures.items) (added_rising (arc_value c.args.name.now) c.args.projects.now.items c.in-Err.i gap c.in_ok-project-in-Err.project named c.requires)

pub returns-in_ok-insert-in-Err-clause-first : goal.returns-in_ok-insert-in-Err-clause-first
returns-in_ok-insert-in-Err-clause-first g c =
    let gap = subst₂ (λ n (ps : List (Arc (ListedProject g.row.W.Denot) Global)). IsGap owner_name n ps c.in-Err.i) c.deref-2.ensures c.deref.ensures.value c.in-Err.ensures.gap in
    let held : arc_value c.in_ok-project-in-Err.project ≡ record { name = arc_value c.in_ok-name-in-Err.name; files = c.new.result; conditions = [] } = c.in_ok-project-in-Err.ensures.ok in
    let named : owner_name c.in_ok-project-in-Err.project ≡ arc_value c.args.name.now = ap name_in held ∙ c.in_ok-name-in-Err.ensures in
    subst (λ (ps : List (Arc (ListedProject g.row.W.Denot) Global)). c.in-Err.i ≡ position_of (arc_value c.args.name.now) (projects_in ps)) (sym c.in_ok-insert-in-Err.ensures.items) (added_position (arc_value c.args.name.now) c.args.projects.now.items c.in-Err.i gap c.in_ok-project-in-Err.project named)

pub returns-in_ok-insert-in-Err-clause-within : goal.returns-in_ok-insert-in-Err-clause-within
returns-in_ok-insert-in-Err-clause-within g c =
    let gap = subst₂ (λ n (ps : List (Arc (ListedProject g.row.W.Denot) Global)). IsGap owner_name n ps c.in-Err.i) c.deref-2.ensures c.deref.ensures.value c.in-Err.ensures.gap in
    let held : arc_value c.in_ok-project-in-Err.project ≡ record { name = arc_value c.in_ok-name-in-Err.name; files = c.new.result; conditions = [] } = c.in_ok-project-in-Err.ensures.ok in
    let named : owner_name c.in_ok-project-in-Err.project ≡ arc_value c.args.name.now = ap name_in held ∙ c.in_ok-name-in-Err.ensures in
    subst (λ (ps : List (Arc (ListedProject g.row.W.Denot) Global)). c.in-Err.i < length ps) (sym c.in_ok-insert-in-Err.ensures.items) (added_within (arc_value c.args.name.now) c.args.projects.now.items c.in-Err.i gap c.in_ok-project-in-Err.project named)

pub returns-in_ok-insert-in-Err-clause-files : goal.returns-in_ok-insert-in-Err-clause-files
returns-in_ok-insert-in-Err-clause-files g c =
    let gap = subst₂ (λ n (ps : List (Arc (ListedProject g.row.W.Denot) Global)). IsGap owner_name n ps c.in-Err.i) c.deref-2.ensures c.deref.ensures.value c.in-Err.ensures.gap in
    let held : arc_value c.in_ok-project-in-Err.project ≡ record { name = arc_value c.in_ok-name-in-Err.name; files = c.new.result; conditions = [] } = c.in_ok-project-in-Err.ensures.ok in
    let named : owner_name c.in_ok-project-in-Err.project ≡ arc_value c.args.name.now = ap name_in held ∙ c.in_ok-name-in-Err.ensures in
    subst (λ (ps : List (Arc (ListedProject g.row.W.Denot) Global)). (q : List ℕ) → files_in (projects_in ps) q ≡ files_in (projects_in c.args.projects.now.items) q) (sym c.in_ok-insert-in-Err.ensures.items)
    (added_files (arc_value c.args.name.now) c.args.projects.now.items c.in-Err.i gap c.in_ok-project-in-Err.project named (ap (λ (x : ListedProject g.row.W.Denot). x.files) held ∙ c.new.ensures))

pub returns-in_ok-insert-in-Err-clause-conditions : goal.returns-in_ok-insert-in-Err-clause-conditions
returns-in_ok-insert-in-Err-clause-conditions g c =
    let gap = subst₂ (λ n (ps : List (Arc (ListedProject g.row.W.Denot) Global)). IsGap owner_name n ps c.in-Err.i) c.deref-2.ensures c.deref.ensures.value c.in-Err.ensures.gap in
    let held : arc_value c.in_ok-project-in-Err.project ≡ record { name = arc_value c.in_ok-name-in-Err.name; files = c.new.result; conditions = [] } = c.in_ok-project-in-Err.ensures.ok in
    let named : owner_name c.in_ok-project-in-Err.project ≡ arc_value c.args.name.now = ap name_in held ∙ c.in_ok-name-in-Err.ensures in
    subst (λ (ps : List (Arc (ListedProject g.row.W.Denot) Global)). (q : List ℕ) → conditions_in (projects_in ps) q ≡ conditions_in (projects_in c.args.projects.now.items) q) (sym c.in_ok-insert-in-Err.ensures.items)
    (added_conditions (arc_value c.args.name.now) c.args.projects.now.items c.in-Err.i gap c.in_ok-project-in-Err.project named (ap (λ (p : ListedProject g.row.W.Denot). p.conditions) held))

pub find_project-requires : goal.find_project-requires
find_project-requires g c = subst (AreRising owner_name) (sym c.deref.ensures.value) c.requires

pub insert-requires : goal.insert-requires
insert-requires g c = omega (arith, gap_inside c.in-Err.ensures.gap, ap length c.deref.ensures.value, c.args.projects.now.ok.0)

pub returns-in_err-insert-in-Err-clause-names : goal.returns-in_err-insert-in-Err-clause-names
returns-in_err-insert-in-Err-clause-names g c = subst (AreRising owner_name) (sym c.in_err-insert-in-Err.ensures.items) c.requires

pub returns-in_err-insert-in-Err-clause-files : goal.returns-in_err-insert-in-Err-clause-files
returns-in_err-insert-in-Err-clause-files g c = λ q. ap (λ (ps : List (Arc (ListedProject g.row.W.Denot) Global)). files_in (projects_in ps) q) c.in_err-insert-in-Err.ensures.items

pub returns-in_err-insert-in-Err-clause-conditions : goal.returns-in_err-insert-in-Err-clause-conditions
returns-in_err-insert-in-Err-clause-conditions g c = λ q. ap (λ (ps : List (Arc (ListedProject g.row.W.Denot) Global)). conditions_in (projects_in ps) q) c.in_err-insert-in-Err.ensures.items
