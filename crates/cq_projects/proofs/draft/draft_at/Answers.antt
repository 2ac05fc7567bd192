use Rattle.std.proofs.Common.{◌≡◌, ◌<◌, [], List, ℕ, length, sym, ap, ◌∙◌, subst, subst₂, arith}
use Rattle.std.specs.Arc.{arc_value}
use Rattle.cq_projects.specs.Projects.{ListedProject, name_in, files_in, conditions_in, position_of}
use Rattle.cq_projects.specs.Ordered.{AreRising, IsAt, IsGap}
use Rattle.cq_projects.proofs.OwnerLists.{listed_position, listed_within, listed_rising, listed_inserted, listed_first, listed_files, listed_conditions}
use Rattle.cq_projects.proofs.Indexes.{gap_inside}
use Rattle.cq_projects.proofs.draft.draft_at.Goals as goal

pub returns-in-Ok-clause-first : goal.returns-in-Ok-clause-first
returns-in-Ok-clause-first g c =
    listed_position (arc_value c.args.name.now) c.args.drafts.now.items c.in-Ok.i (subst₂ (λ n (ps : List (ListedProject g.row.W.Denot)). IsAt name_in n ps c.in-Ok.i) c.deref-2.ensures c.deref.ensures.value c.in-Ok.ensures.found)

pub returns-in-Ok-clause-within : goal.returns-in-Ok-clause-within
returns-in-Ok-clause-within g c =
    listed_within (arc_value c.args.name.now) c.args.drafts.now.items c.in-Ok.i (subst₂ (λ n (ps : List (ListedProject g.row.W.Denot)). IsAt name_in n ps c.in-Ok.i) c.deref-2.ensures c.deref.ensures.value c.in-Ok.ensures.found)

pub returns-in_ok-insert-in-Err-clause-names : goal.returns-in_ok-insert-in-Err-clause-names
returns-in_ok-insert-in-Err-clause-names g c =
    let gap = subst₂ (λ n (ps : List (ListedProject g.row.W.Denot)). IsGap name_in n ps c.in-Err.i) c.deref-2.ensures c.deref.ensures.value c.in-Err.ensures.gap in
    let made : c.of.result ≡ record { name = arc_value c.in_ok-name-in-Err.name; files = c.new.result; conditions = [] } = c.of.ensures ∙ c.in_ok-project-in-Err.ensures.ok in
    let named : c.of.result.name ≡ arc_value c.args.name.now = ap name_in made ∙ c.in_ok-name-in-Err.ensures in
    subst (λ (ps : List (ListedProject g.row.W.Denot)). AreRising name_in ps) (sym c.in_ok-insert-in-Err.ensures.items) (listed_rising (arc_value c.args.name.now) c.args.drafts.now.items c.in-Err.i gap c.of.result named c.requires)

pub returns-in_ok-insert-in-Err-clause-first : goal.returns-in_ok-insert-in-Err-clause-first
returns-in_ok-insert-in-Err-clause-first g c =
    let gap = subst₂ (λ n (ps : List (ListedProject g.row.W.Denot)). IsGap name_in n ps c.in-Err.i) c.deref-2.ensures c.deref.ensures.value c.in-Err.ensures.gap in
    let made : c.of.result ≡ record { name = arc_value c.in_ok-name-in-Err.name; files = c.new.result; conditions = [] } = c.of.ensures ∙ c.in_ok-project-in-Err.ensures.ok in
    let named : c.of.result.name ≡ arc_value c.args.name.now = ap name_in made ∙ c.in_ok-name-in-Err.ensures in
    subst (λ (ps : List (ListedProject g.row.W.Denot)). c.in-Err.i ≡ position_of (arc_value c.args.name.now) ps) (sym c.in_ok-insert-in-Err.ensures.items) (listed_first (arc_value c.args.name.now) c.args.drafts.now.items c.in-Err.i gap c.of.result named)

pub returns-in_ok-insert-in-Err-clause-within : goal.returns-in_ok-insert-in-Err-clause-within
returns-in_ok-insert-in-Err-clause-within g c =
    let gap = subst₂ (λ n (ps : List (ListedProject g.row.W.Denot)). IsGap name_in n ps c.in-Err.i) c.deref-2.ensures c.deref.ensures.value c.in-Err.ensures.gap in
    let made : c.of.result ≡ record { name = arc_value c.in_ok-name-in-Err.name; files = c.new.result; conditions = [] } = c.of.ensures ∙ c.in_ok-project-in-Err.ensures.ok in
    let named : c.of.result.name ≡ arc_value c.args.name.now = ap name_in made ∙ c.in_ok-name-in-Err.ensures in
    subst (λ (ps : List (ListedProject g.row.W.Denot)). c.in-Err.i < length ps) (sym c.in_ok-insert-in-Err.ensures.items) (listed_inserted (arc_value c.args.name.now) c.args.drafts.now.items c.in-Err.i gap c.of.result named)

pub returns-in_ok-insert-in-Err-clause-files : goal.returns-in_ok-insert-in-Err-clause-files
returns-in_ok-insert-in-Err-clause-files g c =
    let gap = subst₂ (λ n (ps : List (ListedProject g.row.W.Denot)). IsGap name_in n ps c.in-Err.i) c.deref-2.ensures c.deref.ensures.value c.in-Err.ensures.gap in
    let made : c.of.result ≡ record { name = arc_value c.in_ok-name-in-Err.name; files = c.new.result; conditions = [] } = c.of.ensures ∙ c.in_ok-project-in-Err.ensures.ok in
    let named : c.of.result.name ≡ arc_value c.args.name.now = ap name_in made ∙ c.in_ok-name-in-Err.ensures in
    subst (λ (ps : List (ListedProject g.row.W.Denot)). (q : List ℕ) → files_in ps q ≡ files_in c.args.drafts.now.items q) (sym c.in_ok-insert-in-Err.ensures.items)
    (listed_files (arc_value c.args.name.now) c.args.drafts.now.items c.in-Err.i gap c.of.result named (ap (λ (p : ListedProject g.row.W.Denot). p.files) made ∙ c.new.ensures))

pub returns-in_ok-insert-in-Err-clause-conditions : goal.returns-in_ok-insert-in-Err-clause-conditions
returns-in_ok-insert-in-Err-clause-conditions g c =
    let gap = subst₂ (λ n (ps : List (ListedProject g.row.W.Denot)). IsGap name_in n ps c.in-Err.i) c.deref-2.ensures c.deref.ensures.value c.in-Err.ensures.gap in
    let made : c.of.result ≡ record { name = arc_value c.in_ok-name-in-Err.name; files = c.new.result; conditions = [] } = c.of.ensures ∙ c.in_ok-project-in-Err.ensures.ok in
    let named : c.of.result.name ≡ arc_value c.args.name.now = ap name_in made ∙ c.in_ok-name-in-Err.ensures in
    subst (λ (ps : List (ListedProject g.row.W.Denot)). (q : List ℕ) → conditions_in ps q ≡ conditions_in c.args.drafts.now.items q) (sym c.in_ok-insert-in-Err.ensures.items)
    (listed_conditions (arc_value c.args.name.now) c.args.drafts.now.items c.in-Err.i gap c.of.result named (ap (λ (p : ListedProject g.row.W.Denot). p.conditions) made))

pub find-requires : goal.find-requires
find-requires g c = subst (AreRising name_in) (sym c.deref.ensures.value) c.requires

pub insert-requires : goal.insert-requires
insert-requires g c = omega (arith, gap_inside c.in-Err.ensures.gap, ap length c.deref.ensures.value, c.args.drafts.now.ok.0)

pub returns-in_err-insert-in-Err-clause-names : goal.returns-in_err-insert-in-Err-clause-names
returns-in_err-insert-in-Err-clause-names g c = subst (AreRising name_in) (sym c.in_err-insert-in-Err.ensures.items) c.requires

pub returns-in_err-insert-in-Err-clause-files : goal.returns-in_err-insert-in-Err-clause-files
returns-in_err-insert-in-Err-clause-files g c = λ q. ap (λ (ps : List (ListedProject g.row.W.Denot)). files_in ps q) c.in_err-insert-in-Err.ensures.items

pub returns-in_err-insert-in-Err-clause-conditions : goal.returns-in_err-insert-in-Err-clause-conditions
returns-in_err-insert-in-Err-clause-conditions g c = λ q. ap (λ (ps : List (ListedProject g.row.W.Denot)). conditions_in ps q) c.in_err-insert-in-Err.ensures.items
