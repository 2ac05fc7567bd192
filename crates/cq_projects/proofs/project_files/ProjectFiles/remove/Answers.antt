use Rattle.std.proofs.Common.{Global, List, Some, length, map, sym, ap, ◌∙◌, subst, arith}
use Rattle.std.specs.Arc.{arc_value}
use Rattle.std.specs.declared.sync.Arc.{Arc}
use Rattle.std.proofs.lemmas.List.{length-map}
use Rattle.cq_history.specs.Files.{File, without_file, number_at}
use Rattle.cq_projects.specs.Projects.{path_in}
use Rattle.cq_projects.specs.Ordered.{AreRising, IsAt, IsGap}
use Rattle.cq_projects.specs.Spotted.{AreSpotted}
use Rattle.cq_projects.proofs.Indexes.{at_inside}
use Rattle.cq_projects.proofs.OwnerLists.{rising_held}
use Rattle.cq_projects.proofs.Putting.{removed_at, number_at_index, none_at, no_number_at}
use Rattle.cq_projects.proofs.SpottedFiles.{spotted_remove}
use Rattle.cq_projects.proofs.project_files.ProjectFiles.remove.Goals as goal

pub find-requires : goal.find-requires
find-requires g c = subst (AreRising path_in) (sym c.deref.ensures.value) (rising_held c.self.inside.items.items c.self.invariant.rising)

pub invariant_of-self : goal.invariant_of-self
invariant_of-self g c =
    let hs = c.self.inside.items.items in
    subst (λ (ks : List (Arc (File g.row.W.Denot) Global)). AreSpotted (map arc_value ks) c.remove.new.self) (sym c.remove-held.ensures.items)
    (spotted_remove hs c.self.inside.spots c.self.invariant c.args.path.now c.in-Ok.i c.remove.new.self
    (subst (λ (ks : List (Arc (File g.row.W.Denot) Global)). IsAt path_in c.args.path.now ks c.in-Ok.i) c.deref.ensures.value c.in-Ok.ensures.found)
    c.remove-held.result c.behind-held.inside.change c.remove-held.ensures.value (ap (λ (f : File g.row.W.Denot). f.number) (c.behind-held.view_is ∙ c.deref-in-Ok.ensures)) c.remove.ensures)

pub returns-in-Ok-clause-files : goal.returns-in-Ok-clause-files
returns-in-Ok-clause-files g c =
    ap (λ (hs : List (Arc (File g.row.W.Denot) Global)). map arc_value hs) c.remove-held.ensures.items
    ∙ removed_at c.self.inside.items.items c.args.path.now c.in-Ok.i (subst (λ (hs : List (Arc (File g.row.W.Denot) Global)). IsAt path_in c.args.path.now hs c.in-Ok.i) c.deref.ensures.value c.in-Ok.ensures.found)
    ∙ ap (λ (fs : List (File g.row.W.Denot)). without_file c.args.path.now fs) c.self.view_is

pub returns-in-Ok-clause-number : goal.returns-in-Ok-clause-number
returns-in-Ok-clause-number g c =
    ap (λ (h : File g.row.W.Denot). Some h.number) (c.behind-held-in-Ok.view_is ∙ c.deref-in-Ok-2.ensures)
    ∙ number_at_index c.self.inside.items.items c.args.path.now c.in-Ok.i (subst (λ (hs : List (Arc (File g.row.W.Denot) Global)). IsAt path_in c.args.path.now hs c.in-Ok.i) c.deref.ensures.value c.in-Ok.ensures.found) c.remove-held.result c.remove-held.ensures.value
    ∙ ap (λ (fs : List (File g.row.W.Denot)). number_at c.args.path.now fs) c.self.view_is

pub returns-in-Err-clause-files : goal.returns-in-Err-clause-files
returns-in-Err-clause-files g c =
    sym c.self.view_is
    ∙ sym (none_at c.self.inside.items.items c.args.path.now c.in-Err.field-0 (subst (λ (hs : List (Arc (File g.row.W.Denot) Global)). IsGap path_in c.args.path.now hs c.in-Err.field-0) c.deref.ensures.value c.in-Err.ensures.gap))
    ∙ ap (λ (fs : List (File g.row.W.Denot)). without_file c.args.path.now fs) c.self.view_is

pub returns-in-Err-clause-number : goal.returns-in-Err-clause-number
returns-in-Err-clause-number g c =
    no_number_at c.self.inside.items.items c.args.path.now c.in-Err.field-0 (subst (λ (hs : List (Arc (File g.row.W.Denot) Global)). IsGap path_in c.args.path.now hs c.in-Err.field-0) c.deref.ensures.value c.in-Err.ensures.gap)
    ∙ ap (λ (fs : List (File g.row.W.Denot)). number_at c.args.path.now fs) c.self.view_is

pub remove-held-requires : goal.remove-held-requires
remove-held-requires g c = omega (arith, at_inside c.in-Ok.ensures.found, ap length c.deref.ensures.value, c.self.inside.items.ok.0)

pub overflow_cast-spot : goal.overflow_cast-spot
overflow_cast-spot g c = omega (arith, at_inside c.in-Ok.ensures.found, ap length c.deref.ensures.value, c.self.invariant.few, length-map c.self.inside.items.items (arc_value {X = File g.row.W.Denot} {Z = Global}))

pub remove-requires : goal.remove-requires
remove-requires g c = record { rising = c.self.invariant.are_spots.rising }
