use Rattle.std.proofs.Common.{Global, ◌≡◌, List, Some, Result, Ok, Err, length, map, refl, sym, ap, ◌∙◌, subst, subst₂, arith}
use Rattle.std.specs.Prelude.{insert, OnErr}
use Rattle.std.specs.Arc.{arc_value}
use Rattle.std.specs.declared.sync.Arc.{Arc}
use Rattle.std.proofs.lemmas.List.{length-map}
use Rattle.cq_history.specs.Files.{File, with_file, number_at}
use Rattle.cq_order.specs.declared.spots.Spot.{Spot}
use Rattle.cq_projects.specs.Projects.{path_in}
use Rattle.cq_projects.specs.Ordered.{AreRising, IsAt, IsGap}
use Rattle.cq_projects.specs.Spotted.{AreSpotted, AreOlder}
use Rattle.cq_projects.proofs.Indexes.{at_inside, gap_inside}
use Rattle.cq_projects.proofs.OwnerLists.{rising_held}
use Rattle.cq_projects.proofs.Putting.{replaced_at, number_at_index, inserted_at, no_number_at}
use Rattle.cq_projects.proofs.SpottedFiles.{gap_within, spots_within, spotted_set, spotted_insert}
use Rattle.cq_projects.proofs.project_files.ProjectFiles.put.Goals as goal

-- what is known, of whatever result
err_known : {T E P : Type 0} (r : Result T E) → P → OnErr r P
err_known (Ok x) known = tt
err_known (Err e) known = known

pub find-requires : goal.find-requires
find-requires g c = subst (AreRising path_in) (sym c.deref.ensures.value) (rising_held c.self.inside.items.items c.self.invariant.rising)

pub invariant_of-self-in-Ok : goal.invariant_of-self-in-Ok
invariant_of-self-in-Ok g c =
    let at = subst₂ (λ p (hs : List (Arc (File g.row.W.Denot) Global)). IsAt path_in p hs c.in-Ok.i) (c.deref-3.ensures ∙ ap (λ (h : File g.row.W.Denot). h.path) (c.behind-held.view_is ∙ c.deref-2.ensures)) c.deref.ensures.value c.in-Ok.ensures.found in
    spotted_set c.self.inside.items.items c.self.inside.spots c.self.invariant (path_in c.args.held) c.in-Ok.i c.replace.new.self at c.args.held c.index.result.now
    c.behind-held-in-Ok.inside.change c.behind-index.inside.change refl (ap (λ (f : File g.row.W.Denot). f.number) (c.behind-held-in-Ok.view_is ∙ c.deref-in-Ok-2.ensures)) c.index.ensures
    (ap (λ (f : File g.row.W.Denot). f.number) (c.behind-index.view_is ∙ c.deref-in-Ok.ensures))
    (subst (λ (fs : List (File g.row.W.Denot)). AreOlder (arc_value c.args.held).number fs) (sym c.self.view_is) c.requires.older) c.in_ok-replace-in-Ok.ensures.replaced

pub insert-requires : goal.insert-requires
insert-requires g c =
    let gap = subst₂ (λ p (hs : List (Arc (File g.row.W.Denot) Global)). IsGap path_in p hs c.in-Err.i) (c.deref-3.ensures ∙ ap (λ (h : File g.row.W.Denot). h.path) (c.behind-held.view_is ∙ c.deref-2.ensures)) c.deref.ensures.value c.in-Err.ensures.gap in
    let inside = gap_within c.self.inside.items.items c.self.inside.spots c.self.invariant (path_in c.args.held) c.in-Err.i c.self.inside.spots gap in
    record {
      within = omega (arith, inside, c.len-len.ensures, c.self.inside.items.ok.0);
      few = omega (arith, c.if-len.false);
      room = spots_within c.self.inside.items.items c.self.inside.spots c.self.invariant (omega (arith, c.if-len.false, c.len-len.ensures, c.self.inside.items.ok.0));
    }

pub invariant_of-self-in-Err : goal.invariant_of-self-in-Err
invariant_of-self-in-Err g c =
    let gap = subst₂ (λ p (hs : List (Arc (File g.row.W.Denot) Global)). IsGap path_in p hs c.in-Err.i) (c.deref-3.ensures ∙ ap (λ (h : File g.row.W.Denot). h.path) (c.behind-held.view_is ∙ c.deref-2.ensures)) c.deref.ensures.value c.in-Err.ensures.gap in
    let size : c.len-len.result ≡ length c.self.inside.items.items = omega (arith, c.len-len.ensures, c.self.inside.items.ok.0) in
    subst (λ (hs : List (Arc (File g.row.W.Denot) Global)). AreSpotted (map arc_value hs) c.insert.new.self) (sym (c.insert_within.ensures ∙ ap (λ (hs : List (Arc (File g.row.W.Denot) Global)). insert hs c.in-Err.i c.args.held) c.in_ok-reserve-in-Err.ensures.items))
    (spotted_insert c.self.inside.items.items c.self.inside.spots c.self.invariant (path_in c.args.held) c.in-Err.i c.insert.new.self gap c.args.held
    c.behind-held-in-Err.inside.change c.len-len.result refl (ap (λ (f : File g.row.W.Denot). f.number) (c.behind-held-in-Err.view_is ∙ c.deref-in-Err.ensures)) size (omega (arith, c.if-len.false))
    (subst (λ (fs : List (File g.row.W.Denot)). AreOlder (arc_value c.args.held).number fs) (sym c.self.view_is) c.requires.older) c.in_ok-insert-in-Err.ensures.inserted)

pub returns-in_ok-replace-in-Ok-clause-files : goal.returns-in_ok-replace-in-Ok-clause-files
returns-in_ok-replace-in-Ok-clause-files g c =
    let at = subst₂ (λ p (hs : List (Arc (File g.row.W.Denot) Global)). IsAt path_in p hs c.in-Ok.i) (c.deref-3.ensures ∙ ap (λ (h : File g.row.W.Denot). h.path) (c.behind-held.view_is ∙ c.deref-2.ensures)) c.deref.ensures.value c.in-Ok.ensures.found in
    replaced_at c.self.inside.items.items (path_in c.args.held) c.in-Ok.i at c.args.held refl
    ∙ ap (λ (fs : List (File g.row.W.Denot)). with_file (arc_value c.args.held) fs) c.self.view_is

pub returns-in_ok-replace-in-Ok-clause-number : goal.returns-in_ok-replace-in-Ok-clause-number
returns-in_ok-replace-in-Ok-clause-number g c =
    let at = subst₂ (λ p (hs : List (Arc (File g.row.W.Denot) Global)). IsAt path_in p hs c.in-Ok.i) (c.deref-3.ensures ∙ ap (λ (h : File g.row.W.Denot). h.path) (c.behind-held.view_is ∙ c.deref-2.ensures)) c.deref.ensures.value c.in-Ok.ensures.found in
    ap (λ (h : File g.row.W.Denot). Some h.number) (c.behind-index.view_is ∙ c.deref-in-Ok.ensures)
    ∙ number_at_index c.self.inside.items.items (path_in c.args.held) c.in-Ok.i at c.index.result.now c.index.ensures
    ∙ ap (λ (fs : List (File g.row.W.Denot)). number_at (path_in c.args.held) fs) c.self.view_is

pub returns-in_ok-insert-in-Err-clause-files : goal.returns-in_ok-insert-in-Err-clause-files
returns-in_ok-insert-in-Err-clause-files g c =
    let gap = subst₂ (λ p (hs : List (Arc (File g.row.W.Denot) Global)). IsGap path_in p hs c.in-Err.i) (c.deref-3.ensures ∙ ap (λ (h : File g.row.W.Denot). h.path) (c.behind-held.view_is ∙ c.deref-2.ensures)) c.deref.ensures.value c.in-Err.ensures.gap in
    ap (λ (hs : List (Arc (File g.row.W.Denot) Global)). map arc_value hs) (c.insert_within.ensures ∙ ap (λ (hs : List (Arc (File g.row.W.Denot) Global)). insert hs c.in-Err.i c.args.held) c.in_ok-reserve-in-Err.ensures.items)
    ∙ inserted_at c.self.inside.items.items (path_in c.args.held) c.in-Err.i gap c.args.held refl
    ∙ ap (λ (fs : List (File g.row.W.Denot)). with_file (arc_value c.args.held) fs) c.self.view_is

pub returns-in_ok-insert-in-Err-clause-number : goal.returns-in_ok-insert-in-Err-clause-number
returns-in_ok-insert-in-Err-clause-number g c =
    let gap = subst₂ (λ p (hs : List (Arc (File g.row.W.Denot) Global)). IsGap path_in p hs c.in-Err.i) (c.deref-3.ensures ∙ ap (λ (h : File g.row.W.Denot). h.path) (c.behind-held.view_is ∙ c.deref-2.ensures)) c.deref.ensures.value c.in-Err.ensures.gap in
    no_number_at c.self.inside.items.items (path_in c.args.held) c.in-Err.i gap ∙ ap (λ (fs : List (File g.row.W.Denot)). number_at (path_in c.args.held) fs) c.self.view_is

pub index-requires : goal.index-requires
index-requires g c = omega (arith, at_inside c.in-Ok.ensures.found, ap length c.deref.ensures.value, c.self.inside.items.ok.0)

pub index_mut-requires : goal.index_mut-requires
index_mut-requires g c = omega (arith, at_inside c.in-Ok.ensures.found, ap length c.deref.ensures.value, c.self.inside.items.ok.0)

pub overflow_cast-spot : goal.overflow_cast-spot
overflow_cast-spot g c = omega (arith, at_inside c.in-Ok.ensures.found, ap length c.deref.ensures.value, c.self.invariant.few, length-map c.self.inside.items.items (arc_value {X = File g.row.W.Denot} {Z = Global}))

pub overflow_cast-spot-in-Err : goal.overflow_cast-spot-in-Err
overflow_cast-spot-in-Err g c = omega (arith, gap_inside c.in-Err.ensures.gap, ap length c.deref.ensures.value, c.self.invariant.few, length-map c.self.inside.items.items (arc_value {X = File g.row.W.Denot} {Z = Global}))

pub replace-requires : goal.replace-requires
replace-requires g c = record { rising = c.self.invariant.are_spots.rising }

pub insert_within-requires-clause-within : goal.insert_within-requires-clause-within
insert_within-requires-clause-within g c = omega (arith, gap_inside c.in-Err.ensures.gap, ap length c.deref.ensures.value, c.self.inside.items.ok.0, c.in_ok-reserve-in-Err.ensures.len)

pub insert_within-requires-clause-room : goal.insert_within-requires-clause-room
insert_within-requires-clause-room g c = omega (arith, c.in_ok-reserve-in-Err.ensures.ok)

pub invariant_of-self-in_err-reserve-in-Err : goal.invariant_of-self-in_err-reserve-in-Err
invariant_of-self-in_err-reserve-in-Err g c =
    subst (λ (hs : List (Arc (File g.row.W.Denot) Global)). AreSpotted (map arc_value hs) c.self.inside.spots) (sym c.in_err-reserve-in-Err.ensures.items) c.self.invariant

pub invariant_of-self-in_err-insert-in-Err : goal.invariant_of-self-in_err-insert-in-Err
invariant_of-self-in_err-insert-in-Err g c =
    subst₂ (λ (hs : List (Arc (File g.row.W.Denot) Global)) (spots : List Spot). AreSpotted (map arc_value hs) spots) (sym c.in_ok-reserve-in-Err.ensures.items) (sym c.in_err-insert-in-Err.ensures.unchanged) c.self.invariant

pub invariant_of-self : goal.invariant_of-self
invariant_of-self g c =
    subst (λ (spots : List Spot). AreSpotted (map arc_value c.self.inside.items.items) spots) (sym c.in_err-replace-in-Ok.ensures.unchanged) c.self.invariant

pub returns-in_err-insert-in-Err-clause-unchanged : goal.returns-in_err-insert-in-Err-clause-unchanged
returns-in_err-insert-in-Err-clause-unchanged g c = err_known _ (ap (λ (hs : List (Arc (File g.row.W.Denot) Global)). map arc_value hs) c.in_ok-reserve-in-Err.ensures.items ∙ c.self.view_is)

pub returns-in_err-reserve-in-Err-clause-unchanged : goal.returns-in_err-reserve-in-Err-clause-unchanged
returns-in_err-reserve-in-Err-clause-unchanged g c = err_known _ (ap (λ (hs : List (Arc (File g.row.W.Denot) Global)). map arc_value hs) c.in_err-reserve-in-Err.ensures.items ∙ c.self.view_is)

pub returns-in_err-replace-in-Ok-clause-unchanged : goal.returns-in_err-replace-in-Ok-clause-unchanged
returns-in_err-replace-in-Ok-clause-unchanged g c = err_known _ (c.self.view_is)
