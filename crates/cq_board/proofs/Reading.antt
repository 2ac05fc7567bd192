-- What is read of a listing at a project's name.
use Rattle.std.proofs.Common.{◌≡◌, ℕ, Global, cond, List, [], ◌∷◌, ◌++◌, map, get_or, refl, sym, ap, ap₂, ◌∙◌}
use Rattle.std.specs.Arc.{arc_value}
use Rattle.std.specs.declared.sync.Arc.{Arc}
use Rattle.std.proofs.Math.Seq.{get_or-append_seam}
use Rattle.std.proofs.lemmas.Slice.Eq.{bytes_eq-Decides}
use Rattle.cq_projects.specs.Projects.{owner_name, files_in, conditions_in, ListedProject}
use Rattle.cq_projects.specs.Ordered.{AreBelow, AreAbove, IsAt, IsGap}
use Rattle.cq_history.proofs.PathOrder.{below_apart}
use Rattle.cq_projects.proofs.Putting.{above_apart}

module _ {W : Type 0} (name : List ℕ) where
  found_files : (a b : List (Arc (ListedProject W) Global)) (x : Arc (ListedProject W) Global) → AreBelow owner_name name a → owner_name x ≡ name → files_in (map arc_value (a ++ x ∷ b)) name ≡ (arc_value x).files
  found_files [] b x low same = ap (λ t. cond t ((arc_value x).files) (files_in (map arc_value b) name)) ((bytes_eq-Decides name (owner_name x)).1 (sym same))
  found_files (y ∷ a) b x low same = ap (λ t. cond t ((arc_value y).files) (files_in (map arc_value (a ++ x ∷ b)) name)) (below_apart name (owner_name y) low.0) ∙ found_files a b x low.1 same

  found_gate : (a b : List (Arc (ListedProject W) Global)) (x : Arc (ListedProject W) Global) → AreBelow owner_name name a → owner_name x ≡ name → conditions_in (map arc_value (a ++ x ∷ b)) name ≡ (arc_value x).conditions
  found_gate [] b x low same = ap (λ t. cond t ((arc_value x).conditions) (conditions_in (map arc_value b) name)) ((bytes_eq-Decides name (owner_name x)).1 (sym same))
  found_gate (y ∷ a) b x low same = ap (λ t. cond t ((arc_value y).conditions) (conditions_in (map arc_value (a ++ x ∷ b)) name)) (below_apart name (owner_name y) low.0) ∙ found_gate a b x low.1 same

  no_files_above : (b : List (Arc (ListedProject W) Global)) → AreAbove owner_name name b → files_in (map arc_value b) name ≡ []
  no_files_above [] high = refl
  no_files_above (y ∷ b) high = ap (λ t. cond t ((arc_value y).files) (files_in (map arc_value b) name)) (above_apart name (owner_name y) high.0) ∙ no_files_above b high.1

  no_gate_above : (b : List (Arc (ListedProject W) Global)) → AreAbove owner_name name b → conditions_in (map arc_value b) name ≡ []
  no_gate_above [] high = refl
  no_gate_above (y ∷ b) high = ap (λ t. cond t ((arc_value y).conditions) (conditions_in (map arc_value b) name)) (above_apart name (owner_name y) high.0) ∙ no_gate_above b high.1

  no_files : (a b : List (Arc (ListedProject W) Global)) → AreBelow owner_name name a → AreAbove owner_name name b → files_in (map arc_value (a ++ b)) name ≡ []
  no_files [] b low high = no_files_above b high
  no_files (y ∷ a) b low high = ap (λ t. cond t ((arc_value y).files) (files_in (map arc_value (a ++ b)) name)) (below_apart name (owner_name y) low.0) ∙ no_files a b low.1 high

  no_gate : (a b : List (Arc (ListedProject W) Global)) → AreBelow owner_name name a → AreAbove owner_name name b → conditions_in (map arc_value (a ++ b)) name ≡ []
  no_gate [] b low high = no_gate_above b high
  no_gate (y ∷ a) b low high = ap (λ t. cond t ((arc_value y).conditions) (conditions_in (map arc_value (a ++ b)) name)) (below_apart name (owner_name y) low.0) ∙ no_gate a b low.1 high

  module _ (projects : List (Arc (ListedProject W) Global)) (i : ℕ) where
    item_at : (at : IsAt owner_name name projects i) (x : Arc (ListedProject W) Global) → x ≡ get_or projects i x → x ≡ at.item
    item_at at x read = read ∙ ap₂ (λ ps n. get_or ps n x) at.is (sym at.index) ∙ get_or-append_seam at.before at.item at.after x

    pub files_found : (at : IsAt owner_name name projects i) (x : Arc (ListedProject W) Global) → x ≡ get_or projects i x → (arc_value x).files ≡ files_in (map arc_value projects) name
    files_found at x read =
        ap (λ (y : Arc (ListedProject W) Global). (arc_value y).files) (item_at at x read) ∙ sym (found_files at.before at.after at.item at.low at.same)
        ∙ ap (λ ps. files_in (map arc_value ps) name) (sym at.is)

    pub gate_found : (at : IsAt owner_name name projects i) (x : Arc (ListedProject W) Global) → x ≡ get_or projects i x → (arc_value x).conditions ≡ conditions_in (map arc_value projects) name
    gate_found at x read =
        ap (λ (y : Arc (ListedProject W) Global). (arc_value y).conditions) (item_at at x read) ∙ sym (found_gate at.before at.after at.item at.low at.same)
        ∙ ap (λ ps. conditions_in (map arc_value ps) name) (sym at.is)

    pub files_absent : (gap : IsGap owner_name name projects i) → [] ≡ files_in (map arc_value projects) name
    files_absent gap = sym (no_files gap.before gap.after gap.low gap.high) ∙ ap (λ ps. files_in (map arc_value ps) name) (sym gap.is)

    pub gate_absent : (gap : IsGap owner_name name projects i) → [] ≡ conditions_in (map arc_value projects) name
    gate_absent gap = sym (no_gate gap.before gap.after gap.low gap.high) ∙ ap (λ ps. conditions_in (map arc_value ps) name) (sym gap.is)
