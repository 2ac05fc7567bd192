use Rattle.std.proofs.Common.{◌≡◌, List, Some, None, refl, sym, ap, ap₂, ◌∙◌, subst, subst₂}
use Rattle.std.specs.Prelude.{option_map}
use Rattle.std.specs.Arc.{arc_value}
use Rattle.std.specs.Map.{lookup}
use Rattle.std.specs.BTreeMap.{is_at}
use Rattle.cq_history.specs.Files.{File, number_at}
use Rattle.cq_projects.specs.declared.merging.Named.{Named}
use Rattle.cq_projects.specs.Drafts.{AreOwn, AreCut, IsCut, edited_all, edited_at, files_at}
use Rattle.cq_projects.specs.Projects.{ListedProject, name_in, path_of}
use Rattle.cq_projects.specs.Ordered.{AreRising}
use Rattle.cq_projects.proofs.Gathering.{text_cmp, own_insert, cut_insert, files_insert, files_lookup, set_files, number_replaced, number_before}
use Rattle.cq_projects.proofs.draft.Draft.set.Goals as goal
use Rattle.cq_projects.proofs.draft.Draft.set.Goals.{in-Some, in-None}

pub invariant_of-self-2 : goal.invariant_of-self-2
invariant_of-self-2 g c =
    let es = c.self.inside.paths.entries in
    let files = (arc_value c.self.inside.project).files in
    let named : Named g.row.W.Denot = record { before = c.cut_at-before.result.before; behind = c.cut_at-before.result.behind; file = c.args.file } in
    let cut = subst₂ (λ p (fs : List (File g.row.W.Denot)). IsCut p fs named.before named.behind) c.deref-2.ensures (ap (λ (p : ListedProject g.row.W.Denot). p.files) (c.behind-self.view_is ∙ c.deref.ensures)) c.cut_at-before.ensures.cut in
    let made = ap files_at c.in_ok-replaced.ensures.entries ∙ files_insert es c.args.path named in (
      subst (AreCut files) (sym c.in_ok-replaced.ensures.entries) (cut_insert files es c.args.path named cut c.self.invariant.0),
      subst AreOwn (sym made) (own_insert (files_at es) c.args.path c.args.file c.requires c.self.invariant.1),
    )

pub returns-clause-set : goal.returns-clause-set
returns-clause-set g c =
    let es = c.self.inside.paths.entries in
    let files = (arc_value c.self.inside.project).files in
    let named : Named g.row.W.Denot = record { before = c.cut_at-before.result.before; behind = c.cut_at-before.result.behind; file = c.args.file } in
    let rising : AreRising path_of files = subst (λ (p : ListedProject g.row.W.Denot). AreRising path_of p.files) (c.behind-self.view_is ∙ c.deref.ensures) c.cut_at-before.ensures.rising in
    let name = ap name_in c.self.view_is in
    let made = ap (λ xs. edited_all xs files) (ap files_at c.in_ok-replaced.ensures.entries ∙ files_insert es c.args.path named)
    ∙ set_files (files_at es) c.args.path c.args.file files c.requires c.self.invariant.1 rising
    ∙ ap (λ (p : ListedProject g.row.W.Denot). edited_at (arc_value c.args.path) c.args.file p.files) c.self.view_is in
    let conditions = ap (λ (p : ListedProject g.row.W.Denot). p.conditions) c.self.view_is in
    elim c.match-branch-2.branch [
      | in-Some w ↦ rw w.result-is (record { name = name; files = made; conditions = conditions })
      | in-None w ↦ rw w.result-is (record { name = name; files = made; conditions = conditions })
    ]

pub returns-clause-number : goal.returns-clause-number
returns-clause-number g c =
    let es = c.self.inside.paths.entries in
    let files = (arc_value c.self.inside.project).files in
    let seen = ap (λ (p : ListedProject g.row.W.Denot). number_at (arc_value c.args.path) p.files) c.self.view_is in
    elim c.match-branch-2.branch [
      | in-Some w ↦
          let there : Some w.in-Some.replaced.file ≡ lookup (is_at (text_cmp c.args.path)) (files_at es) = ap (option_map (λ (n : Named g.row.W.Denot). n.file)) (sym w.in-Some.is ∙ c.in_ok-replaced.ensures.old) ∙ sym (files_lookup c.args.path es) in
          rw w.result-is (w.change_in.ensures ∙ number_replaced (files_at es) c.args.path files c.self.invariant.1 w.in-Some.replaced.file there ∙ seen)
      | in-None w ↦
          let none : None ≡ lookup (is_at (text_cmp c.args.path)) (files_at es) = ap (option_map (λ (n : Named g.row.W.Denot). n.file)) (sym w.in-None.is ∙ c.in_ok-replaced.ensures.old) ∙ sym (files_lookup c.args.path es) in
          rw w.result-is
          (c.cut_at-before.ensures.change ∙ ap₂ (λ p (fs : List (File g.row.W.Denot)). number_at p fs) c.deref-2.ensures refl
          ∙ ap (λ (p : ListedProject g.row.W.Denot). number_at (arc_value c.args.path) p.files) (c.behind-self.view_is ∙ c.deref.ensures)
          ∙ number_before (files_at es) c.args.path files c.self.invariant.1 none ∙ seen)
    ]
