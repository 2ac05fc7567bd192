-- The files of a listing were put by earlier changes than the next one, each by a change of its own.
use Rattle.std.proofs.Common.{◌≡◌, ◌≢◌, ℕ, ◌+◌, ◌<◌, true, cond, List, [], ◌∷◌, length, map, refl, ap, ap₂, ◌∙◌, subst, inl, inr, arith}
use Rattle.std.specs.Prelude.{All, AllPairs}
use Rattle.std.specs.List.{AllByRecursion}
use Rattle.std.proofs.lemmas.List.Elements.{All-nil, All-cons, All-from_recursion}
use Rattle.std.proofs.lemmas.List.Kept.{AllPairs-cons}
use Rattle.std.proofs.lemmas.Slice.Eq.{bytes_eq-Decides}
use Rattle.cq_base.proofs.Lists.{AllPairs-nil}
use Rattle.cq_base.specs.declared.lang.Lang.{Lang}
use Rattle.cq_base.specs.declared.change.Change.{Change}
use Rattle.cq_base.specs.declared.change.Change.TheVariants.{Put, Drop, Gate}
use Rattle.cq_history.specs.Files.{File, Source, is_before, files_of}
use Rattle.cq_history.specs.Standing.{Has, AreInPathOrder, IsLastPut}
use Rattle.cq_history.proofs.Standing.{files_stand}
use Rattle.cq_board.specs.Related.{AreSameFiles}
use Rattle.cq_projects.specs.declared.projects.ProjectEdit.{ProjectEdit}
use Rattle.cq_projects.specs.declared.projects.ProjectEdit.TheVariants as edit
use Rattle.cq_board.specs.Edits.{IsEditFor}
use Rattle.cq_projects.specs.Edits.{IsNewer}
use Rattle.cq_board.specs.Listings.{Listed, IsListing}
use Rattle.cq_projects.specs.Projects.{ListedProject, name_in, files_in}
use Rattle.cq_projects.specs.Ordered.{AreRising}
use Rattle.cq_projects.specs.Spotted.{AreApart, AreOlder, numbers_of}
use Rattle.cq_board.proofs.Living.{live_within, one_place}
use Rattle.cq_history.proofs.PathOrder.{before_apart, below_apart}

abbrev source_numbers : List Source → List ℕ
source_numbers files = map (λ (f : Source). f.number) files

same_numbers : {Y : Type 0} (Body : Lang → List ℕ → Y → Type 0) (xs : List Source) (ys : List (File Y)) → AreSameFiles Body xs ys → source_numbers xs ≡ numbers_of ys
same_numbers Body [] [] same = refl
same_numbers Body (x ∷ xs) (y ∷ ys) same = ap₂ (λ (n : ℕ) (ns : List ℕ). n ∷ ns) same.0.number (same_numbers Body xs ys same.1)
same_numbers Body [] (y ∷ ys) same = absurd same
same_numbers Body (x ∷ xs) [] same = absurd same

all_numbers : (P : ℕ → Type 0) (files : List Source) → ((f : Source) → Has files f → P f.number) → All P (source_numbers files)
all_numbers P [] each = All-nil P
all_numbers P (g ∷ files) each = All-cons P g.number (source_numbers files) (each g (inl refl)) (all_numbers P files (λ f has. each f (inr has)))

older_sources : (changes : List Change) (q : List ℕ) (number : ℕ) → length changes + 1 ≡ number → All (λ n. n < number) (source_numbers (files_of q changes))
older_sources changes q number n = all_numbers (λ k. k < number) (files_of q changes) (λ f has. let h = live_within changes f.number (q, f, has, refl) in omega (arith, h, n))

-- each file of a project has the number of a change of its own
other_numbers : (changes : List Change) (q : List ℕ) (f : Source) (files : List Source) → IsLastPut changes q f → AllByRecursion (λ (g : Source). is_before f.path g.path ≡ true) files → ((g : Source) → Has files g → IsLastPut changes q g) → All (λ n. f.number ≢ n) (source_numbers files)
other_numbers changes q f [] last later each = All-nil (λ n. f.number ≢ n)
other_numbers changes q f (g ∷ files) last later each =
    All-cons (λ n. f.number ≢ n) g.number (source_numbers files)
    (λ same. before_apart f.path g.path later.0 (one_place changes q q f g last (each g (inl refl)) same).1)
    (other_numbers changes q f files last later.1 (λ h there. each h (inr there)))

numbers_differ : (changes : List Change) (q : List ℕ) (files : List Source) → AreInPathOrder files → ((f : Source) → Has files f → IsLastPut changes q f) → AllPairs (λ a b. a ≢ b) (source_numbers files)
numbers_differ changes q [] ordered each = AllPairs-nil (λ a b. a ≢ b)
numbers_differ changes q (f ∷ files) ordered each =
    AllPairs-cons (λ a b. a ≢ b) f.number (source_numbers files)
    (other_numbers changes q f files (each f (inl refl)) ordered.0 (λ g there. each g (inr there)))
    (numbers_differ changes q files ordered.1 (λ g there. each g (inr there)))

pub numbers_apart : (changes : List Change) (q : List ℕ) → AllPairs (λ a b. a ≢ b) (source_numbers (files_of q changes))
numbers_apart changes q =
    let stand = files_stand changes q in
    numbers_differ changes q (files_of q changes) stand.ordered (λ f there. (stand.each f).0 there)

module _ {W : Type 0} (IsWork : Lang → List ℕ → W → Type 0) (changes : List Change) (l : Listed W) (is : IsListing IsWork changes l) where
  older : (number : ℕ) (q : List ℕ) → length changes + 1 ≡ number → AreOlder number (files_in l.projects q)
  older number q n = subst (All (λ k. k < number)) (same_numbers IsWork (files_of q changes) (files_in l.projects q) (is.files q)) (older_sources changes q number n)

  -- an edit that the next change asks for puts a later one
  pub newer_edit : (number : ℕ) (c : Change) (e : ProjectEdit W) (q : List ℕ) → length changes + 1 ≡ number → IsEditFor IsWork number c e → IsNewer e (files_in l.projects q)
  newer_edit number (Put project path lang text) (edit.Put held) q n is_edit = subst (λ k. AreOlder k (files_in l.projects q)) is_edit.number (older number q n)
  newer_edit number (Drop project path) (edit.Put held) q n is_edit = absurd is_edit
  newer_edit number (Gate project conditions) (edit.Put held) q n is_edit = absurd is_edit
  newer_edit number c (edit.Drop p) q n is_edit = tt
  newer_edit number c (edit.Gate cs) q n is_edit = tt

  apart_at : (p : ListedProject W) → files_in l.projects p.name ≡ p.files → AreApart p
  apart_at p own =
      subst (AllPairs (λ a b. a ≢ b)) (same_numbers IsWork (files_of p.name changes) (files_in l.projects p.name) (is.files p.name) ∙ ap numbers_of own)
      (numbers_apart changes p.name)

  -- the files of each project are apart
  pub all_apart : All AreApart l.projects
  all_apart = All-from_recursion AreApart l.projects (each l.projects (own_files l.projects is.names))
    where
      passed : (p : ListedProject W) (ps xs : List (ListedProject W)) → AllByRecursion (λ (x : ListedProject W). is_before (name_in p) (name_in x) ≡ true) xs → AllByRecursion (λ (x : ListedProject W). files_in ps x.name ≡ x.files) xs → AllByRecursion (λ (x : ListedProject W). files_in (p ∷ ps) x.name ≡ x.files) xs
      passed p ps [] later own = tt
      passed p ps (x ∷ xs) later own = (ap (λ b. cond b p.files (files_in ps x.name)) (below_apart x.name p.name later.0) ∙ own.0, passed p ps xs later.1 own.1)

      own_files : (ps : List (ListedProject W)) → AreRising name_in ps → AllByRecursion (λ (x : ListedProject W). files_in ps x.name ≡ x.files) ps
      own_files [] rising = tt
      own_files (p ∷ ps) rising =
          (ap (λ b. cond b p.files (files_in ps p.name)) ((bytes_eq-Decides p.name p.name).1 refl), passed p ps ps rising.0 (own_files ps rising.1))

      each : (xs : List (ListedProject W)) → AllByRecursion (λ (x : ListedProject W). files_in l.projects x.name ≡ x.files) xs → AllByRecursion AreApart xs
      each [] own = tt
      each (x ∷ xs) own = (apart_at x own.0, each xs own.1)
