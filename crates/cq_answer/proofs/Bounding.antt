-- The files of a version with the works of their texts.
use Rattle.std.proofs.Common.{◌≡◌, ℕ, zero, suc, true, List, [], ◌∷◌, length, get_or, sym, ap, subst, ◌∙◌, arith}
use Rattle.std.specs.Prelude.{◌≢◌, All, AllPairs}
use Rattle.std.specs.List.{AllByRecursion}
use Rattle.std.specs.Str.{IsUtf8}
use Rattle.std.proofs.lemmas.List.{length-map}
use Rattle.cq_base.specs.Changes.{IsSoundChange}
use Rattle.cq_base.specs.declared.change.Change.{Change}
use Rattle.cq_base.specs.declared.change.Condition.{Condition}
use Rattle.cq_base.specs.declared.settings.Settings.{Settings}
use Rattle.cq_board.specs.Related.{AreSameFiles}
use Rattle.cq_func.specs.declared.function.Function.{Function}
use Rattle.cq_history.specs.Files.{File, Source, is_before, files_at}
use Rattle.cq_history.specs.Standing.{AreInPathOrder}
use Rattle.cq_projects.specs.Ordered.{AreRising}
use Rattle.cq_reply.specs.Written.{IsFunctionText}
use Rattle.cq_request.specs.Named.{IsNamed}
use Rattle.cq_names.specs.Names.{is_path_text}
use Rattle.cq_work.specs.Bounds.{IsFunctionWithin}
use Rattle.cq_work.specs.Work.{IsWorkOf}
use Rattle.cq_work.specs.declared.work.Work.{Work}
use Rattle.cq_work.proofs.Bounded.{bounded}
use Rattle.cq_answer.specs.Bounds.{IsFileOf, AreFilesOf}
use Rattle.cq_answer.specs.Rows.{AreNamed}
use Rattle.cq_answer.specs.Versions.{AreOfVersion}
use Rattle.cq_answer.specs.Works.{facts_in}
use Rattle.cq_answer.proofs.VersionFiles.{IsPutWithin, sources_put, sources_named, sources_rise, few_at, numbers_apart}
use Rattle.cq_answer.proofs.WorkReadings.{reads}

-- ---- from the files with their texts

each_file : {L : Type 0} (set : Settings) (version : ℕ) (sources : List Source) (files : List (File (Work L))) → AreSameFiles (IsWorkOf set) sources files → AllByRecursion (IsPutWithin version) sources → AllByRecursion (IsFileOf set version) files
each_file set version [] [] same put = tt
each_file set version [] (f ∷ files) same put = absurd same
each_file set version (x ∷ sources) [] same put = absurd same
each_file set version (x ∷ sources) (f ∷ files) same put = (
  record {
    utf8 = subst IsUtf8 same.0.path put.0.path;
    first_change = let number = same.0.number in let first = put.0.first in omega (arith, number, first);
    last_change = let number = same.0.number in let last = put.0.last in omega (arith, number, last);
    lang = same.0.body.shows.lang_is ∙ same.0.lang;
    work = bounded set x.lang x.body f.body put.0.text put.0.short same.0.body;
  },
  each_file set version sources files same.1 put.1,
)

each_path : {L : Type 0} (set : Settings) (P : List ℕ → Type 0) (sources : List Source) (files : List (File (Work L))) → AreSameFiles (IsWorkOf set) sources files → AllByRecursion (λ (f : Source). P f.path) sources → AllByRecursion (λ (f : File (Work L)). P f.path) files
each_path set P [] [] same each = tt
each_path set P [] (f ∷ files) same each = absurd same
each_path set P (x ∷ sources) [] same each = absurd same
each_path set P (x ∷ sources) (f ∷ files) same each = (subst P same.0.path each.0, each_path set P sources files same.1 each.1)

paths_rise : {L : Type 0} (set : Settings) (sources : List Source) (files : List (File (Work L))) → AreSameFiles (IsWorkOf set) sources files → AreInPathOrder sources → AreRising (λ (f : File (Work L)). f.path) files
paths_rise set [] [] same ordered = tt
paths_rise set [] (f ∷ files) same ordered = absurd same
paths_rise set (x ∷ sources) [] same ordered = absurd same
paths_rise {L} set (x ∷ sources) (f ∷ files) same ordered = (
  subst (λ (p : List ℕ). AllByRecursion (λ (g : File (Work L)). is_before p g.path ≡ true) files) same.0.path (each_path set (λ p. is_before x.path p ≡ true) sources files same.1 ordered.0),
  paths_rise set sources files same.1 ordered.1,
)

-- ---- at a version

module _ {L : Type 0} (set : Settings) (changes : List Change) (version : ℕ) (project : List ℕ) (files : List (File (Work L))) (conditions : List Condition) where
  pub version_bounded : All IsSoundChange changes → AreOfVersion set changes version project files conditions → AreFilesOf set version files
  version_bounded sound are =
      let sources = files_at changes version project in
      let found = reads set sources files are.files_are in
      record {
        few =
            let most = few_at changes version project in
            let same = ap length found.numbers in
            let many = length-map files (λ (f : File (Work L)). f.number) in
            let put = length-map sources (λ (f : Source). f.number) in
            omega (arith, most, same, many, put);
        each = each_file set version sources files are.files_are (sources_put changes version project sound);
        rising = paths_rise set sources files are.files_are (sources_rise changes version project);
        apart = subst (AllPairs (λ a b. a ≢ b)) (sym found.numbers) (numbers_apart changes version project);
      }

  pub named_files : All IsNamed changes → AreOfVersion set changes version project files conditions → AllByRecursion (λ (f : File (Work L)). is_path_text f.path ≡ true) files
  named_files named are = each_path set (λ p. is_path_text p ≡ true) (files_at changes version project) files are.files_are (sources_named changes version project named)

-- ---- the names of their functions

names_told : (lines : ℕ) (fs : List Function) → AllByRecursion (IsFunctionWithin lines) fs → AllByRecursion IsFunctionText fs
names_told lines [] within = tt
names_told lines (f ∷ fs) within = (within.0.name.utf8, names_told lines fs within.1)

pub functions_named : {L : Type 0} (set : Settings) (version : ℕ) (files : List (File (Work L))) → AllByRecursion (IsFileOf set version) files → AreNamed (facts_in files)
functions_named set version [] each = tt
functions_named set version (f ∷ files) each = (names_told f.body.counts.lines f.body.functions.items each.0.work.functions, functions_named set version files each.1)

pub named_at : (lists : List (List Function)) (i : ℕ) → AllByRecursion (AllByRecursion IsFunctionText) lists → AllByRecursion IsFunctionText (get_or lists i [])
named_at [] i named = tt
named_at (fs ∷ lists) zero named = named.0
named_at (fs ∷ lists) (suc i) named = named_at lists i named.1
