-- The files and the conditions of a sound snapshot are as an answer asks, and no files are.
use Rattle.std.proofs.Common.{◌≡◌, ◌≢◌, ℕ, zero, suc, ◌^◌, ◌<◌, List, [], ◌∷◌, length, get_or, map, refl, sym, ap₂, subst, arith}
use Rattle.std.specs.Prelude.{All, AllPairs}
use Rattle.std.specs.List.{AllByRecursion}
use Rattle.std.specs.Str.{IsUtf8}
use Rattle.std.proofs.lemmas.List.{length-map}
use Rattle.std.proofs.lemmas.List.Elements.{All-nil, All-cons, All-head, All-tail}
use Rattle.cq_answer.specs.Given.{AreGiven}
use Rattle.cq_answer.specs.Rows.{AreNamed}
use Rattle.cq_answer.specs.Works.{paths_in, numbers_in, norms_in, keys_in, spans_in, counts_in, functions_in, facts_in, AreNumbered}
use Rattle.cq_base.specs.Settings.{IsInRange}
use Rattle.cq_base.specs.declared.settings.Settings.{Settings}
use Rattle.cq_clones.specs.Windows.{AreKeyed}
use Rattle.cq_func.specs.declared.function.Function.{Function}
use Rattle.cq_history.specs.Files.{File}
use Rattle.cq_work.specs.Keys.{window_keys}
use Rattle.cq_work.proofs.Keyed.{keyed_by_windows}
use Rattle.cq_measures.specs.Measures.{AreSmall}
use Rattle.cq_reply.specs.Written.{IsFunctionText}
use Rattle.cq_tokfile.specs.declared.snapshot.Snapshot.{Snapshot}
use Rattle.cq_tokform.specs.Sound.{IsSoundFunction, IsSoundFile}
use Rattle.cq_tokfile.specs.Snapshot.{record_of, IsOneFile, IsSoundSnapshot}
use Rattle.cq_tokfile.proofs.Decoded.{same_changes}
use Rattle.cq_tokfile.proofs.Written.{one_for_each}
use Rattle.cq_work.specs.declared.work.Work.{Work}

module _ {L : Type 0} (set : Settings) (version : ℕ) where
  keys_are : (files : List (File (Work L))) → All (IsOneFile set) files → keys_in files ≡ map (window_keys set) (norms_in files)
  keys_are [] parts = refl
  keys_are (f ∷ files) parts = ap₂ (λ (k : List ℕ) (ks : List (List ℕ)). k ∷ ks) (All-head (IsOneFile set) f files parts).keys (keys_are files (All-tail (IsOneFile set) f files parts))

  placed : (files : List (File (Work L))) → All (IsOneFile set) files → (i : ℕ) → length (get_or (norms_in files) i []) ≡ length (get_or (spans_in files) i [])
  placed [] parts i = refl
  placed (f ∷ files) parts zero = sym (one_for_each set f (All-head (IsOneFile set) f files parts))
  placed (f ∷ files) parts (suc i) = placed files (All-tail (IsOneFile set) f files parts) i

  small : (files : List (File (Work L))) → AllByRecursion (IsSoundFile set version) (map record_of files) → All AreSmall (counts_in files)
  small [] sound = All-nil AreSmall
  small (f ∷ files) sound =
      let lines = sound.0.lines in
      let ncloc = sound.0.ncloc in
      let complexity = sound.0.complexity in
      All-cons AreSmall f.body.counts (counts_in files) (omega (arith, lines), omega (arith, lines, ncloc), omega (arith, complexity)) (small files sound.1)

  few_functions : (files : List (File (Work L))) → AllByRecursion (IsSoundFile set version) (map record_of files) → All (λ (fs : List Function). length fs < 2 ^ 32) (functions_in files)
  few_functions [] sound = All-nil (λ (fs : List Function). length fs < 2 ^ 32)
  few_functions (f ∷ files) sound = All-cons (λ (fs : List Function). length fs < 2 ^ 32) f.body.functions.items (functions_in files) sound.0.functions.few (few_functions files sound.1)

  numbered : (files : List (File (Work L))) → AllByRecursion (IsSoundFile set version) (map record_of files) → AreNumbered files
  numbered [] sound = All-nil (λ n. 0 < n)
  numbered (f ∷ files) sound = let first = sound.0.first_change in All-cons (λ n. 0 < n) f.number (numbers_in files) (omega (arith, first)) (numbered files sound.1)

  texts : (files : List (File (Work L))) → AllByRecursion (IsSoundFile set version) (map record_of files) → AllByRecursion IsUtf8 (paths_in files)
  texts [] sound = tt
  texts (f ∷ files) sound = (sound.0.path.utf8, texts files sound.1)

names_told : (lines : ℕ) (fs : List Function) → AllByRecursion (IsSoundFunction lines) fs → AllByRecursion IsFunctionText fs
names_told lines [] sound = tt
names_told lines (f ∷ fs) sound = (sound.0.name.utf8, names_told lines fs sound.1)

names : {L : Type 0} (set : Settings) (version : ℕ) (files : List (File (Work L))) → AllByRecursion (IsSoundFile set version) (map record_of files) → AreNamed (facts_in files)
names set version [] sound = tt
names set version (f ∷ files) sound = (names_told f.body.counts.lines f.body.functions.items sound.0.functions.each, names set version files sound.1)

pub given_snapshot : {L : Type 0} (set : Settings) (s : Snapshot L) → IsInRange set → IsSoundSnapshot set s → AreGiven set s.files s.conditions.items
given_snapshot set s range sound =
    let many = length-map s.files record_of in
    let few = sound.contents.few_files in
    record {
      listable = record {
        few = omega (arith, many, few);
        apart = subst (λ (ns : List ℕ). AllPairs (λ a b. a ≢ b) ns) (same_changes s.files) sound.contents.apart;
        keyed = subst (AreKeyed set.chunk (norms_in s.files)) (sym (keys_are set s.version s.files sound.parts)) (keyed_by_windows set (norms_in s.files) range.chunk);
        some = range.chunk;
      };
      small = small set s.version s.files sound.contents.files;
      placed = placed set s.version s.files sound.parts;
      few_functions = few_functions set s.version s.files sound.contents.files;
      numbered = numbered set s.version s.files sound.contents.files;
      texts = texts set s.version s.files sound.contents.files;
      names = names set s.version s.files sound.contents.files;
      few_conditions = sound.contents.few_conditions;
    }

pub given_none : {L : Type 0} (set : Settings) → IsInRange set → AreGiven {L = L} set [] []
given_none {L} set range = record {
  listable = record {
    few = omega arith;
    apart = λ i j d less within. absurd (omega (arith, within));
    keyed = keyed_by_windows set [] range.chunk;
    some = range.chunk;
  };
  small = All-nil AreSmall;
  placed = λ i. refl;
  few_functions = All-nil (λ (fs : List Function). length fs < 2 ^ 32);
  numbered = All-nil (λ n. 0 < n);
  texts = tt;
  names = tt;
  few_conditions = omega arith;
}
