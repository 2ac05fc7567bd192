-- What a query's reply rests on: files and conditions that are those of a version.
use Rattle.std.proofs.Common.{◌≡◌, ℕ, zero, suc, ◌^◌, ◌<◌, ◌≤◌, Bool, Option, List, [], ◌∷◌, length, get_or, map, refl, sym, ap, ap₂, ◌∙◌, subst, subst₂, arith}
use Rattle.std.specs.Prelude.{◌≢◌, All, AllPairs, Contains}
use Rattle.std.specs.List.{AllByRecursion}
use Rattle.std.specs.Str.{IsUtf8}
use Rattle.std.proofs.lemmas.List.{length-map}
use Rattle.std.proofs.lemmas.List.Elements.{All-weaker}
use Rattle.cq_base.proofs.Lists.{Contains-here, Contains-there}
use Rattle.cq_base.specs.Settings.{IsInRange}
use Rattle.cq_base.specs.declared.change.Change.{Change}
use Rattle.cq_base.specs.declared.change.Condition.{Condition}
use Rattle.cq_base.specs.declared.group.Group.{Group}
use Rattle.cq_base.specs.declared.group.Place.{Place}
use Rattle.cq_base.specs.declared.norm.Norm.{Norm}
use Rattle.cq_base.specs.declared.settings.Settings.{Settings}
use Rattle.cq_board.specs.Related.{AreSameFiles}
use Rattle.cq_clones.specs.Windows.{AreKeyed}
use Rattle.cq_func.specs.declared.function.Function.{Function}
use Rattle.cq_history.specs.Files.{File, Source, files_at, conditions_at}
use Rattle.cq_work.proofs.Keyed.{keyed_by_windows}
use Rattle.cq_measures.specs.Measures.{AreGroupsInside}
use Rattle.cq_reply.specs.declared.reply.Reply.{Reply}
use Rattle.cq_reply.specs.Written.{IsFileText, IsPlaceText, IsGroupText, IsFunctionText, IsReplyText}
use Rattle.cq_request.specs.declared.request.Kind.{Kind}
use Rattle.cq_request.specs.declared.request.Kind.TheVariants as kind
use Rattle.cq_request.specs.declared.request.Query.{Query}
use Rattle.cq_scope.specs.Chosen.{is_chosen_at}
use Rattle.cq_work.specs.Work.{IsWorkOf}
use Rattle.cq_work.specs.declared.work.Work.{Work}
use Rattle.cq_answer.specs.declared.part.Part.{Part}
use Rattle.cq_answer.specs.declared.part.Part.TheVariants as parts
use Rattle.cq_answer.specs.Parts.{part_of, AreGroupsOf, AreKeysOf, AreMostReads}
use Rattle.cq_answer.specs.Questions.{AreAsked, IsMostRead}
use Rattle.cq_answer.specs.Readings.{paths_read, corpus_read, keys_read}
use Rattle.cq_answer.specs.Reply.{IsReply, part_read, chosen_read, reply_of}
use Rattle.cq_answer.specs.Rows.{Facts, facts_read, place_row, group_row, functions_of, AreShowable, AreFewFunctions, AreNamed}
use Rattle.cq_answer.specs.Given.{AreGiven, IsReplyOf}
use Rattle.cq_answer.specs.Versions.{AreOfVersion, HaveVersion, AreListable}
use Rattle.cq_answer.specs.Works.{paths_in, norms_in, keys_in, spans_in, functions_in, row_of, facts_in, chosen_in, AreNumbered}
use Rattle.cq_answer.proofs.VersionFiles.{numbers_apart, numbers_positive, paths_are_texts, few_conditions}
use Rattle.cq_answer.proofs.WorkReadings.{Reads, reads, as_many}
use Rattle.cq_answer.proofs.SameReadings.{same_paths, same_corpus, same_keys}
use Rattle.cq_answer.proofs.Inside.{groups_inside}
use Rattle.cq_answer.proofs.Chosen.{same_choice}
use Rattle.cq_answer.proofs.Bounding.{version_bounded, functions_named, named_at}

as_many_works : {L : Type 0} (set : Settings) (sources : List Source) (files : List (File (Work L))) → AreSameFiles (IsWorkOf set) sources files → length files ≡ length sources
as_many_works set [] [] same = refl
as_many_works set [] (f ∷ files) same = absurd same
as_many_works set (x ∷ sources) [] same = absurd same
as_many_works set (x ∷ sources) (f ∷ files) same = ap suc (as_many_works set sources files same.1)

-- ---- what a listing and measures need

module _ {L : Type 0} (set : Settings) (changes : List Change) (version : ℕ) (project : List ℕ) (files : List (File (Work L))) (conditions : List Condition) (are : AreOfVersion set changes version project files conditions) where
  abbrev pub found : Reads set (files_at changes version project) files
  found = reads set (files_at changes version project) files are.files_are

  pub listable : IsInRange set → length (files_at changes version project) ≤ set.change_limit → AreListable set files
  listable range few = record {
    few = let many = as_many_works set (files_at changes version project) files are.files_are in omega (arith, many, few, range.change_limit_most);
    apart = subst (AllPairs (λ a b. a ≢ b)) (sym found.numbers) (numbers_apart changes version project);
    keyed = subst₂ (AreKeyed set.chunk) (sym found.norms) (sym found.keys) (keyed_by_windows set (corpus_read set found.readings) range.chunk);
    some = range.chunk;
  }

  pub few_functions : AreFewFunctions (facts_in files)
  few_functions = All-weaker (λ (fs : List Function). length fs ≤ 262144) (λ (fs : List Function). length fs < 2 ^ 32) (λ fs few. omega (arith, few)) (functions_in files) found.few_functions

  -- as many tokens as places
  pub placed : (i : ℕ) → length (get_or (norms_in files) i []) ≡ length (get_or (spans_in files) i [])
  placed i = ap (λ xs. length (get_or xs i [])) found.norms ∙ as_many set found.readings i ∙ ap (λ xs. length (get_or xs i [])) (sym found.spans)

  pub numbered : AreNumbered files
  numbered = subst (All (λ n. 0 < n)) (sym found.numbers) (numbers_positive changes version project)

  -- ---- the reply

  facts_same : facts_in files ≡ facts_read found.readings
  facts_same = λ i. record { rows = found.rows i; paths = found.paths i; spans = found.spans i; counts = found.counts i; functions = found.functions i }

  choices_same : (q : Query) → chosen_in files q ≡ chosen_read found.readings q
  choices_same q =
      let same : chosen_in files q ≡ is_chosen_at q.scope q.since (files_at changes version project) = λ i n. same_choice (IsWorkOf set) q.scope q.since (files_at changes version project) files are.files_are n i in
      same ∙ ap (λ (sources : List Source). is_chosen_at q.scope q.since sources) (sym found.are)

  replies_same : (q : Query) (p : Part) (groups : List Group)
      → reply_of (facts_in files) conditions version q.kind p (chosen_in files q) groups ≡ reply_of (facts_read found.readings) (conditions_at changes version project) version q.kind p (chosen_read found.readings q) groups
  replies_same q p groups =
      ap₂ (λ (facts : Facts) (all : List Condition). reply_of facts all version q.kind p (chosen_in files q) groups) facts_same are.conditions_are
      ∙ ap (λ (is_chosen : ℕ → Bool). reply_of (facts_read found.readings) (conditions_at changes version project) version q.kind p is_chosen groups) (choices_same q)

  part_same : (k : Kind) (path : Option (List ℕ)) (p : Part) → p ≡ part_of (paths_in files) k path → p ≡ part_of (paths_read found.readings) k path
  part_same k path p is = is ∙ ap (λ ps. part_of ps k path) found.paths

-- the reply from the works is that of the changes
pub replied : {L : Type 0} (set : Settings) (changes : List Change) (version : ℕ) (q : Query) (files : List (File (Work L))) (conditions : List Condition) (p : Part) (groups : List Group) (r : Reply)
    → AreOfVersion set changes version q.project files conditions → p ≡ part_of (paths_in files) q.kind q.path → AreGroupsOf (norms_in files) q.min p groups
    → r ≡ reply_of (facts_in files) conditions version q.kind p (chosen_in files q) groups → IsReply set changes version q r
replied set changes version q files conditions p groups r are part_is are_groups reply_is =
    let here = found set changes version q.project files conditions are in
    let same = part_same set changes version q.project files conditions are q.kind q.path p part_is in
    record {
      readings = here.readings;
      are_read = here.are;
      groups = groups;
      are_groups = subst₂ (λ (corpus : List (List Norm)) (at : Part). AreGroupsOf corpus q.min at groups) here.norms same are_groups;
      reply_is = reply_is ∙ replies_same set changes version q.project files conditions are q p groups ∙ ap (λ (at : Part). reply_of (facts_read here.readings) (conditions_at changes version q.project) version q.kind at (chosen_read here.readings q) groups) same;
    }

-- ---- what is asked and read

pub keys_asked : {L : Type 0} (set : Settings) (changes : List Change) (version : ℕ) (q : Query) (files : List (File (Work L))) (p : Part) (ks : List ℕ)
    → AreSameFiles (IsWorkOf set) (files_at changes version q.project) files → p ≡ part_of (paths_in files) q.kind q.path → AreAsked set changes version q ks → AreKeysOf (keys_in files) p ks
keys_asked set changes version q files p ks files_are part_is asked =
    let conditions = conditions_at changes version q.project in
    let are : AreOfVersion set changes version q.project files conditions = record { files_are = files_are; conditions_are = refl } in
    let here = found set changes version q.project files conditions are in
    let same = part_same set changes version q.project files conditions are q.kind q.path p part_is in
    let alike = asked.are_read ∙ sym here.are in
    let keys = same_keys set asked.readings here.readings alike ∙ sym here.keys in
    let at : part_read asked.readings q ≡ p = ap (λ ps. part_of ps q.kind q.path) (same_paths asked.readings here.readings alike) ∙ sym same in
    subst₂ (λ (all : List (List ℕ)) (part : Part). AreKeysOf all part ks) keys at asked.are_keys

pub most_read : {L : Type 0} (set : Settings) (changes : List Change) (version : ℕ) (q : Query) (files : List (File (Work L))) (p : Part) (n : ℕ)
    → AreSameFiles (IsWorkOf set) (files_at changes version q.project) files → p ≡ part_of (paths_in files) q.kind q.path → IsMostRead set changes version q n → AreMostReads (norms_in files) (keys_in files) p n
most_read set changes version q files p n files_are part_is most =
    let conditions = conditions_at changes version q.project in
    let are : AreOfVersion set changes version q.project files conditions = record { files_are = files_are; conditions_are = refl } in
    let here = found set changes version q.project files conditions are in
    let same = part_same set changes version q.project files conditions are q.kind q.path p part_is in
    let alike = most.are_read ∙ sym here.are in
    let corpus = same_corpus set most.readings here.readings alike ∙ sym here.norms in
    let keys = same_keys set most.readings here.readings alike ∙ sym here.keys in
    let at : part_read most.readings q ≡ p = ap (λ ps. part_of ps q.kind q.path) (same_paths most.readings here.readings alike) ∙ sym same in
    let with_corpus : AreMostReads (norms_in files) (keys_read set most.readings) (part_read most.readings q) n = subst (λ (c : List (List Norm)). AreMostReads c (keys_read set most.readings) (part_read most.readings q) n) corpus most.are_reads in
    subst₂ (λ (all : List (List ℕ)) (part : Part). AreMostReads (norms_in files) all part n) keys at with_corpus

-- ---- the texts of a reply are UTF-8

texts_of_works : {L : Type 0} (set : Settings) (sources : List Source) (files : List (File (Work L))) → AreSameFiles (IsWorkOf set) sources files → AllByRecursion (λ (f : Source). IsUtf8 f.path) sources → AllByRecursion IsUtf8 (paths_in files)
texts_of_works set [] [] same texts = tt
texts_of_works set [] (f ∷ files) same texts = absurd same
texts_of_works set (x ∷ sources) [] same texts = absurd same
texts_of_works set (x ∷ sources) (f ∷ files) same texts = (subst IsUtf8 same.0.path texts.0, texts_of_works set sources files same.1 texts.1)

file_texts : {L : Type 0} (files : List (File (Work L))) → AllByRecursion IsUtf8 (paths_in files) → AllByRecursion IsFileText (map row_of files)
file_texts [] texts = tt
file_texts (f ∷ files) texts = (texts.0, file_texts files texts.1)

text_at : (paths : List (List ℕ)) (i : ℕ) → AllByRecursion IsUtf8 paths → i < length paths → IsUtf8 (get_or paths i [])
text_at [] i texts inside = absurd (omega arith)
text_at (p ∷ paths) zero texts inside = texts.0
text_at (p ∷ paths) (suc i) texts inside = text_at paths i texts.1 (omega arith)

place_texts : (facts : Facts) (n : ℕ) (ps : List Place) → AllByRecursion IsUtf8 facts.paths → ((p : Place) → Contains ps p → p.file < length facts.paths) → AllByRecursion IsPlaceText (map (place_row facts n) ps)
place_texts facts n [] texts low = tt
place_texts facts n (p ∷ ps) texts low = (text_at facts.paths p.file texts (low p (Contains-here p ps)), place_texts facts n ps texts (λ q c. low q (Contains-there p q ps c)))

group_texts : (facts : Facts) (groups : List Group) → AllByRecursion IsUtf8 facts.paths → length facts.spans ≡ length facts.paths → AreGroupsInside facts.spans groups → AllByRecursion IsGroupText (map (group_row facts) groups)
group_texts facts [] texts many inside = tt
group_texts facts (g ∷ groups) texts many inside = (
  place_texts facts g.tokens g.places texts (λ p c. let low = ((inside g (Contains-here g groups)).1 p c).0 in omega (arith, low, many)),
  group_texts facts groups texts many (λ h c. inside h (Contains-there g h groups c)),
)

function_texts : (facts : Facts) (p : Part) → AreNamed facts → AllByRecursion IsFunctionText (functions_of facts p)
function_texts facts parts.Whole named = tt
function_texts facts (parts.File i) named = tt
function_texts facts (parts.Alone i) named = named_at facts.functions i named
function_texts facts parts.Nothing named = tt

reply_texts : {L : Type 0} (files : List (File (Work L))) (conditions : List Condition) (version : ℕ) (k : Kind) (p : Part) (is_chosen : ℕ → Bool) (groups : List Group) → AllByRecursion IsUtf8 (paths_in files) → AreNamed (facts_in files) → AreGroupsInside (spans_in files) groups → IsReplyText (reply_of (facts_in files) conditions version k p is_chosen groups)
reply_texts files conditions version kind.Files p is_chosen groups texts named inside = file_texts files texts
reply_texts {L} files conditions version kind.Groups p is_chosen groups texts named inside =
    group_texts (facts_in files) groups texts (length-map files (λ (f : File (Work L)). f.body.spans.items) ∙ sym (length-map files (λ (f : File (Work L)). f.path))) inside
reply_texts files conditions version kind.Measures p is_chosen groups texts named inside = tt
reply_texts files conditions version kind.Verdict p is_chosen groups texts named inside = tt
reply_texts files conditions version kind.Functions p is_chosen groups texts named inside = function_texts (facts_in files) p named

pub conditions_few : {L : Type 0} (set : Settings) (version : ℕ) (project : List ℕ) (files : List (File (Work L))) (conditions : List Condition) → HaveVersion set version project files conditions → length conditions ≤ 32
conditions_few set version project files conditions have =
    subst (λ (cs : List Condition). length cs ≤ 32) (sym have.are.conditions_are) (few_conditions have.changes version project have.sound)

-- files and conditions of a version are as an answer asks
pub given_version : {L : Type 0} (set : Settings) (version : ℕ) (project : List ℕ) (files : List (File (Work L))) (conditions : List Condition) → IsInRange set → HaveVersion set version project files conditions → AreGiven set files conditions
given_version set version project files conditions range have = record {
  listable = listable set have.changes version project files conditions have.are range have.few;
  small = (found set have.changes version project files conditions have.are).small;
  placed = placed set have.changes version project files conditions have.are;
  few_functions = few_functions set have.changes version project files conditions have.are;
  numbered = numbered set have.changes version project files conditions have.are;
  texts = texts_of_works set (files_at have.changes version project) files have.are.files_are (paths_are_texts have.changes version project have.sound);
  names = functions_named set version files (version_bounded set have.changes version project files conditions have.sound have.are).each;
  few_conditions = conditions_few set version project files conditions have;
}

-- ---- what given files need

module _ {L : Type 0} (set : Settings) (files : List (File (Work L))) (conditions : List Condition) (given : AreGiven set files conditions) where
  pub inside_given : (min : ℕ) (p : Part) (groups : List Group) → 1 ≤ min → AreGroupsOf (norms_in files) min p groups → AreGroupsInside (spans_in files) groups
  inside_given min p groups some are_groups = groups_inside (norms_in files) (spans_in files) min p groups some given.placed are_groups

  pub measurable_given : (min : ℕ) (p : Part) (groups : List Group) → 1 ≤ min → AreGroupsOf (norms_in files) min p groups → AreShowable (facts_in files) groups
  measurable_given min p groups some are_groups = record {
    few = let many = length-map files (λ (f : File (Work L)). f.body.counts) in let few = given.listable.few in omega (arith, many, few);
    small = given.small;
    inside = inside_given min p groups some are_groups;
  }

  pub texts_given : (version : ℕ) (k : Kind) (min : ℕ) (p : Part) (is_chosen : ℕ → Bool) (groups : List Group) (r : Reply) → 1 ≤ min → AreGroupsOf (norms_in files) min p groups → r ≡ reply_of (facts_in files) conditions version k p is_chosen groups → IsReplyText r
  texts_given version k min p is_chosen groups r some are_groups is =
      subst IsReplyText (sym is) (reply_texts files conditions version k p is_chosen groups given.texts given.names (inside_given min p groups some are_groups))

-- the reply on given files
pub reply_given : {L : Type 0} (files : List (File (Work L))) (conditions : List Condition) (q : Query) (version : ℕ) (p : Part) (groups : List Group) (r : Reply) → p ≡ part_of (paths_in files) q.kind q.path → AreGroupsOf (norms_in files) q.min p groups
    → r ≡ reply_of (facts_in files) conditions version q.kind p (chosen_in files q) groups → IsReplyOf files conditions q version r
reply_given files conditions q version p groups r part_is are_groups is = record {
  groups = groups;
  are_groups = subst (λ (at : Part). AreGroupsOf (norms_in files) q.min at groups) part_is are_groups;
  reply_is = is ∙ ap (λ (at : Part). reply_of (facts_in files) conditions version q.kind at (chosen_in files q) groups) part_is;
}
