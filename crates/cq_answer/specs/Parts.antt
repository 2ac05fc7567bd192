-- The part of a project that a query lists, with its groups, its windows and their keys.
use Rattle.std.specs.Prelude.{◌≡◌, ℕ, ◌+◌, ◌*◌, ◌<◌, ◌≤◌, ◌==◌, Bool, false, List, [], length, Option, Some, None, IsSome, IfSome, IsTrue, ⊤}
use Rattle.std.specs.List.{position}
use Rattle.std.specs.Str.{bytes_eq}
use Rattle.cq_base.specs.declared.group.Group.{Group}
use Rattle.cq_base.specs.declared.group.Place.{Place}
use Rattle.cq_base.specs.declared.norm.Norm.{Norm}
use Rattle.cq_clones.specs.Groups.{AreGroups, AreGroupsIn}
use Rattle.cq_groups.specs.Listing.{IsKey, IsKeyIn, AreAllRising, AreWindows, AreReached, Rises, RisesAtMost}
use Rattle.cq_groups.specs.Sets.{IsLongest}
use Rattle.cq_request.specs.declared.request.Kind.{Kind}
use Rattle.cq_request.specs.declared.request.Kind.TheVariants as kind
use Rattle.cq_names.specs.Names.{is_path}
use Rattle.cq_answer.specs.declared.part.Part.{Part}
use Rattle.cq_answer.specs.declared.part.Part.TheVariants as part

abbrev pub file_part : Option ℕ → Part
file_part None = part.Nothing
file_part (Some i) = part.File i

-- the whole project if no path is asked for, else the file with that path, if there is one
abbrev pub part_at : List (List ℕ) → Option (List ℕ) → Part
part_at paths None = part.Whole
part_at paths (Some path) = file_part (position (λ (p : List ℕ). bytes_eq p path) paths)

-- the same without its groups
abbrev pub alone : Part → Part
alone part.Whole = part.Nothing
alone (part.File i) = part.Alone i
alone (part.Alone i) = part.Alone i
alone part.Nothing = part.Nothing

-- a query for the files or for the functions of one lists no groups, and one for a verdict those of the whole project
abbrev pub part_of : List (List ℕ) → Kind → Option (List ℕ) → Part
part_of paths kind.Files path = part.Nothing
part_of paths kind.Groups path = part_at paths path
part_of paths kind.Measures path = part_at paths path
part_of paths kind.Verdict path = part.Whole
part_of paths kind.Functions path = alone (part_at paths path)

-- a query for functions is for those of one file
abbrev pub HasPath : Kind → Option (List ℕ) → Type 0
HasPath kind.Files path = ⊤
HasPath kind.Groups path = ⊤
HasPath kind.Measures path = ⊤
HasPath kind.Verdict path = ⊤
HasPath kind.Functions path = IsSome path

-- a scope is a pattern, which has the form of a path
abbrev pub IsPattern : Option (List ℕ) → Type 0
IsPattern scope = IfSome scope (λ s. IsTrue (is_path s))

-- it is one, and comes without a path
abbrev pub HasScope : Option (List ℕ) → Option (List ℕ) → Type 0
HasScope path scope = IsPattern scope × IfSome scope (λ s. path ≡ None)

-- without a scope, and with 0 as `since`, every file is chosen
abbrev pub chooses_all : Option (List ℕ) → ℕ → Bool
chooses_all None since = since == 0
chooses_all (Some s) since = false

-- a file of the part is one of this many
abbrev pub IsWithin : ℕ → Part → Type 0
IsWithin files part.Whole = Unit {0}
IsWithin files (part.File i) = i < files
IsWithin files (part.Alone i) = i < files
IsWithin files part.Nothing = Unit {0}

-- all groups of the corpus, or those of them with a place in the file
abbrev pub AreGroupsOf : List (List Norm) → ℕ → Part → List Group → Type 0
AreGroupsOf corpus min part.Whole groups = AreGroups corpus min groups
AreGroupsOf corpus min (part.File i) groups = AreGroupsIn corpus min i groups
AreGroupsOf corpus min (part.Alone i) groups = groups ≡ []
AreGroupsOf corpus min part.Nothing groups = groups ≡ []

-- the different keys of its windows
abbrev pub AreKeysOf : List (List ℕ) → Part → List ℕ → Type 0
AreKeysOf keys part.Whole ks = AreAllRising (IsKey keys) ks
AreKeysOf keys (part.File i) ks = AreAllRising (IsKeyIn keys i) ks
AreKeysOf keys (part.Alone i) ks = ks ≡ []
AreKeysOf keys part.Nothing ks = ks ≡ []

-- the windows of the corpus with one of these keys, in order
abbrev pub AreWindowsOf : List (List ℕ) → Part → List Place → Type 0
AreWindowsOf keys part.Whole windows = AreWindows keys windows
AreWindowsOf keys (part.File i) windows = AreReached keys i windows
AreWindowsOf keys (part.Alone i) windows = windows ≡ []
AreWindowsOf keys part.Nothing windows = windows ≡ []

-- this many reads of tokens: for each of these windows the tokens of the longest repeat, and two more
pub record AreReadsOf (corpus : List (List Norm)) (keys : List (List ℕ)) (p : Part) (reads : ℕ) : Type 0 where
  pub longest : ℕ
  pub is_longest : IsLongest corpus longest
  pub windows : List Place
  pub are_windows : AreWindowsOf keys p windows
  pub reads_are : reads ≡ length windows * (longest + 2)

-- if nothing is listed, none
abbrev pub AreMostReads : List (List Norm) → List (List ℕ) → Part → ℕ → Type 0
AreMostReads corpus keys part.Whole reads = AreReadsOf corpus keys part.Whole reads
AreMostReads corpus keys (part.File i) reads = AreReadsOf corpus keys (part.File i) reads
AreMostReads corpus keys (part.Alone i) reads = reads ≡ 0
AreMostReads corpus keys part.Nothing reads = reads ≡ 0

-- ---- from one count to another

-- it was asked once for each of these keys
abbrev pub AsksPart : List (List ℕ) → Part → ℕ → ℕ → Type 0
AsksPart keys p old new = (ks : List ℕ) → AreKeysOf keys p ks → Rises old new (length ks)

-- and no more than so
abbrev pub AsksPartAtMost : List (List ℕ) → Part → ℕ → ℕ → Type 0
AsksPartAtMost keys p old new = (ks : List ℕ) → AreKeysOf keys p ks → RisesAtMost old new (length ks)

-- no more tokens were read
abbrev pub ReadsPart : List (List Norm) → List (List ℕ) → Part → ℕ → ℕ → Type 0
ReadsPart corpus keys p old new = (reads : ℕ) → AreMostReads corpus keys p reads → new ≤ old + reads
