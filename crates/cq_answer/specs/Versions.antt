-- The versions of which some files and conditions are those of a project.
use Rattle.std.specs.Prelude.{◌≡◌, ◌≢◌, ℕ, ◌+◌, ◌≤◌, List, length, All, AllPairs}
use Rattle.cq_base.specs.Changes.{IsSoundChange}
use Rattle.cq_base.specs.declared.settings.Settings.{Settings}
use Rattle.cq_base.specs.declared.change.Change.{Change}
use Rattle.cq_base.specs.declared.change.Condition.{Condition}
use Rattle.cq_base.specs.declared.group.Group.{Group}
use Rattle.cq_board.specs.Related.{AreSameFiles}
use Rattle.cq_clones.specs.Windows.{AreKeyed}
use Rattle.cq_groups.specs.Listing.{Rises, RisesAtMost}
use Rattle.cq_groups.specs.declared.buckets.Buckets as buckets
use Rattle.cq_history.specs.Files.{File, files_at, conditions_at}
use Rattle.cq_reply.specs.declared.reply.Reply.{Reply}
use Rattle.cq_request.specs.declared.request.Query.{Query}
use Rattle.cq_work.specs.Work.{IsWorkOf}
use Rattle.cq_work.specs.declared.work.Work.{Work}
use Rattle.cq_answer.specs.Questions.{AreAsked, IsMostRead}
use Rattle.cq_answer.specs.Reply.{IsReply, reply_of}
use Rattle.cq_answer.specs.Works.{Owner, works_in, facts_in, chosen_in, numbers_in, norms_in, keys_in}
use Rattle.cq_answer.specs.declared.part.Part.{Part}

-- they are those of the project at this version of the changes, each file with the work of its text
pub record AreOfVersion {L : Type 0} (set : Settings) (changes : List Change) (version : ℕ) (project : List ℕ) (files : List (File (Work L))) (conditions : List Condition) : Type 0 where
  pub files_are : AreSameFiles (IsWorkOf set) (files_at changes version project) files
  pub conditions_are : conditions ≡ conditions_at changes version project

-- they are those of some changes, each of which is sound, and no more files than may be kept
pub record HaveVersion {L : Type 0} (set : Settings) (version : ℕ) (project : List ℕ) (files : List (File (Work L))) (conditions : List Condition) : Type 0 where
  pub changes : List Change
  pub sound : All IsSoundChange changes
  pub few : length (files_at changes version project) ≤ set.change_limit
  pub are : AreOfVersion set changes version project files conditions

-- what of it a listing needs
pub record AreListable {L : Type 0} (set : Settings) (files : List (File (Work L))) : Type 0 where
  pub few : length files ≤ 262144
  pub apart : AllPairs (λ a b. a ≢ b) (numbers_in files)
  pub keyed : AreKeyed set.chunk (norms_in files) (keys_in files)
  pub some : 1 ≤ set.chunk

-- ---- whatever the changes are

-- it is the reply by all changes of which they are those of the version
abbrev pub IsReplyOn : {L : Type 0} → Settings → ℕ → Query → List (File (Work L)) → List Condition → Reply → Type 0
IsReplyOn set version q files conditions reply = (changes : List Change) → AreOfVersion set changes version q.project files conditions → IsReply set changes version q reply

-- the keys are those that are asked for by changes of which the files are those of the version
pub record AreAskedOn {L : Type 0} (set : Settings) (version : ℕ) (q : Query) (files : List (File (Work L))) (ks : List ℕ) : Type 0 where
  pub changes : List Change
  pub files_are : AreSameFiles (IsWorkOf set) (files_at changes version q.project) files
  pub asked : AreAsked set changes version q ks

-- no more tokens than these are read by such changes
pub record IsMostReadOn {L : Type 0} (set : Settings) (version : ℕ) (q : Query) (files : List (File (Work L))) (reads : ℕ) : Type 0 where
  pub changes : List Change
  pub files_are : AreSameFiles (IsWorkOf set) (files_at changes version q.project) files
  pub most : IsMostRead set changes version q reads

-- buckets were asked once for each of these keys
abbrev pub AsksOn : {L B : Type 0} → buckets.Ghosts B → Settings → ℕ → Query → List (File (Work L)) → B → B → Type 0
AsksOn of set version q files old new = (ks : List ℕ) → AreAskedOn set version q files ks → Rises (of.asked old) (of.asked new) (length ks)

-- and no more than so
abbrev pub AsksAtMostOn : {L B : Type 0} → buckets.Ghosts B → Settings → ℕ → Query → List (File (Work L)) → B → B → Type 0
AsksAtMostOn of set version q files old new = (ks : List ℕ) → AreAskedOn set version q files ks → RisesAtMost (of.asked old) (of.asked new) (length ks)

-- from one count of steps to another, no more tokens were read
abbrev pub ReadsOn : {L : Type 0} → Settings → ℕ → Query → List (File (Work L)) → ℕ → ℕ → Type 0
ReadsOn set version q files old new = (reads : ℕ) → IsMostReadOn set version q files reads → new ≤ old + reads

-- ---- for a private clause

-- the reply shows the files, or what their groups give
abbrev pub ShowsGroups : {L : Type 0} → List (Owner L) → List Condition → ℕ → Query → Part → List Group → Reply → Type 0
ShowsGroups files conditions version q part groups reply = reply ≡ reply_of (facts_in (works_in files)) conditions version q.kind part (chosen_in (works_in files) q) groups
