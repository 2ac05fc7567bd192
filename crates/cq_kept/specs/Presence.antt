-- Where files are, which gate each project has, and what is over.
use Rattle.std.specs.Prelude.{◌≡◌, ℕ, ◌+◌, ◌≤◌, Bool, if◌then◌else◌, List, [], ◌∷◌, ◌++◌, length, Option, Some, None}
use Rattle.std.specs.Arc.{arc_value}
use Rattle.std.specs.BTreeMap.{get}
use Rattle.std.specs.declared.cmp.Ordering.{Ordering}
use Rattle.cq_base.specs.declared.change.Change.{Change}
use Rattle.cq_history.specs.Changes.{is_gate_of}
use Rattle.cq_history.specs.Files.{files_of, has_file, number_at}
use Rattle.cq_kept.specs.declared.kept.FileKey.{FileKey}
use Rattle.cq_kept.specs.declared.kept.ProjectKey.{ProjectKey}
use Rattle.cq_kept.specs.declared.presence.Presence.{Presence}
use Rattle.cq_kept.specs.contracts.kept.FileKeyOrd.TheImpl as key_order
use Rattle.cq_kept.specs.contracts.kept.ProjectKeyOrd.TheImpl as project_order
use Rattle.cq_kept.specs.Over.{AreNoted}

-- the order of places, as it is derived: by project and then path
abbrev pub key_cmp : FileKey → FileKey → Ordering
key_cmp = key_order.ghosts.cmp

-- the order of projects, as it is derived
abbrev pub project_cmp : ProjectKey → ProjectKey → Ordering
project_cmp = project_order.ghosts.cmp

-- whether there is a file at the place after the changes
abbrev pub is_there : List Change → FileKey → Bool
is_there changes k = has_file (arc_value k.path) (files_of (arc_value k.project) changes)

-- the number of the project's last gate, if the first of the changes has this one
abbrev pub gate_from : List ℕ → ℕ → Option ℕ → List Change → Option ℕ
gate_from q r was [] = was
gate_from q r was (c ∷ cs) = gate_from q (r + 1) (if is_gate_of q c then Some r else was) cs

abbrev pub gate_at : List ℕ → List Change → Option ℕ
gate_at q changes = gate_from q 1 None changes

-- Each place has the change that put the file there, and none if there is no file. Each project has the number of its last
-- gate. What becomes over after the floor is noted.
pub record IsPresence (changes : List Change) (floor : ℕ) (there : Presence) : Type 0 where
  pub puts : (k : FileKey) → get key_cmp there.puts k ≡ number_at (arc_value k.path) (files_of (arc_value k.project) changes)
  pub gates : (k : ProjectKey) → get project_cmp there.gates k ≡ gate_at (arc_value k.project) changes
  pub over : AreNoted changes floor there.over.items

-- whatever changes and floor it was the presence of, if this number is the next one's, it is that of one change more
abbrev pub AddsPlace : ℕ → Change → Presence → Presence → Type 0
AddsPlace number change old new = (changes : List Change) (floor : ℕ) → length changes + 1 ≡ number → floor ≤ length changes → IsPresence changes floor old → IsPresence (changes ++ change ∷ []) floor new

-- whatever changes it is the presence of, this is whether there is a file at the place after them
abbrev pub TellsIfThere : Presence → FileKey → Bool → Type 0
TellsIfThere there file told = (changes : List Change) (floor : ℕ) → IsPresence changes floor there → told ≡ is_there changes file

-- whatever changes the one is the presence of, so is the other
abbrev pub ShowsTheSame : Presence → Presence → Type 0
ShowsTheSame old new = (changes : List Change) (floor : ℕ) → IsPresence changes floor old → IsPresence changes floor new
