-- That a version that was written answers as a session with workers beside it does.
use Rattle.std.specs.Prelude.{◌≡◌, ℕ, ◌+◌, List, [], ◌∷◌, ◌++◌, length, map}
use Rattle.std.specs.List.{AllByRecursion}
use Rattle.cq_base.specs.declared.change.Change.{Change}
use Rattle.cq_base.specs.declared.settings.Settings.{Settings}
use Rattle.cq_export.specs.Laws.{IsQuestion, AreTold}
use Rattle.cq_export.specs.Lines.{SayChanges, AreAccepted}
use Rattle.cq_reply.specs.declared.reply.Reply.{Reply}
use Rattle.cq_reply.specs.declared.reply.Reply.TheVariants as reply
use Rattle.cq_talk.specs.Beside.{IsBeside, nothing_known}
use Rattle.cq_talk.specs.Said.{said}
use Rattle.cq_tokask.specs.Asked.{AnswersLines}
use Rattle.cq_tokask.specs.Exported.{IsOfChanges}
use Rattle.cq_tokfile.specs.Snapshot.{IsTokenFile}
use Rattle.cq_tokfile.specs.declared.snapshot.Snapshot.{Snapshot}

-- one number for each line, counted on from this one
abbrev pub numbers_behind : ℕ → List (List ℕ) → List Reply
numbers_behind n [] = []
numbers_behind n (line ∷ lines) = reply.Change (n + 1) ∷ numbers_behind (n + 1) lines

-- a session with workers beside it replies with the number of each change, and then with what the token file of the version
-- that these changes make answers
abbrev pub AsksAsBeside : Type 0 → Type 0
AsksAsBeside L = (set : Settings) (changes : List Change) (project : List ℕ) (written read : Snapshot L) (file : List ℕ) (lines questions : List (List ℕ)) (asked served : List Reply)
    → SayChanges set.chunk lines changes → AreAccepted set changes → IsOfChanges set changes project written → IsTokenFile set written file → IsTokenFile set read file
    → AllByRecursion (IsQuestion set.chunk project (length changes)) questions
    → AnswersLines read set questions asked → IsBeside set nothing_known (map (said set.chunk) (lines ++ questions)) served
    → AreTold asked → AreTold served → served ≡ numbers_behind 0 lines ++ asked
