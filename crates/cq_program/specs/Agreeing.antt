-- That `export` and `ask` together write what `run` writes, by the clauses of the top call.
use Rattle.std.specs.Prelude.{◌≡◌, ◌≢◌, ◌⊎◌, ℕ, List, [], ◌++◌, length, flat_map, Some}
use Rattle.std.specs.List.{AllByRecursion}
use Rattle.cq_base.specs.declared.settings.Settings.{Settings}
use Rattle.cq_export.specs.Beside.{numbers_behind}
use Rattle.cq_export.specs.Laws.{IsQuestion}
use Rattle.cq_io.specs.declared.sink.Sink as sink
use Rattle.cq_io.specs.declared.source.Source as source
use Rattle.cq_lines.specs.Pieces.{all_lines, ended}
use Rattle.cq_program.specs.Top.{AsksFor, ExportsFor, RunsFor}
use Rattle.cq_reply.specs.Written.{line_of as reply_line}
use Rattle.cq_reply.specs.declared.reply.Reply.TheVariants as reply
use Rattle.cq_words.specs.Command.{command_of}
use Rattle.cq_words.specs.declared.command.Command.TheVariants as command
use Rattle.cq_program.specs.declared.status.Status.TheVariants as ended

-- there are no bytes, or a line feed ends them
abbrev pub IsWhole : List ℕ → Type 0
IsWhole bytes = (bytes ≡ []) ⊎ ((front : List ℕ) × (bytes ≡ ended front))

-- no line of these bytes is that of the reply that memory was refused
abbrev pub TellsNoMemory : List ℕ → Type 0
TellsNoMemory bytes = AllByRecursion (λ (line : List ℕ). ended line ≢ reply_line reply.Memory) (all_lines bytes)

module _ {S K : Type 0} (from : source.Ghosts S) (onto : sink.Ghosts K) where
  -- a source that has these bytes left, and a sink that they are added to, as a command finds them and as it leaves them
  pub record Piped (input output : List ℕ) : Type 0 where
    pub read : S
    pub read_now : S
    pub written : K
    pub written_now : K
    pub before : List ℕ
    pub input_is : from.rest read ≡ Some input
    pub before_is : onto.written written ≡ Some before
    pub output_is : onto.written written_now ≡ Some (before ++ output)

  -- words that ask for `run`, with workers or none, was done over the input, and the output was written
  pub record RunWrites (set : Settings) (input output : List ℕ) : Type 0 where
    pub words : List (List ℕ)
    pub workers : ℕ
    pub asked : command_of words ≡ Some (command.Run (record { settings = set; workers = workers }))
    pub reads : ℕ
    pub reads_now : ℕ
    pub ends : Piped input output
    pub runs : RunsFor from onto words reads reads_now ends.read ends.read_now ends.written ends.written_now ended.Done

module _ (L : Type 0) {S K : Type 0} (from : source.Ghosts S) (onto : sink.Ghosts K) where
  -- words that ask for `export` of the project ended so
  pub record ExportWrites (set : Settings) (project input output : List ℕ) : Type 0 where
    pub words : List (List ℕ)
    pub asked : command_of words ≡ Some (command.Export (record { settings = set; project = project }))
    pub ends : Piped from onto input output
    pub exports : ExportsFor L from onto words ends.read ends.read_now ends.written ends.written_now ended.Done

  -- words that ask for `ask` ended so
  pub record AskWrites (set : Settings) (input output : List ℕ) : Type 0 where
    pub words : List (List ℕ)
    pub asked : command_of words ≡ Some (command.Ask set)
    pub ends : Piped from onto input output
    pub asks : AsksFor L from onto words ends.read ends.read_now ends.written ends.written_now ended.Done

  -- If each of the three was done under the same settings, and no reply reports that memory was refused: `export` wrote
  -- the file for the changes, `ask` its output for this file and questions on the project after it, and `run` its own for the
  -- changes and the questions. Then `run` has written the number of each change, and after these what `ask` has written.
  abbrev pub AskedAsRun : Type 0
  AskedAsRun = (set : Settings) (project changes questions file asked served : List ℕ)
      → ExportWrites set project changes file → AskWrites set (file ++ questions) asked → RunWrites from onto set (changes ++ questions) served
      → IsWhole changes → AllByRecursion (IsQuestion set.chunk project (length (all_lines changes))) (all_lines questions)
      → TellsNoMemory asked → TellsNoMemory served
      → served ≡ flat_map reply_line (numbers_behind 0 (all_lines changes)) ++ asked
