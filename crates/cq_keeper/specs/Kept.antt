-- What a log has, by what the first caller has seen.
use Rattle.std.specs.Prelude.{◌≡◌, ℕ, true, false, List, [], ◌∷◌, ◌++◌, flat_map}
use Rattle.std.specs.Io.KnownBytes.{Appends}
use Rattle.cq_base.specs.declared.change.Change.{Change}
use Rattle.cq_cells.specs.Passes.{IsFree, by_of}
use Rattle.cq_chain.specs.Passes as chain
use Rattle.cq_chain.specs.Passes.{BoardPass}
use Rattle.cq_history.specs.State.{accepted}
use Rattle.cq_io.specs.Causes.{Rose}
use Rattle.cq_io.specs.declared.sink.Sink as sink
use Rattle.cq_talk.specs.Saying.{Says}
use Rattle.cq_lines.specs.LineLogs.{Logged}
use Rattle.cq_talk.specs.declared.unkept.Unkept.{Unkept}
use Rattle.cq_talk.specs.declared.unkept.Unkept.TheVariants as unkept
use Rattle.cq_keeper.specs.Firsts as firsts
use Rattle.cq_keeper.specs.declared.naming.LogOf as log_of
use Rattle.cq_lines.specs.Pieces.{ended}
use Rattle.cq_shared.specs.declared.shared.Shared.{Shared}

-- whoever sends a change, the first caller accepts it
abbrev pub first_caller : ℕ → ℕ
first_caller c = 0

-- each line says its change
abbrev pub SayAll : ℕ → List (List ℕ) → List Change → Type 0
SayAll chunk [] [] = Unit {0}
SayAll chunk [] (change ∷ changes) = ⊥
SayAll chunk (line ∷ lines) [] = ⊥
SayAll chunk (line ∷ lines) (change ∷ changes) = Says chunk line change × SayAll chunk lines changes

module _ {K N : Type 0} (onto : sink.Ghosts K) (of : log_of.Ghosts N) where
  -- what was written since the log began are the lines of just these changes
  pub record HasLines (log : Logged K) (changes : List Change) : Type 0 where
    pub lines : List (List ℕ)
    pub say : SayAll of.cells.about.settings.chunk lines changes
    pub written : Appends of.begun (onto.written log.sink) (flat_map ended lines)

  -- they are the lines of all but the last one, and a front of its line, at which the sink failed
  pub record IsCutOff (log : Logged K) (changes : List Change) : Type 0 where
    pub first : List Change
    pub last : Change
    pub parts : first ++ last ∷ [] ≡ changes
    pub lines : List (List ℕ)
    pub say : SayAll of.cells.about.settings.chunk lines first
    pub line : List ℕ
    pub says : Says of.cells.about.settings.chunk line last
    pub front : List ℕ
    pub more : List ℕ
    pub line_is : front ++ more ≡ ended line
    pub written : Appends of.begun (onto.written log.sink) (flat_map ended lines ++ front)
    pub rose : Rose of.faults (onto.faults log.sink)

  -- The pass is that of the first caller of the cells, the only one that accepts changes, so it has seen each acceptance. If each line
  -- was written whole, the log has the lines of the changes that were accepted since it began, and else a front of these.
  pub record IsLogOf (log : Logged K) (p : BoardPass) : Type 0 where
    pub cells : chain.IsPassOf of.cells p
    pub free : IsFree p
    pub caller : by_of p ≡ 0
    pub only : of.cells.about.first_only ≡ true
    pub since : List Change
    pub accepts : accepted p.seen ≡ of.before ++ since
    pub whole : log.whole ≡ true → HasLines log since × (onto.faults log.sink ≡ of.faults)
    pub cut_off : log.whole ≡ false → IsCutOff log since

-- the change was not accepted, for this cause; or no answer says whether it was
abbrev pub RefusesKept : {W R : Type 0} → Shared W R → BoardPass → BoardPass → Change → Unkept → Type 0
RefusesKept hub p q change (unkept.Refused cause) = firsts.Refuses hub p q change cause
RefusesKept hub p q change unkept.Broken = firsts.SeesMore hub p q
