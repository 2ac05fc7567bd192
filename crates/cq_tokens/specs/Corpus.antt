-- What a list of files is to the definitions of groups and windows.
use Rattle.std.specs.Prelude.{ℕ, List, map}
use Rattle.std.specs.Arc.{arc_value}
use Rattle.cq_base.specs.declared.norm.Norm.{Norm}
use Rattle.cq_tokens.specs.declared.plain.FileTokens.{FileTokens}

-- the corpus: the tokens of each file
abbrev pub corpus_of : {L : Type 0} → List (FileTokens L) → List (List Norm)
corpus_of files = map (λ file. arc_value file.tokens) files

-- the number of each file's change
abbrev pub changes_of : {L : Type 0} → List (FileTokens L) → List ℕ
changes_of files = map (λ file. file.change) files

-- the keys of each file's windows
abbrev pub keys_of : {L : Type 0} → List (FileTokens L) → List (List ℕ)
keys_of files = map (λ file. arc_value file.keys) files
