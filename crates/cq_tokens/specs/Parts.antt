-- The parts of files that are read together, file by file: what the definitions of groups and windows speak of.
use Rattle.std.specs.Prelude.{ℕ, List}
use Rattle.std.specs.declared.sync.ledger.Ledger as ledger
use Rattle.cq_base.specs.declared.norm.Norm.{Norm}
use Rattle.cq_tokens.specs.declared.files.Files as files
use Rattle.cq_tokens.specs.declared.corpus.FileList.{FileList}
use Rattle.cq_tokens.specs.declared.corpus.Corpus.{Corpus}

module _ {F R : Type 0} {f : files.Ghosts F R} {g : ledger.Ghosts R} where
  -- the tokens of each file
  abbrev pub tokens_in : FileList F R f g → List (List Norm)
  tokens_in list = f.tokens list.items.now

  -- the number of each file's change
  abbrev pub changes_in : Corpus F R f g → List ℕ
  changes_in corpus = f.changes corpus.files.items.now

  -- the keys of each file's windows
  abbrev pub keys_in : Corpus F R f g → List (List ℕ)
  keys_in corpus = f.keys corpus.files.items.now
