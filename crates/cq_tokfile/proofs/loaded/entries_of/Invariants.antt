use Rattle.cq_tokens.specs.Corpus.{changes_of, keys_of}
use Rattle.cq_tokfile.proofs.Indexing.{AreOfFiles}
use Rattle.cq_tokfile.proofs.loaded.entries_of.Given as goal

abbrev pub invariant-loop-file : goal.invariant-loop-file
invariant-loop-file g l = AreOfFiles (changes_of l.files) (keys_of l.files) l.file-index l.entries.items
