use Rattle.std.proofs.Common.{◌≡◌, take}
use Rattle.cq_projects.specs.Spotted.{numbers_of}
use Rattle.cq_tokens.specs.Corpus.{changes_of, keys_of}
use Rattle.cq_tokfile.specs.Loaded.{keys_in}
use Rattle.cq_tokfile.proofs.loaded.shared_files.Given as goal

abbrev pub invariant-loop-i : goal.invariant-loop-i
invariant-loop-i g l = (changes_of l.shared.items ≡ numbers_of (take l.i l.files)) × (keys_of l.shared.items ≡ keys_in (take l.i l.files))
