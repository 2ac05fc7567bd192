-- The number of keys is that of changes.
use Rattle.std.specs.Prelude.{◌≡◌, List, length}
use Rattle.std.specs.Arc.{arc_value}
use Rattle.std.proofs.Common.{sym, ◌∙◌}
use Rattle.std.proofs.lemmas.List.{length-map}
use Rattle.cq_tokens.specs.declared.plain.FileTokens.{FileTokens}
use Rattle.cq_tokens.specs.Corpus.{changes_of, keys_of}

pub as_many : {L : Type 0} (files : List (FileTokens L)) → length (keys_of files) ≡ length (changes_of files)
as_many files = length-map files (λ file. arc_value file.keys) ∙ sym (length-map files (λ file. file.change))
