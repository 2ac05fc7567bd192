-- What an answer costs, by the changes up to a version: which keys an index is asked for, and how many tokens are read.
use Rattle.std.specs.Prelude.{ℕ, List}
use Rattle.cq_base.specs.declared.settings.Settings.{Settings}
use Rattle.cq_base.specs.declared.change.Change.{Change}
use Rattle.cq_request.specs.declared.request.Query.{Query}
use Rattle.cq_answer.specs.Readings.{Reading, AreRead, corpus_read, keys_read}
use Rattle.cq_answer.specs.Parts.{AreKeysOf, AreMostReads}
use Rattle.cq_answer.specs.Reply.{part_read}

-- the keys that are asked for, each once
pub record AreAsked (set : Settings) (changes : List Change) (version : ℕ) (q : Query) (ks : List ℕ) : Type 0 where
  pub readings : List Reading
  pub are_read : AreRead changes version q.project readings
  pub are_keys : AreKeysOf (keys_read set readings) (part_read readings q) ks

-- no more tokens are read than these
pub record IsMostRead (set : Settings) (changes : List Change) (version : ℕ) (q : Query) (reads : ℕ) : Type 0 where
  pub readings : List Reading
  pub are_read : AreRead changes version q.project readings
  pub are_reads : AreMostReads (corpus_read set readings) (keys_read set readings) (part_read readings q) reads
