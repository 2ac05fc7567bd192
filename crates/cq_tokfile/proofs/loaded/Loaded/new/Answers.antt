use Rattle.std.proofs.Common.{◌∙◌, ap, sym, subst}
use Rattle.std.specs.Prelude.{AllPairs, ◌≢◌}
use Rattle.cq_projects.specs.Spotted.{numbers_of}
use Rattle.cq_tokens.specs.Corpus.{changes_of}
use Rattle.cq_tokfile.proofs.Indexing.{spots_apart}
use Rattle.cq_tokfile.proofs.loaded.Loaded.new.Goals as goal

pub entries_of-requires : goal.entries_of-requires
entries_of-requires g c =
    subst (λ ns. AllPairs (λ a b. a ≢ b) ns) (sym (ap changes_of c.as_slice.ensures.value ∙ c.in_ok-files.ensures.changes)) (spots_apart (numbers_of c.args.snapshot.now.files) c.spots-apart.result.now c.spots-apart.ensures)
