use Rattle.std.proofs.Common.{List, sym, subst}
use Rattle.std.specs.Prelude.{AllPairs}
use Rattle.cq_base.specs.declared.entry.Entry.{Entry}
use Rattle.cq_clones.specs.Windows.{IsBucket}
use Rattle.cq_tokens.specs.Corpus.{changes_of, keys_of}
use Rattle.cq_tokfile.specs.Loaded.{KeyedFiles, KeyedBefore, AreThoseOf}
use Rattle.cq_tokfile.proofs.Indexing.{is_bucket}
use Rattle.cq_tokfile.proofs.loaded.LoadedBuckets.bucket.Goals as goal

pub with_key-requires : goal.with_key-requires
with_key-requires g c = subst (AllPairs KeyedBefore) (sym c.deref.ensures.value) c.self.invariant.ordered

pub returns-clause-bucket : goal.returns-clause-bucket
returns-clause-bucket g c =
    let found = c.in_ok-found.found in
    subst (λ (b : KeyedFiles). IsBucket b.changes b.keys c.args.key found.items) c.self.view_is
    (is_bucket (changes_of c.self.inside.files.items) (keys_of c.self.inside.files.items) c.args.key c.self.inside.entries.items found.items c.self.invariant (subst (λ (es : List Entry). AreThoseOf c.args.key es found.items) c.deref.ensures.value c.in_ok-found.ensures))
