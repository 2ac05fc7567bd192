use Rattle.std.proofs.Common.{sym, subst}
use Rattle.cq_tokfile.specs.Loaded.{AreThoseOf}
use Rattle.cq_tokfile.proofs.Indexing.{are_those}
use Rattle.cq_tokfile.proofs.loaded.with_key.Goals as goal

pub returns : goal.returns
returns c =
    let entries = c.args.entries.now in
    let key = c.args.key in
    subst (AreThoseOf key entries) (sym c.in_ok-found.ensures.items) (are_those key entries c.requires c.first_at-from.result c.end_of-to.result c.end_of-to.ensures.further c.first_at-from.ensures c.end_of-to.ensures.first)
