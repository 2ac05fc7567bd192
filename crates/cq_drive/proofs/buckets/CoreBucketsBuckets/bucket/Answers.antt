use Rattle.std.proofs.Common.{◌%◌, sym, subst}
use Rattle.std.specs.Prelude.{IfSome}
use Rattle.cq_session.specs.Projects.{keys_in_files}
use Rattle.cq_projects.specs.Spotted.{numbers_of}
use Rattle.cq_clones.specs.Windows.{IsBucket}
use Rattle.cq_core.specs.Readings.{AreRead}
use Rattle.cq_work.specs.Work.{IsWorkOf}
use Rattle.cq_drive.specs.Cores.{keys_of}
use Rattle.cq_drive.proofs.InView.{bucket_of}
use Rattle.cq_drive.proofs.buckets.CoreBucketsBuckets.bucket.Goals as goal

pub returns-clause-bucket : goal.returns-clause-bucket
returns-clause-bucket g c =
    let b = c.args.self.now in
    let read = subst (λ o. IfSome o (λ es. AreRead (keys_of {L = g.row.L.Denot}) IsWorkOf b.core.now b.by (c.args.key % b.settings.now.shards) c.args.key es.items)) c.in-Some.is
    (subst (λ n. IfSome c.in_ok-entries.field-0 (λ es. AreRead (keys_of {L = g.row.L.Denot}) IsWorkOf b.core.now b.by (c.args.key % n) c.args.key es.items)) c.from.ensures c.in_ok-entries.ensures.entries) in
    subst (IsBucket (numbers_of b.files.now) (keys_in_files (keys_of {L = g.row.L.Denot}) b.files.now) c.args.key) (sym c.keep.ensures)
    (bucket_of g.row.L.Denot b.settings.now b.core.now b.by c.args.key b.files.now c.in-Some.entries.items c.requires read)
