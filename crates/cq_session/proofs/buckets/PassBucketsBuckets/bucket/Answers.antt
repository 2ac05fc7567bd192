use Rattle.std.proofs.Common.{refl, sym, subst, arith}
use Rattle.cq_clones.specs.Windows.{IsBucket}
use Rattle.cq_projects.specs.Spotted.{numbers_of}
use Rattle.cq_session.specs.Projects.{keys_in_files}
use Rattle.cq_session.proofs.PassReads.{read_later, ready_again, open_again, open_files}
use Rattle.cq_session.proofs.ProjectEntries.{project_bucket}
use Rattle.cq_session.proofs.buckets.PassBucketsBuckets.bucket.Goals as goal

pub returns-in_err-entries-clause-ready : goal.returns-in_err-entries-clause-ready
returns-in_err-entries-clause-ready g c =
    let b = c.args.self.now in
    let r = c.requires in
    ready_again g.H.Hub.Stands g.H.Hub.settings g.H.Hub.callers g.H.Hub.alone g.W.Indexed.IsWorkOf (λ hub pass by h s. g.met.H.Hub.lawful hub pass by h s) b.hub.now b.view.now b.pass.now c.read_bucket.new.pass b.files.now r _ (c.read_bucket.ensures.reads r.caller r.seen r.stands)

pub returns-in_err-entries-clause-moved : goal.returns-in_err-entries-clause-moved
returns-in_err-entries-clause-moved g c =
    let b = c.args.self.now in
    record {
      same_hub = refl;
      same_view = refl;
      same_pass = refl;
      moves = λ by h stands opened. read_later g.H.Hub.Stands g.H.Hub.settings g.H.Hub.callers g.H.Hub.alone g.W.Indexed.IsWorkOf (λ hub pass n l s. g.met.H.Hub.lawful hub pass n l s) b.hub.now b.view.now b.pass.now c.read_bucket.new.pass by h _ stands opened (c.read_bucket.ensures.reads by h stands);
      no_fewer = let e = c.read_bucket.ensures.asked in omega (arith, e);
    }

pub returns-clause-ready : goal.returns-clause-ready
returns-clause-ready g c =
    let b = c.args.self.now in
    let r = c.requires in
    ready_again g.H.Hub.Stands g.H.Hub.settings g.H.Hub.callers g.H.Hub.alone g.W.Indexed.IsWorkOf (λ hub pass by h s. g.met.H.Hub.lawful hub pass by h s) b.hub.now b.view.now b.pass.now c.read_bucket.new.pass b.files.now r _ (c.read_bucket.ensures.reads r.caller r.seen r.stands)

pub returns-clause-moved : goal.returns-clause-moved
returns-clause-moved g c =
    let b = c.args.self.now in
    record {
      same_hub = refl;
      same_view = refl;
      same_pass = refl;
      moves = λ by h stands opened. read_later g.H.Hub.Stands g.H.Hub.settings g.H.Hub.callers g.H.Hub.alone g.W.Indexed.IsWorkOf (λ hub pass n l s. g.met.H.Hub.lawful hub pass n l s) b.hub.now b.view.now b.pass.now c.read_bucket.new.pass by h _ stands opened (c.read_bucket.ensures.reads by h stands);
      no_fewer = let e = c.read_bucket.ensures.asked in omega (arith, e);
    }

pub returns-clause-bucket : goal.returns-clause-bucket
returns-clause-bucket g c =
    let b = c.args.self.now in
    let r = c.requires in
    let set = g.H.Hub.settings b.hub.now in
    let call = c.in_ok-entries.ensures.reads r.caller r.seen r.stands in
    let opened = open_again g.H.Hub.Stands g.H.Hub.settings g.H.Hub.callers g.H.Hub.alone g.W.Indexed.IsWorkOf (λ hub pass by h s. g.met.H.Hub.lawful hub pass by h s) b.hub.now b.view.now b.pass.now c.read_bucket.new.pass r.caller r.seen _ r.stands r.opened call in
    let same = open_files (g.W.Indexed.IsWorkOf set) (g.H.Hub.callers b.hub.now) r.caller call.mid b.view.now r.project b.files.now opened r.files_are in
    subst (IsBucket (numbers_of b.files.now) (keys_in_files g.W.Indexed.keys_in b.files.now) c.args.key) (sym c.keep.ensures)
    (project_bucket g.W.Indexed.keys_in g.W.Indexed.IsWorkOf g.met.W.Indexed.determined set _ b.view.now.version r.project b.files.now same c.args.key c.in_ok-entries.entries.items call.says)
