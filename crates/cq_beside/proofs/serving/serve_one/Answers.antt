use Rattle.std.proofs.Common.{◌+◌, rules}
use Rattle.cq_shared.specs.SharedPasses.{callers_of}
use Rattle.cq_beside.proofs.OthersQuiet.{heard_lawful, serves_with_workers}
use Rattle.cq_beside.proofs.Served.{told_behind, cause_behind}
use Rattle.cq_beside.proofs.serving.serve_one.Goals as goal

pub returns-clause-served : goal.returns-clause-served
returns-clause-served g c =
    let b = c.beside-over.ensures.besides in
    let p = c.args.crew.pass in
    record {
      heard = b.heard;
      asked = b.asked;
      lawful = heard_lawful c.args.server.now.hub.now p c.beside-over.result.1 c.args.crew.workers _ b c.args.server.now.keyer.now.settings c.requires.hub_settings;
      told = told_behind g.S.Source g.K.Sink c.args.server.now.keyer.now.settings (callers_of c.args.server.now.hub.now) (p.next + c.args.crew.workers) p.seen _ _ _ b.heard b.asked _ _ _ _ _ _ _ _ (search rules) (search rules) (search rules) b.said.0;
    }

pub returns-clause-beside : goal.returns-clause-beside
returns-clause-beside g c =
    let b = c.beside-over.ensures.besides in
    let p = c.args.crew.pass in
    λ first. serves_with_workers c.args.server.now.hub.now p c.beside-over.result.1 c.args.crew.workers _ c.requires.of c.requires.room first b g.S.Source g.K.Sink c.args.server.now.keyer.now.settings c.requires.hub_settings _ _ _ _ _ _ _ _
    (told_behind g.S.Source g.K.Sink c.args.server.now.keyer.now.settings (callers_of c.args.server.now.hub.now) (p.next + c.args.crew.workers) p.seen _ _ _ b.heard b.asked _ _ _ _ _ _ _ _ (search rules) (search rules) (search rules) b.said.0)

pub returns-clause-cause : goal.returns-clause-cause
returns-clause-cause g c = cause_behind g.S.Source g.K.Sink _ _ _ _ _ _ _ (search rules) (search rules) c.beside-over.ensures.besides.said.1
