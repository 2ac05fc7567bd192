use Rattle.std.proofs.Common.{rules}
use Rattle.std.specs.Arc.{arc_value}
use Rattle.cq_history.specs.Files.{File}
use Rattle.cq_work.specs.declared.work.Work.{Work}
use Rattle.cq_tokform.specs.Spelling.{recorded}
use Rattle.cq_tokfile.proofs.Decoded.{tokens_made, one_file, record_same}
use Rattle.cq_tokfile.proofs.decoding.held_of.Goals as goal

pub returns-clause-same : goal.returns-clause-same
returns-clause-same g c =
    let f : File (Work g.row.L.Denot) = record { path = arc_value c.in_ok-path.path; number = c.args.file.change; lang = c.args.file.lang; body = arc_value c.in_ok-work.work } in
    record_same f (recorded c.args.file) (search rules) (search rules) (search rules) (search rules) (search rules)
    (tokens_made c.args.keyer.now.settings f c.args.file.tokens.items (search rules) (search rules)) (search rules)

pub returns-clause-parts : goal.returns-clause-parts
returns-clause-parts g c =
    let f : File (Work g.row.L.Denot) = record { path = arc_value c.in_ok-path.path; number = c.args.file.change; lang = c.args.file.lang; body = arc_value c.in_ok-work.work } in
    one_file c.args.keyer.now.settings f c.args.file.tokens.items (search rules) (search rules) (search rules) (search rules)
