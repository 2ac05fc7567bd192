use Rattle.std.proofs.Common.{arith}
use Rattle.cq_clones.specs.Groups.{IsPlace}
use Rattle.cq_tokens.specs.Parts.{tokens_in}
use Rattle.cq_tokens.proofs.Places.{file_of_place}
use Rattle.cq_scan.proofs.Places.{files_more, files_all}
use Rattle.cq_scan.proofs.occurrences.all_places.Goals as goal

pub push_places-requires-clause-earlier : goal.push_places-requires-clause-earlier
push_places-requires-clause-earlier g c = λ z here. ((c.loop-file.invariant.each z).0 here).1

pub loop-file-preserved : goal.loop-file-preserved
loop-file-preserved g c =
    files_more (IsPlace (tokens_in c.args.files.now)) c.loop-file.all.items _ c.loop-file.file c.loop-file.invariant c.in_ok-push_places.ensures

pub returns : goal.returns
returns g c =
    files_all (IsPlace (tokens_in c.args.files.now)) _ c.loop-file.file
    (λ z here. let inside = file_of_place (tokens_in c.args.files.now) z here in omega (arith, inside))
    c.loop-file.invariant
