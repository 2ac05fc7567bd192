use Rattle.std.proofs.Common.{◌≡◌, ap, length, arith}
use Rattle.cq_clones.specs.Groups.{file_at, IsPlace}
use Rattle.cq_tokens.specs.Parts.{tokens_in}
use Rattle.cq_scan.proofs.Places.{upto_keep, upto_all}
use Rattle.cq_scan.proofs.occurrences.push_places.Goals as goal

pub loop-at-preserved : goal.loop-at-preserved
loop-at-preserved g c =
    rw c.in_ok-push.ensures.items
    (upto_keep (IsPlace (tokens_in c.args.files.now)) c.args.all.now.items c.loop-at.all.items c.args.file c.loop-at.at c.requires.earlier (omega arith) c.loop-at.invariant)

pub returns : goal.returns
returns g c =
    let corpus = tokens_in c.args.files.now in
    upto_all (IsPlace corpus) c.args.all.now.items c.loop-at.all.items c.args.file c.loop-at.at
    (λ z here same.
    let long : length (file_at corpus z.file) ≡ length (file_at corpus c.args.file) = ap (λ f. length (file_at corpus f)) same in
    omega (arith, here, long, c.file_len-at-end.ensures))
    c.loop-at.invariant
