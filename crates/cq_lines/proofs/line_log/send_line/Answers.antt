use Rattle.std.proofs.Common.{◌≡◌, [], ◌∷◌, rules}
use Rattle.cq_lines.proofs.Sent.{then_feed}
use Rattle.cq_lines.proofs.line_log.send_line.Goals as goal

pub returns-clause-bytes : goal.returns-clause-bytes
returns-clause-bytes g c =
    let feed : c.as_slice.result.now ≡ 10 ∷ [] = search rules in
    then_feed _ (g.K.Sink.written c.send.new.sink) _ c.args.line.now c.send-2.result c.in_ok-send.ensures.bytes (rw feed at c.send-2.ensures.bytes)
