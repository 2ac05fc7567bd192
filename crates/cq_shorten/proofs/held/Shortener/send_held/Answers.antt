use Rattle.std.proofs.Common.{◌≡◌, ◌∙◌, ℕ, List, subst, rules}
use Rattle.cq_io.specs.Sending.{Sends}
use Rattle.cq_lines.specs.Pieces.{ended}
use Rattle.cq_shorten.proofs.Writing.{found_held, found_none}
use Rattle.cq_shorten.proofs.held.Shortener.send_held.Goals as goal

pub returns-in-Some-clause-bytes : goal.returns-in-Some-clause-bytes
returns-in-Some-clause-bytes g c = λ line has.
    let slice : c.as_slice.result.now ≡ c.in-Some.line.now.items = search rules in
    subst (λ (bytes : List ℕ). Sends (g.K.Sink.written c.args.sink.now) (g.K.Sink.written c.send_line.new.sink) (ended bytes) c.send_line.result)
    (slice ∙ found_held c.args.self.now c.args.number c.get.result c.get.ensures.value c.in-Some.line c.in-Some.is line has) c.send_line.ensures.bytes

pub returns-in-None-clause-bytes : goal.returns-in-None-clause-bytes
returns-in-None-clause-bytes g c = λ line has. absurd (found_none c.args.self.now c.args.number c.get.result c.get.ensures.value c.in-None.is line has)
