use Rattle.std.proofs.Common.{◌≡◌, ◌+◌, ◌-◌, [], length}
use Rattle.cq_lines.specs.Serving.{RepliedSoFar}
use Rattle.cq_lines.proofs.serve.serve_lines_until.Given as goal

abbrev pub invariant-lines : goal.invariant-lines
invariant-lines g l = record {
  goes : (from : g.A.AnswersUntil.Beginning) → g.A.AnswersUntil.AreReplies from l.fn.answers l.fn.answers [] []
      → RepliedSoFar g.A.AnswersUntil.line_of (g.A.AnswersUntil.AreReplies from l.fn.answers l.answers) l.fn.lines.limit (g.S.Source.rest l.fn.source) (g.S.Source.rest l.source) (g.K.Sink.written l.fn.sink) (g.K.Sink.written l.sink) l.lines;
  ready : g.A.AnswersUntil.ready l.answers;
  source_faults : g.S.Source.faults l.source ≡ g.S.Source.faults l.fn.source;
  sink_faults : g.K.Sink.faults l.sink ≡ g.K.Sink.faults l.fn.sink;
  limit : l.lines.limit ≡ l.fn.lines.limit;
}

abbrev pub decreases-lines : goal.decreases-lines
decreases-lines g l = (l.lines.limit - l.lines.taken) + length l.lines.pending
