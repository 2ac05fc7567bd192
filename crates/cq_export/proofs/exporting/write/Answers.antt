use Rattle.std.proofs.Common.{List, ℕ, ◌∙◌, refl, sym, subst}
use Rattle.std.specs.Io.KnownBytes.{Appends}
use Rattle.cq_export.proofs.exporting.write.Goals as goal
use Rattle.cq_tokfile.specs.Snapshot.{IsTokenFile}

pub returns-in-Ok-clause-writes : goal.returns-in-Ok-clause-writes
returns-in-Ok-clause-writes g c = (
  c.in-Ok-Bytes.bytes.items,
  rw c.in-Ok-Bytes.field-0-is at c.in-Ok-Bytes.ensures,
  subst (λ (piece : List ℕ). Appends (g.K.Sink.written c.args.sink.now) (g.K.Sink.written c.send.new.sink) piece) c.deref.ensures.value c.in-Ok.ensures.bytes,
  c.in-Ok.ensures.cause.kept,
)

pub returns-in-Ok-Bytes-clause-writes : goal.returns-in-Ok-Bytes-clause-writes
returns-in-Ok-Bytes-clause-writes g c =
    let (front, more, parts, sent) = c.in-Err-send.ensures.bytes in (
      front,
      more,
      subst (IsTokenFile c.args.settings.now c.args.snapshot.now) (sym (parts ∙ c.deref.ensures.value)) (rw c.in-Ok-Bytes.field-0-is at c.in-Ok-Bytes.ensures),
      sent,
      c.in-Err-send.ensures.cause.failed,
    )

pub returns-in-Ok-TooLarge-clause-writes : goal.returns-in-Ok-TooLarge-clause-writes
returns-in-Ok-TooLarge-clause-writes g c = (rw c.in-Ok-TooLarge.field-0-is at c.in-Ok-TooLarge.ensures, refl)
