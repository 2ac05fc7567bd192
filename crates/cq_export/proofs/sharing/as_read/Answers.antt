use Rattle.cq_export.proofs.sharing.as_read.Goals as goal

pub returns-clause-sound : goal.returns-clause-sound
returns-clause-sound c = record { error = c.in_eight_bytes.ensures.low }
