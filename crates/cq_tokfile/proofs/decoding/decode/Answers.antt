use Rattle.std.proofs.Common.{◌≡◌, length, ap, rules}
use Rattle.std.proofs.lemmas.List.{nil_from_length}
use Rattle.cq_tokform.specs.Spelling.{listed}
use Rattle.cq_tokfile.proofs.Decoded.{is_token_file, left_over, not_read}
use Rattle.cq_tokfile.proofs.decoding.decode.Goals as goal

-- each answer is a lemma of Decoded over what `read_whole` says in `reads`

pub snapshot_of-requires-clause-sound : goal.snapshot_of-requires-clause-sound
snapshot_of-requires-clause-sound g c = c.in-Ok.ensures.reads.0

pub returns-in_ok-snapshot_of-in-Ok : goal.returns-in_ok-snapshot_of-in-Ok
returns-in_ok-snapshot_of-in-Ok g c =
    let rest : length c.in-Ok.rest.now ≡ 0 = search rules in
    is_token_file c.args.keyer.now.settings c.args.bytes.now (listed c.in-Ok.contents) c.in-Ok.rest.now _ c.in-Ok.ensures.reads.0 c.in-Ok.ensures.reads.1 (nil_from_length c.in-Ok.rest.now rest) c.in_ok-snapshot_of-in-Ok.ensures.same c.in_ok-snapshot_of-in-Ok.ensures.sound

pub returns-then-not-is_empty : goal.returns-then-not-is_empty
returns-then-not-is_empty g c = left_over c.args.keyer.now.settings c.args.bytes.now (listed c.in-Ok.contents) c.in-Ok.rest.now c.in-Ok.ensures.reads.0 c.in-Ok.ensures.reads.1 (λ none. let len : length c.in-Ok.rest.now ≡ 0 = ap length none in search (rules, len))

pub returns-in-Err-Refused : goal.returns-in-Err-Refused
returns-in-Err-Refused g c = not_read c.args.keyer.now.settings c.args.bytes.now (rw c.in-Err-Refused.field-0-is at c.in-Err-Refused.ensures.reads)
