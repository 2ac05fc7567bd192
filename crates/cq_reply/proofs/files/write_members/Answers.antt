use Rattle.std.proofs.Common.{ap}
use Rattle.serde_json.specs.Data.{string}
use Rattle.cq_reply.proofs.Adding.{then, at_last, same_member}
use Rattle.cq_reply.proofs.files.write_members.Goals as goal

pub returns : goal.returns
returns c =
    let change = c.in_ok-write_number.ensures in
    let lang = same_member (ap string c.name.ensures) c.in_ok-write_string.ensures in
    let lines = c.in_ok-write_number-2.ensures in
    let path = same_member (ap string c.as_bytes.ensures) c.in_ok-write_text.ensures in
    let state = c.in_ok-write_string-2.ensures in
    let tokens = c.in_ok-write_number-3.ensures in
    at_last _ c.end_object.result (then (then (then (then (then change.adds lang.adds) lines.adds) path.adds) state.adds) tokens.adds) c.end_object.ensures (λ added. record {
      adds = added;
      change = change.reads;
      lines = lines.reads;
      tokens = tokens.reads;
    })
