use Rattle.std.proofs.Common.{List, map, refl, ap}
use Rattle.serde_json.specs.Data.{array}
use Rattle.serde_json.specs.View.{items_of}
use Rattle.cq_reply.specs.Written.{place_data}
use Rattle.cq_reply.specs.declared.reply.PlaceRow.{PlaceRow}
use Rattle.cq_reply.proofs.Adding.{after_list, same_value}
use Rattle.cq_reply.proofs.Read.{object_read}
use Rattle.cq_reply.proofs.groups.write_group.Goals as goal

pub returns : goal.returns
returns c =
    let list = same_value (ap (λ (ps : List PlaceRow). array (items_of (map place_data ps))) c.as_slice.ensures) c.in_ok-write_places.ensures in
    after_list _ c.end_object.result c.in_ok-begin_object.ensures c.in_ok-key.ensures list c.in_ok-write_number.ensures.adds c.end_object.ensures (λ added. record {
      adds = added;
      reads = object_read _ (list.reads, (c.in_ok-write_number.ensures.reads, tt)) refl;
    })
