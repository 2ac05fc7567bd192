use Rattle.std.proofs.Common.{arith}
use Rattle.std.proofs.lemmas.List.{take_all}
use Rattle.cq_reply.specs.Written.{place_data}
use Rattle.cq_reply.proofs.Adding.{each_none, each_more, listed}
use Rattle.cq_reply.proofs.groups.write_places.Goals as goal

pub loop-row-init : goal.loop-row-init
loop-row-init c = each_none place_data _

pub loop-row-preserved : goal.loop-row-preserved
loop-row-preserved c = each_more place_data c.args.rows.now c.loop-row.row-index c.row-item.result c.loop-row-test.true c.row-item.is c.loop-row.invariant c.in_ok-write_place.ensures

pub returns : goal.returns
returns c = listed place_data c.args.rows.now _ c.end_array.result (take_all c.loop-row.row-index c.args.rows.now (omega arith)) c.in_ok-begin_array.ensures c.loop-row.invariant c.end_array.ensures
