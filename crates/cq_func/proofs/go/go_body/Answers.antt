use Rattle.std.proofs.Common.{arith}
use Rattle.std.proofs.lemmas.List.{get_or_read}
use Rattle.cq_func.proofs.Partners.{go_end-within}
use Rattle.cq_func.proofs.go.go_body.Goals as goal

pub overflow_sub-end : goal.overflow_sub-end
overflow_sub-end c =
    let ends = c.requires.looked_up.ends in
    let long = ends.long in
    let within = go_end-within c.args.tokens.now c.args.close c.requires.within in
    let read = get_or_read c.args.tables.now.ends.items c.args.close c.index.result.now (omega (arith, long)) c.index.ensures 0 in
    let is = ends.each c.args.close c.requires.within in
    omega (arith, within, read, is)

pub overflow_sub-result : goal.overflow_sub-result
overflow_sub-result c =
    let ends = c.requires.looked_up.ends in
    let long = ends.long in
    let within = go_end-within c.args.tokens.now c.args.close c.requires.within in
    let read = get_or_read c.args.tables.now.ends.items c.args.close c.index.result.now (omega (arith, long)) c.index.ensures 0 in
    let is = ends.each c.args.close c.requires.within in
    omega (arith, within, read, is)
