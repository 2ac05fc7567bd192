use Rattle.std.proofs.Common.{arith}
use Rattle.cq_func.proofs.Partners.{partner-within}
use Rattle.cq_func.proofs.brackets.partner.Goals as goal

pub returns-clause-bound : goal.returns-clause-bound
returns-clause-bound c =
    let within = partner-within c.args.lang c.args.kind c.args.tokens.now c.args.at c.requires.within in
    let read = c.requires.table.each c.args.at c.requires.within in
    omega (arith, within, read)
