use Rattle.std.proofs.Common.{length, ap, arith}
use Rattle.cq_make.proofs.Told.{rows_few}
use Rattle.cq_make.proofs.making.line_told.Goals as goal

pub token_count-tokens-requires : goal.token_count-tokens-requires
token_count-tokens-requires c =
    let rows = c.requires.rows in
    let same = ap length (c.rows_in.ensures _ _ rows.reply_is) in
    let few = rows_few c.args.settings.now c.args.project.number c.args.project.files c.args.rows.now rows in
    omega (arith, same, few, c.requires.few)
