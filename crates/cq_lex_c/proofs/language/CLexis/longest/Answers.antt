use Rattle.std.proofs.Common.{sym, ◌∙◌}
use Rattle.cq_munch.proofs.Trying.{blank_there}
use Rattle.cq_lex_c.specs.C.{is_blank, rows_at, mode_behind}
use Rattle.cq_lex_c.proofs.language.CLexis.longest.Goals as goal

pub returns-then-is_blank-clause-taken : goal.returns-then-is_blank-clause-taken
returns-then-is_blank-clause-taken c =
    blank_there is_blank rows_at mode_behind c.args.units.now c.args.at c.args.mode c.requires.inside c.mode_behind_blank.result (sym c.is_blank.ensures ∙ c.if-is_blank.true) c.mode_behind_blank.ensures
