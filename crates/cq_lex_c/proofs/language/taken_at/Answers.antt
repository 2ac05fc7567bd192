use Rattle.std.proofs.Common.{sym, ◌∙◌}
use Rattle.cq_munch.proofs.Trying.{mark_there, none_there, some_there, units_there}
use Rattle.cq_lex_c.specs.C.{is_blank, rows_at, mode_behind}
use Rattle.cq_lex_c.proofs.language.taken_at.Goals as goal

pub returns-then-is_mark-clause-taken : goal.returns-then-is_mark-clause-taken
returns-then-is_mark-clause-taken c =
    mark_there is_blank rows_at mode_behind c.args.units.now c.args.at c.args.mode c.requires.inside c.mode_behind_blank.result (sym c.is_mark.ensures ∙ c.if-is_mark.true) c.mode_behind_blank.ensures

pub slice_bounds-mode_behind-end : goal.slice_bounds-mode_behind-end
slice_bounds-mode_behind-end c = units_there c.args.units.now c.args.at c.in-Some.found.units c.in-Some.ensures.found.0.within

pub returns-in-None-clause-taken : goal.returns-in-None-clause-taken
returns-in-None-clause-taken c =
    none_there is_blank rows_at mode_behind c.args.units.now c.args.at c.args.mode c.requires.inside c.requires.visible (sym c.is_mark.ensures ∙ c.if-is_mark.false) c.in-None.ensures.found

pub returns-in-Some-clause-taken : goal.returns-in-Some-clause-taken
returns-in-Some-clause-taken c =
    some_there is_blank rows_at mode_behind c.args.units.now c.args.at c.args.mode c.requires.inside c.requires.visible (sym c.is_mark.ensures ∙ c.if-is_mark.false)
    c.in-Some.found c.mode_behind.result c.in-Some.ensures.found c.mode_behind.ensures
