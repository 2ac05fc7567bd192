use Rattle.std.proofs.Common.{◌∙◌, sym, subst}
use Rattle.cq_base.specs.Settings.{IsInRange}
use Rattle.cq_part_cases.proofs.turning.turns.Goals as goal

pub two_turns-requires-clause-in_range : goal.two_turns-requires-clause-in_range
two_turns-requires-clause-in_range g c = subst IsInRange (sym c.plain-keyer.ensures) c.requires.in_range

pub two_turns-requires-clause-hub_settings : goal.two_turns-requires-clause-hub_settings
two_turns-requires-clause-hub_settings g c = c.in_ok-made.ensures.settings ∙ sym c.plain-keyer.ensures
