use Rattle.cq_munch.specs.Automata.{tables_of}
use Rattle.cq_munch.specs.Characters.{seen_by}
use Rattle.cq_munch.proofs.Rowed.{Rowed}
use Rattle.cq_munch.proofs.automaton.longest_row.Given as goal

abbrev pub invariant-loop-i : goal.invariant-loop-i
invariant-loop-i g l = Rowed (tables_of l.fn.by) (seen_by g.S.StandIn.stood l.units) l.i l.state l.found
