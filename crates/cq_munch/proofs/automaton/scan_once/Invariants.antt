use Rattle.cq_munch.specs.Automata.{tables_of}
use Rattle.cq_munch.specs.Characters.{characters}
use Rattle.cq_munch.proofs.Once.{Unended}
use Rattle.cq_munch.proofs.automaton.scan_once.Given as goal

abbrev pub invariant-loop-i : goal.invariant-loop-i
invariant-loop-i l = Unended (tables_of l.fn.by) (characters l.units) l.i l.state
