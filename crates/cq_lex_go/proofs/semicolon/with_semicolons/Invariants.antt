use Rattle.std.specs.Vec.Iter.{into_iter_items}
use Rattle.cq_lex_go.proofs.Inserting.{SoFar}
use Rattle.cq_lex_go.proofs.semicolon.with_semicolons.Given as goal

abbrev pub invariant-loop-spelled : goal.invariant-loop-spelled
invariant-loop-spelled l =
    (goal.iterator-loop-spelled).can_next l.spelled-iterator × (goal.iterator-loop-spelled).is_finite l.spelled-iterator
    × SoFar l.text l.fn.tokens.items l.all.items l.last (into_iter_items l.spelled-iterator)
