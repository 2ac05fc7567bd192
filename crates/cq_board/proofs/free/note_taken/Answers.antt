use Rattle.std.proofs.Common.{◌≡◌, [], refl, ap, ◌∙◌, arith, get_or}
use Rattle.std.proofs.lemmas.Bool.{both_ways}
use Rattle.std.proofs.lemmas.List.{nil_from_length}
use Rattle.std.specs.List.{list_any}
use Rattle.std.specs.BinaryHeap.{heap_items}
use Rattle.cq_history.specs.State.{no_slot}
use Rattle.cq_board.specs.Free.{is_index, was_given}
use Rattle.cq_board.proofs.Freeing.{first_can, taken_given, taken_first, free_has_no_holder}
use Rattle.cq_board.proofs.free.note_taken.Goals as goal

pub returns-in-Some-clause-taken : goal.returns-in-Some-clause-taken
returns-in-Some-clause-taken c slots floor slot are first within taken =
    taken_given slots floor c.args.free.now are c.args.i slot within _ c.in-Some._given (ap (λ x. x.0) c.in-Some.ensures.top ∙ c.requires.next c.if-i-free.true c.in-Some._given) c.if-i-free.true taken
    (free_has_no_holder (get_or slots c.args.i no_slot) (first_can slots c.args.i first within)) refl c.in-Some.ensures.permutation (c.in-Some.ensures.heap_order are.heap).0 c.in-Some.ensures.len

pub returns-in-None-clause-taken : goal.returns-in-None-clause-taken
returns-in-None-clause-taken c slots floor slot are first within taken =
    let empty : heap_items c.args.free.now.given_back ≡ [] = nil_from_length (heap_items c.args.free.now.given_back) (omega (arith, c.args.free.now.given_back.data.ok.0, c.in-None.ensures.none)) in
    absurd (both_ways (was_given c.args.free.now c.args.i) (ap (list_any (is_index c.args.i)) empty) (are.given c.args.i c.if-i-free.true (first_can slots c.args.i first within)))

pub returns-else-i-free-clause-taken : goal.returns-else-i-free-clause-taken
returns-else-i-free-clause-taken c slots floor slot are first within taken =
    taken_first slots floor c.args.free.now are c.args.i slot within _ (omega (arith, c.if-i-free.false)) first taken refl refl
