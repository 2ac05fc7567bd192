use Rattle.std.proofs.Common.{rules, arith, length, ap}
use Rattle.std.proofs.lemmas.List.{append-nil}
use Rattle.cq_part_cases.proofs.telling.how_often.Goals as goal

pub leave_board-requires : goal.leave_board-requires
leave_board-requires g c =
    let e = c.enter_board-tally.ensures in
    let same = ap length (append-nil c.enter_board-tally.new.pass.seen) in
    λ κs out. (
      search rules,
      (
        search rules,
        (
          search rules,
          (
            search rules,
            (
              search rules,
              (
                search rules,
                (
                  e.of.0,
                  (
                    (c.enter_board-tally.result, e.hand),
                    (tt, (omega (arith, c.half-events.ensures, e.board, same), omega (arith, e.board, same))),
                  ),
                ),
              ),
            ),
          ),
        ),
      ),
    )
