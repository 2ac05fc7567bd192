use Rattle.std.proofs.Common.{rules, arith, refl}
use Rattle.cq_cells.proofs.Counting.{one_more, upper_bits}
use Rattle.cq_part_cases.proofs.telling.add.Goals as goal

pub leave_board-requires : goal.leave_board-requires
leave_board-requires g c =
    let of = c.requires.of in
    let seen = c.args.pass.now.seen in
    let before = c.args.tally.events in
    let now = c.count.new.self.events in
    λ κs out. (
      search rules,
      (
        search rules,
        (
          search rules,
          (
            search rules,
            (
              search rules,
              (
                search rules,
                (
                  of,
                  (
                    (c.args.tally, c.requires.hand),
                    (record { law = tt; maker = (of.has_caller, refl); applied = λ s lt. omega arith }, (upper_bits now c.half-events.result _ (one_more seen _ before now c.requires.board c.count.ensures) c.half-events.ensures, one_more seen _ before now c.requires.board c.count.ensures)),
                  ),
                ),
              ),
            ),
          ),
        ),
      ),
    )
