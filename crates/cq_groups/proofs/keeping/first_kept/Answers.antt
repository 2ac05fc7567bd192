use Rattle.std.proofs.Common.{◌≡◌, ℕ, ◌+◌, ◌-◌, ◌<◌, Option, Some, true, false, arith, ap₂, sym, ◌∙◌, subst}
use Rattle.std.specs.Int.{div_ceil}
use Rattle.cq_base.specs.declared.group.Place.{Place}
use Rattle.cq_groups.specs.Sets.{IsFreeAt}
use Rattle.cq_groups.proofs.Kept.{left_at, gaps_reached, reached_in_row, free_in_row}
use Rattle.cq_groups.proofs.keeping.first_kept.Goals as goal

pub overflow_sub-reach : goal.overflow_sub-reach
overflow_sub-reach c =
    let h = left_at c.args.tokens c.in-Some.kept c.place_in-next.result (sym c.is_free_behind.ensures ∙ c.if-is_free_behind.false) in
    omega (arith, h, c.from.ensures, c.from-2.ensures, c.from-3.ensures)

pub returns : goal.returns
returns c =
    let n = c.args.tokens in
    let last = c.in-Some.kept in
    let next = c.place_in-next.result in
    let row = c.args.row.now in
    let from = c.args.from in
    let passed = c.div_ceil-passed.result in
    let several : 0 < row.others = omega (arith, c.if-row-eq0.false) in
    let some : 0 < row.gap = (c.requires.row several).some in
    let is = sym c.is_free_behind.ensures ∙ c.if-is_free_behind.false in
    let reach : c.from.result + c.from-2.result - c.from-3.result ≡ last.at + n - next.at = omega (arith, c.from.ensures, c.from-2.ensures, c.from-3.ensures) in
    let passed_is : passed ≡ div_ceil (last.at + n - next.at) row.gap = c.div_ceil-passed.ensures ∙ ap₂ div_ceil reach c.from-4.ensures in
    let gaps = gaps_reached n last next row.gap passed some passed_is in
    record {
      later = omega (arith, c.min.ensures, c.requires.within);
      end = omega (arith, c.min.ensures);
      reached = λ k later lt. subst (λ (o : Option Place). IsFreeAt n o row k false) (sym c.in-Some.is) (reached_in_row n last next row from passed k c.place_in-next.ensures is gaps later (omega (arith, lt, c.min.ensures)));
      free = λ within.
          let at : from + passed ≡ c.min.result = omega (arith, within, c.min.ensures) in
          subst (λ (o : Option Place). IsFreeAt n o row c.min.result true) (sym c.in-Some.is)
          (subst (λ (i : ℕ). IsFreeAt n (Some last) row i true) at (free_in_row n last next row from passed c.place_in-next.ensures gaps));
    }
