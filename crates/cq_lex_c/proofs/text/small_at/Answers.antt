use Rattle.std.proofs.Common.{◌≡◌, get_or, drop, sym, subst, ◌∙◌}
use Rattle.cq_munch.specs.Characters.{characters}
use Rattle.cq_munch.specs.Longest.{LongestAt}
use Rattle.cq_lex_c.specs.Texts.{IsString, IsSmall}
use Rattle.cq_lex_c.proofs.Fitting.{first_at, behind_at, some_at, nothing_at, eight_string, small_text}
use Rattle.cq_lex_c.proofs.text.small_at.Goals as goal
use Rattle.cq_lex_c.proofs.text.small_at.Goals.{else-at-units-via-then-at-units+else-units-at-eq56, else-at-units-via-else-at-units}

pub returns-then-units-at-eq56-clause-text : goal.returns-then-units-at-eq56-clause-text
returns-then-units-at-eq56-clause-text c =
    let units = c.args.units.now in
    let text = characters units in
    let here = subst (λ t. LongestAt IsString t c.string_at.result) (behind_at text c.args.at) c.string_at.ensures.text in
    subst (LongestAt IsSmall (drop c.args.at text)) (sym c.and_one.ensures)
    (eight_string (drop c.args.at text) (some_at units c.args.at c.if-at-units.true) c.string_at.result (first_at units c.args.at c.if-at-units.true ∙ c.if-units-at-eq56.true) here)

pub returns-else-at-units-clause-text : goal.returns-else-at-units-clause-text
returns-else-at-units-clause-text c =
    let units = c.args.units.now in
    let other : get_or (drop c.args.at (characters units)) 0 0 ≡ 56 → ⊥ =
    elim c.else-at-units.branch [
      | else-at-units-via-then-at-units+else-units-at-eq56 w ↦ λ e. w.if-units-at-eq56.false (sym (first_at units c.args.at w.if-at-units.true) ∙ e)
      | else-at-units-via-else-at-units w ↦ nothing_at units c.args.at w.if-at-units.false
    ] in
    small_text (drop c.args.at (characters units)) other _ c.text_at.ensures.text
