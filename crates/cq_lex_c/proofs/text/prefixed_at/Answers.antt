use Rattle.std.proofs.Common.{◌≡◌, ◌⊎◌, get_or, drop, inl, inr, sym, subst, ◌∙◌}
use Rattle.cq_munch.specs.Characters.{characters}
use Rattle.cq_munch.specs.Longest.{LongestAt}
use Rattle.cq_lex_c.specs.Texts.{IsText, IsSmall, IsPrefixed}
use Rattle.cq_lex_c.proofs.Fitting.{first_at, behind_at, some_at, prefixed_small, prefixed_big, prefixed_none}
use Rattle.cq_lex_c.proofs.text.prefixed_at.Goals as goal
use Rattle.cq_lex_c.proofs.text.prefixed_at.Goals.{then-first-eq85-via-then-first-eq85, then-first-eq85-via-else-first-eq85+then-first-eq76}

pub returns-then-first-eq117-clause-text : goal.returns-then-first-eq117-clause-text
returns-then-first-eq117-clause-text c =
    let units = c.args.units.now in
    let text = characters units in
    let here = subst (λ t. LongestAt IsSmall t c.small_at.result) (behind_at text c.args.at) c.small_at.ensures.text in
    subst (LongestAt IsPrefixed (drop c.args.at text)) (sym c.and_one.ensures)
    (prefixed_small (drop c.args.at text) (some_at units c.args.at c.requires.inside) c.small_at.result (first_at units c.args.at c.requires.inside ∙ c.if-first-eq117.true) here)

pub returns-then-first-eq85-clause-text : goal.returns-then-first-eq85-clause-text
returns-then-first-eq85-clause-text c =
    let units = c.args.units.now in
    let text = characters units in
    let first = first_at units c.args.at c.requires.inside in
    let here = subst (λ t. LongestAt IsText t c.text_at.result) (behind_at text c.args.at) c.text_at.ensures.text in
    let is : (get_or (drop c.args.at text) 0 0 ≡ 85) ⊎ (get_or (drop c.args.at text) 0 0 ≡ 76) =
    elim c.then-first-eq85.branch [
      | then-first-eq85-via-then-first-eq85 w ↦ inl (first ∙ w.if-first-eq85.true)
      | then-first-eq85-via-else-first-eq85+then-first-eq76 w ↦ inr (first ∙ w.if-first-eq76.true)
    ] in
    subst (LongestAt IsPrefixed (drop c.args.at text)) (sym c.and_one-then-first-eq85.ensures)
    (prefixed_big (drop c.args.at text) (some_at units c.args.at c.requires.inside) c.text_at.result is here)

pub returns-clause-text : goal.returns-clause-text
returns-clause-text c =
    let first = first_at c.args.units.now c.args.at c.requires.inside in
    prefixed_none (drop c.args.at (characters c.args.units.now)) (λ e. c.if-first-eq117.false (sym first ∙ e)) (λ e. c.if-first-eq85.false (sym first ∙ e)) (λ e. c.if-first-eq76.false (sym first ∙ e))
