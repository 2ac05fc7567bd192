use Rattle.std.proofs.Common.{◌≡◌, Some, sym, ap, ◌∙◌, refl, rules}
use Rattle.std.proofs.lemmas.Bool.{false≢true}
use Rattle.std.specs.Prelude.{IsTrue}
use Rattle.cq_history.specs.State.{Slot}
use Rattle.cq_board.proofs.undone.is_taken_by.Goals as goal

pub returns-in-Some : goal.returns-in-Some
returns-in-Some g c =
    let here : IsTrue c.eq.result → c.in-Some.kept.now.holder ≡ Some c.args.by = search rules in
    let there : c.in-Some.kept.now.holder ≡ Some c.args.by → IsTrue c.eq.result = search rules in (
      λ yes. (c.in-Some.ensures.some.0 refl, ap (λ (s : Slot). s.holder) (sym c.in-Some.ensures.slot) ∙ here yes),
      λ taken. there (ap (λ (s : Slot). s.holder) c.in-Some.ensures.slot ∙ taken.1),
    )

pub returns-in-None : goal.returns-in-None
returns-in-None g c = (λ no. absurd (false≢true no), λ taken. absurd (false≢true (c.in-None.ensures.some.1 taken.0)))
